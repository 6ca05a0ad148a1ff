-- Definition: the file after the calls of a record, and whether the answers are those of an honest file (own).
use Rattle.std.specs.Prelude.{ℕ, zero, suc, ◌+◌, ◌-◌, ◌%◌, ◌==◌, nat_le, Bool, true, false, not, ◌&&◌, ◌||◌, List, [], ◌∷◌, ◌++◌, length, take, drop, replicate, slice_index, bytes_eq}
use Rattle.rrd_disk.specs.Events.{Event, Made, Measured, Got, Put, PutFailed, Sized, SizeFailed, Streamed}
use Rattle.rrd_disk.specs.Events.{Missing as NotFound}
use Rattle.rrd_store.specs.Storages.{Held, Missing, Bytes}

-- ---- what is assumed

-- what the file was before the first call; and what those calls left that failed, in their order. Of a write the number
-- says how many of its first bytes were written all the same. Of a change of the length it is 0 if the file stayed as it
-- was, and any other number if the file got that length. Calls for which there is no number left nothing
pub record World : Type 0 where
  pub start : Held
  pub parts : List ℕ

-- how many of these calls failed that may have left something
abbrev pub failures : List Event → ℕ
failures [] = 0
failures (PutFailed at bytes ∷ earlier) = suc (failures earlier)
failures (SizeFailed count ∷ earlier) = suc (failures earlier)
failures (_ ∷ earlier) = failures earlier

-- the number of the next call, if it fails
abbrev pub part_after : World → List Event → ℕ
part_after w earlier = slice_index w.parts (failures earlier)

-- ---- the effects of calls

-- the file with a length of `count` bytes: cut, or with zeros at its end
unfoldable pub padded : List ℕ → ℕ → List ℕ
padded file count = take count (file ++ replicate (count - length file) 0)

-- the same, or the file as it was
abbrev pub padded_or_not : List ℕ → ℕ → ℕ → List ℕ
padded_or_not file count zero = file
padded_or_not file count (suc part) = padded file count

-- the file with these bytes written at an offset: zeros fill a gap before them, and no bytes change nothing
unfoldable pub overlaid : List ℕ → ℕ → List ℕ → List ℕ
overlaid file at [] = file
overlaid file at (byte ∷ more) = padded file at ++ (byte ∷ more) ++ drop (at + length (byte ∷ more)) file

-- the bytes after a call of a file that had these before, by the number of the call
abbrev pub bytes_left : List ℕ → ℕ → Event → List ℕ
bytes_left file part (Put at bytes taken) = overlaid file at (take taken bytes)
bytes_left file part (PutFailed at bytes) = overlaid file at (take part bytes)
bytes_left file part (Sized count) = padded file count
bytes_left file part (SizeFailed count) = padded_or_not file count part
bytes_left file part _ = file

-- one call makes a file where there was none
abbrev pub left : Held → ℕ → Event → Held
left Missing part Made = Bytes []
left Missing part _ = Missing
left (Bytes file) part event = Bytes (bytes_left file part event)

-- the file after these calls, of which the newest comes first
abbrev pub held_after : World → List Event → Held
held_after w [] = w.start
held_after w (event ∷ earlier) = left (held_after w earlier) (part_after w earlier) event

abbrev pub bytes_of : Held → List ℕ
bytes_of Missing = []
bytes_of (Bytes bytes) = bytes

abbrev pub is_there : Held → Bool
is_there Missing = false
is_there (Bytes bytes) = true

-- its bytes; none if there is no file
abbrev pub bytes_after : World → List Event → List ℕ
bytes_after w events = bytes_of (held_after w events)

-- ---- honest answers

-- an honest read: the bytes are the file's at this offset. If none came, none were wanted, or the file ends there or
-- before
unfoldable pub is_honest_read : List ℕ → ℕ → ℕ → List ℕ → Bool
is_honest_read file at wanted [] = (wanted == 0) || nat_le (length file) at
is_honest_read file at wanted (byte ∷ more) = bytes_eq (take (length (byte ∷ more)) (drop at file)) (byte ∷ more)

-- bytes within one sector, or within the first page and from the first byte on
abbrev pub is_small : ℕ → ℕ → Bool
is_small at count = nat_le (at % 512 + count) 512 || ((at == 0) && nat_le count 4096)

-- a write of which so many bytes were written: of such a small one all of them, or none. That is a premise about the system
unfoldable pub is_honest_part : ℕ → List ℕ → ℕ → Bool
is_honest_part at bytes part = not (is_small at (length bytes)) || ((part == 0) || nat_le (length bytes) part)

-- an honest file with these bytes may have answered so. A write may be cut short: it then reports how many of its bytes were
-- written. A pipe is no file
abbrev pub is_honest_call : List ℕ → ℕ → Event → Bool
is_honest_call file part NotFound = false
is_honest_call file part (Measured count) = count == length file
is_honest_call file part (Got at wanted bytes) = is_honest_read file at wanted bytes
is_honest_call file part (Put at bytes taken) = nat_le taken (length bytes) && is_honest_part at bytes taken
is_honest_call file part (PutFailed at bytes) = is_honest_part at bytes part
is_honest_call file part Streamed = false
is_honest_call file part _ = true

-- the same if there is no file
abbrev pub is_honest_of : Held → ℕ → Event → Bool
is_honest_of Missing part NotFound = true
is_honest_of Missing part Made = true
is_honest_of Missing part _ = false
is_honest_of (Bytes file) part event = is_honest_call file part event

-- all answers are those of an honest file that nobody else wrote
abbrev pub is_honest_after : World → List Event → Bool
is_honest_after w [] = true
is_honest_after w (event ∷ earlier) = is_honest_of (held_after w earlier) (part_after w earlier) event && is_honest_after w earlier
