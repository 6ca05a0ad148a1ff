-- Definition: a change, which says new bytes at absolute offsets, its bytes in a log, and laying changes over bytes.
use Rattle.std.specs.Prelude.{◌≡◌, ℕ, zero, suc, ◌+◌, ◌-◌, ◌^◌, ◌<◌, ◌≤◌, ◌&&◌, nat_le, nat_lt, Bool, true, List, [], ◌∷◌, ◌++◌, length, drop, slice_index, slice_range, Option, Some, None, if◌then◌else◌}
use Rattle.std.specs.Int.{w64, to_be_bytes, from_be_bytes}
use Rattle.std.specs.List.{flat_map}
use Rattle.rrd_change.specs.Bytes.{begins_with, bytes_by}
use Rattle.rrd_change.specs.Checksum.{seed, mix_bytes}

-- new bytes, and their offset in the database
pub record Piece : Type 0 where
  pub start : ℕ
  pub bytes : List ℕ

-- a change: the length of the database after it, and the pieces that it lays over the bytes before it
pub record Change : Type 0 where
  pub size : ℕ
  pub pieces : List Piece

-- ---- the bytes of a change in a log

abbrev pub piece_bytes : Piece → List ℕ
piece_bytes p = to_be_bytes w64 p.start ++ to_be_bytes w64 (length p.bytes) ++ p.bytes

abbrev pub body_bytes : Change → List ℕ
body_bytes c = flat_map piece_bytes c.pieces

-- the numbers before a change's checksum: its own offset, the offset of the log, the number of bytes and of pieces
-- that follow, and the length of the database
abbrev pub front_bytes : ℕ → ℕ → ℕ → ℕ → ℕ → List ℕ
front_bytes tail at count pieces size = to_be_bytes w64 at ++ to_be_bytes w64 tail ++ to_be_bytes w64 count ++ to_be_bytes w64 pieces ++ to_be_bytes w64 size

-- the checksum of a change: of these numbers, and then of the bytes that follow
abbrev pub sum_of : List ℕ → List ℕ → ℕ
sum_of front body = mix_bytes (mix_bytes seed front) body

-- the 48 bytes before the pieces, which are `body`
abbrev pub head_bytes : ℕ → ℕ → ℕ → ℕ → List ℕ → List ℕ
head_bytes tail at pieces size body =
    let front = front_bytes tail at (length body) pieces size in
    front ++ to_be_bytes w64 (sum_of front body)

unfoldable pub change_head : ℕ → ℕ → Change → List ℕ
change_head tail at c = head_bytes tail at (length c.pieces) c.size (body_bytes c)

abbrev pub change_bytes : ℕ → ℕ → Change → List ℕ
change_bytes tail at c = change_head tail at c ++ body_bytes c

-- the number of those bytes
abbrev pub change_size : Change → ℕ
change_size c = 48 + length (body_bytes c)

-- ---- a change that is right

-- each piece ends at or below the end of the database
abbrev pub are_within : ℕ → List Piece → Bool
are_within end [] = true
are_within end (p ∷ rest) = nat_le (p.start + length p.bytes) end && are_within end rest

-- a database ends at or below the log, and its pieces within it
pub record IsRight (tail : ℕ) (c : Change) : Type 0 where
  pub fits : tail < 2 ^ 64
  pub body_fits : length (body_bytes c) < 2 ^ 64
  pub enough : 16 ≤ c.size
  pub below : c.size ≤ tail
  pub pieces : are_within c.size c.pieces ≡ true

abbrev pub is_right : ℕ → Change → Bool
is_right tail c =
    nat_lt tail (2 ^ 64) && nat_lt (length (body_bytes c)) (2 ^ 64) && nat_le 16 c.size && nat_le c.size tail && are_within c.size c.pieces

-- ---- reading

-- the pieces that bytes spell, if these are so many pieces
abbrev pub spelled_pieces : ℕ → List ℕ → List Piece
spelled_pieces zero bytes = []
spelled_pieces (suc n) bytes =
    let count = from_be_bytes w64 (slice_range bytes 8 16) in
    record { start = from_be_bytes w64 (slice_range bytes 0 8); bytes = slice_range bytes 16 (16 + count) } ∷ spelled_pieces n (drop (16 + count) bytes)

-- the change that bytes spell, if they begin with one
unfoldable pub spelled_change : List ℕ → Change
spelled_change bytes = record {
  size = from_be_bytes w64 (slice_range bytes 32 40);
  pieces = spelled_pieces (from_be_bytes w64 (slice_range bytes 24 32)) (drop 48 bytes);
}

-- the right and complete change with which these bytes begin
unfoldable pub read_change : ℕ → ℕ → List ℕ → Option Change
read_change tail at bytes = let c = spelled_change bytes in
    if begins_with bytes (change_bytes tail at c) && is_right tail c then Some c else None

abbrev pub change_at : ℕ → List ℕ → ℕ → Option Change
change_at tail file at = read_change tail at (drop at file)

-- the changes of a log from an offset on: one after another, up to the first that is not right; at most `most`
abbrev pub changes_from : ℕ → List ℕ → ℕ → ℕ → List Change
changes_from tail file zero at = []
changes_from tail file (suc most) at =
    elim (change_at tail file at) [ None ↦ [] | Some c ↦ c ∷ changes_from tail file most (at + change_size c) ]

-- all changes of a file's log. A file has fewer changes than bytes
abbrev pub changes_in : ℕ → List ℕ → List Change
changes_in tail file = changes_from tail file (length file) tail

-- ---- laying over

-- byte k of a piece, if the piece has it, otherwise b
abbrev pub laid : Piece → ℕ → ℕ → ℕ
laid p k b = if nat_le p.start k && nat_lt k (p.start + length p.bytes) then slice_index p.bytes (k - p.start) else b

abbrev pub all_laid : List Piece → ℕ → ℕ → ℕ
all_laid [] k b = b
all_laid (p ∷ rest) k b = all_laid rest k (laid p k b)

-- byte k after a change: bytes behind the end of the database are gone, so that they count as 0 if it grows again
abbrev pub changed : Change → ℕ → ℕ → ℕ
changed c k b = if nat_lt k c.size then all_laid c.pieces k b else 0

abbrev pub all_changed : List Change → ℕ → ℕ → ℕ
all_changed [] k b = b
all_changed (c ∷ rest) k b = all_changed rest k (changed c k b)

abbrev pub last_size : ℕ → List Change → ℕ
last_size size [] = size
last_size size (c ∷ rest) = last_size c.size rest

-- a file with these changes in its log stands for its own bytes with the changes laid over them; without a change, for
-- itself. The first change says how the database began before the mark: its length, and its first sixteen bytes
abbrev pub laid_over : List Change → List ℕ → List ℕ
laid_over [] file = file
laid_over (c ∷ rest) file = bytes_by (λ k. all_changed (c ∷ rest) k (slice_index file k)) (last_size c.size rest)
