-- Definition, as glue: what is read of a log, and laid over a database.
use Rattle.std.specs.Prelude.{◌≡◌, ℕ, ◌+◌, ◌-◌, ◌≤◌, true, false, List, [], ◌∷◌, ◌++◌, length, slice_index, slice_range, Option, Some, None}
use Rattle.std.specs.List.{flat_map}
use Rattle.rrd_change.specs.Bytes.{begins_with}
use Rattle.rrd_change.specs.Changes.{Change, Piece, all_changed, are_within, body_bytes, changed, changes_in, last_size, piece_bytes, spelled_pieces}
use Rattle.rrd_change.specs.Laws.{TouchByte, chain_end}
use Rattle.rrd_change.specs.Settled.{log_mark, spelled_tail}
use Rattle.rrd_change.specs.Spans.{IsIn}
use Rattle.rrd_change.specs.declared.decoding.Head.{Head}
use Rattle.rrd_change.specs.declared.log.Log.{Log}
use Rattle.rrd_change.specs.declared.span.Span.{Span}

-- bytes are `n` pieces, each of which ends at `end` or before it
pub record HasPieces (n end : ℕ) (bytes : List ℕ) : Type 0 where
  pub spelled : bytes ≡ flat_map piece_bytes (spelled_pieces n bytes)
  pub within : are_within end (spelled_pieces n bytes) ≡ true

-- the span of each piece
abbrev pub spans_of : List Piece → List Span
spans_of [] = []
spans_of (p ∷ rest) = record { start = p.start; end = p.start + length p.bytes } ∷ spans_of rest

-- bytes after a change was laid over them
pub record IsLaid (c : Change) (old new : List ℕ) : Type 0 where
  pub len : length new ≡ length old
  pub each : (k : ℕ) → slice_index new k ≡ changed c k (slice_index old k)

-- the head of the change with which bytes begin
pub record IsHeadOf (h : Head) (c : Change) (bytes : List ℕ) : Type 0 where
  pub size : h.size ≡ c.size
  pub within : 48 + h.length ≤ length bytes
  pub count : h.length ≡ length (body_bytes c)
  pub pieces : spelled_pieces h.pieces (slice_range bytes 48 (48 + h.length)) ≡ c.pieces
  pub has : HasPieces h.pieces h.size (slice_range bytes 48 (48 + h.length))

abbrev pub IsHead : Option Head → Option Change → List ℕ → Type 0
IsHead None o bytes = o ≡ None
IsHead (Some h) o bytes = (c : Change) × (o ≡ Some c) × IsHeadOf h c bytes

-- the changes of a log, which begins where `old` ends, were laid over `old`
pub record IsLogRead (old bytes new : List ℕ) (log : Log) (size : ℕ) : Type 0 where
  pub tail : log.tail ≡ length old
  pub len : length new ≡ length old
  pub each : (k : ℕ) → slice_index new k ≡ all_changed (changes_in (length old) (old ++ bytes)) k (slice_index old k)
  pub last : size ≡ last_size 0 (changes_in (length old) (old ++ bytes))
  pub fits : size ≤ length old
  pub count : log.changes ≡ length (changes_in (length old) (old ++ bytes)) - 1
  pub end : log.end ≡ chain_end (length old) (changes_in (length old) (old ++ bytes))
  pub touched : (k : ℕ) → TouchByte k (changes_in (length old) (old ++ bytes)) → IsIn k log.spans.items
  pub only : (k : ℕ) → IsIn k log.spans.items → TouchByte k (changes_in (length old) (old ++ bytes))

-- the offset that a log mark at the beginning of a file says
abbrev pub IsOffset : Option ℕ → List ℕ → Type 0
IsOffset None file = begins_with file (log_mark (spelled_tail file)) ≡ false
IsOffset (Some tail) file = (tail ≡ spelled_tail file) × (begins_with file (log_mark (spelled_tail file)) ≡ true)
