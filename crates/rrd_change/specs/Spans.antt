-- Definition: the change that spans of new bytes make; and, as glue, which spans lie within bytes.
use Rattle.std.specs.Prelude.{◌≡◌, ◌⊎◌, ℕ, ◌<◌, ◌≤◌, List, [], ◌∷◌, length, slice_index, slice_range}
use Rattle.rrd_change.specs.Changes.{Change, Piece}
use Rattle.rrd_change.specs.declared.span.Span.{Span}

-- byte k is in one of the spans
abbrev pub IsIn : ℕ → List Span → Type 0
IsIn k [] = ⊥
IsIn k (span ∷ rest) = ((span.start ≤ k) × (k < span.end)) ⊎ IsIn k rest

-- the new bytes are the old ones, except in the spans. Where there are more of them than before, the spans have the bytes that
-- come
pub record AgreesOutside (spans : List Span) (old new : List ℕ) : Type 0 where
  pub each : (k : ℕ) → k < length new → IsIn k spans ⊎ ((k < length old) × (slice_index new k ≡ slice_index old k))

abbrev pub piece_of : List ℕ → Span → Piece
piece_of bytes span = record { start = span.start; bytes = slice_range bytes span.start span.end }

abbrev pub pieces_of : List ℕ → List Span → List Piece
pieces_of bytes [] = []
pieces_of bytes (span ∷ rest) = piece_of bytes span ∷ pieces_of bytes rest

-- the change to a database of `size` bytes that puts these spans of bytes there
abbrev pub change_of : ℕ → List ℕ → List Span → Change
change_of size bytes spans = record { size = size; pieces = pieces_of bytes spans }

-- the spans lie within the bytes
abbrev pub AreSpans : ℕ → List Span → Type 0
AreSpans count [] = Unit {0}
AreSpans count (span ∷ rest) = ((span.start ≤ span.end) × (span.end ≤ count)) × AreSpans count rest
