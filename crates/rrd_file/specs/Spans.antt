-- Definition: where two lists of bytes may differ (own).
use Rattle.std.specs.Prelude.{◌≡◌, ◌⊎◌, ℕ, ◌<◌, ◌≤◌, List, length, slice_index}
use Rattle.rrd_file.specs.Names.{All}
use Rattle.rrd_file.specs.declared.span.Span.{Span}

-- byte k is not in the span
abbrev pub IsBeside : ℕ → Span → Type 0
IsBeside k span = (k < span.start) ⊎ (span.end ≤ k)

-- each new byte that is in none of these spans is the old byte there
pub record AgreesOutside (spans : List Span) (old new : List ℕ) : Type 0 where
  pub each :
      (k : ℕ) → k < length new → All (IsBeside k) spans → (k < length old) × (slice_index old k ≡ slice_index new k)

-- the span is within so many bytes
pub record IsWithin (count : ℕ) (span : Span) : Type 0 where
  pub start : span.start ≤ count
  pub end : span.end ≤ count
