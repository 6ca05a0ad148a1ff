-- Definition: a file that is written for the first time; and, as glue, how far it is written.
use Rattle.std.specs.Prelude.{◌≡◌, ◌⊎◌, ℕ, ◌<◌, ◌≤◌, max, List, [], length, slice_index}
use Rattle.rrd_change.specs.Views.{All, World}

-- the file has no bytes, and the disk has none of it
abbrev pub IsEmpty : World → Type 0
IsEmpty w = All (λ c. c ≡ []) w

-- the file is the new database; or it begins with a zero, or has no byte, so that it is no database and has no mark
abbrev pub IsUnmade : List ℕ → List ℕ → Type 0
IsUnmade new file = (slice_index file 0 ≡ 0) ⊎ (file ≡ new)

-- the new bytes from the seventeenth on, up to an offset, were written
pub record IsMadeTo (end : ℕ) (new old file : List ℕ) : Type 0 where
  pub len : 16 ≤ length old → length file ≡ max (length old) end
  pub made : (k : ℕ) → 16 ≤ k → k < end → slice_index file k ≡ slice_index new k
  pub first : (k : ℕ) → k < 16 → slice_index file k ≡ slice_index old k

-- the first sixteen bytes are unchanged
abbrev pub StaysFirst : List ℕ → List ℕ → Type 0
StaysFirst old file = (k : ℕ) → k < 16 → slice_index file k ≡ slice_index old k
