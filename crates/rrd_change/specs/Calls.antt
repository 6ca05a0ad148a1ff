-- Definition: the effects of the calls of a file that is changed, on the bytes of the file.
use Rattle.std.specs.Prelude.{◌≡◌, ◌⊎◌, ℕ, ◌+◌, ◌<◌, ◌≤◌, max, List, length, take, slice_index}

-- Byte k of a list counts as 0 if the list is shorter, like a byte of a file after the file gets longer.

-- these are so many bytes of the file from an offset on
pub record AreAt (file : List ℕ) (at count : ℕ) (bytes : List ℕ) : Type 0 where
  pub len : length bytes ≡ count
  pub within : at + count ≤ length file
  pub each : (i : ℕ) → i < count → slice_index bytes i ≡ slice_index file (at + i)

-- these bytes are at this offset, and all other bytes are unchanged
pub record ArePut (at : ℕ) (bytes old new : List ℕ) : Type 0 where
  pub len : length new ≡ max (length old) (at + length bytes)
  pub inside : (i : ℕ) → i < length bytes → slice_index new (at + i) ≡ slice_index bytes i
  pub outside : (k : ℕ) → (k < at) ⊎ (at + length bytes ≤ k) → slice_index new k ≡ slice_index old k

-- so many bytes from an offset on may be any bytes now
pub record AreAny (at count : ℕ) (old new : List ℕ) : Type 0 where
  pub longer : length old ≤ length new
  pub bound : length new ≤ max (length old) (at + count)
  pub outside : (k : ℕ) → (k < at) ⊎ (at + count ≤ k) → slice_index new k ≡ slice_index old k

-- the first `n` of these bytes were written; or nothing, if `n` is 0
pub record IsFrontPut (at n : ℕ) (bytes old new : List ℕ) : Type 0 where
  pub none : n ≡ 0 → new ≡ old
  pub some : 0 < n → ArePut at (take n bytes) old new

-- a write that was cut short: any bytes may be there now. Behind the end of the file a first part of the bytes is
pub record IsCut (at : ℕ) (bytes old new : List ℕ) : Type 0 where
  pub any : AreAny at (length bytes) old new
  pub front : length old ≤ at → (n : ℕ) × (n ≤ length bytes) × IsFrontPut at n bytes old new

-- all of these bytes were written, or none
abbrev pub AreWholeOrNot : ℕ → List ℕ → List ℕ → List ℕ → Type 0
AreWholeOrNot at bytes old new = (new ≡ old) ⊎ ArePut at bytes old new

-- what the disk may have of a write within one sector: all of it, or nothing, if the file had bytes there before. A file that
-- the write makes longer may have got its length before its bytes, so that any bytes may be there
pub record IsTorn (at : ℕ) (bytes old new : List ℕ) : Type 0 where
  pub any : AreAny at (length bytes) old new
  pub whole : at + length bytes ≤ length old → AreWholeOrNot at bytes old new

-- the file has `count` bytes: it was truncated, or zeros were appended
pub record IsSized (count : ℕ) (old new : List ℕ) : Type 0 where
  pub len : length new ≡ count
  pub below : (k : ℕ) → k < count → slice_index new k ≡ slice_index old k

abbrev pub IsSizedOrNot : ℕ → List ℕ → List ℕ → Type 0
IsSizedOrNot count old new = (new ≡ old) ⊎ IsSized count old new

-- bytes from one offset up to another are those of `read`, and all other bytes are unchanged. They were there before
pub record AreRestored (read : List ℕ) (from end : ℕ) (old new : List ℕ) : Type 0 where
  pub len : end ≤ length old → length new ≡ length old
  pub inside : (k : ℕ) → from ≤ k → k < end → slice_index new k ≡ slice_index read k
  pub outside : (k : ℕ) → (k < from) ⊎ (end ≤ k) → slice_index new k ≡ slice_index old k

-- some of these bytes are, if they were there before
pub record AreMixed (read : List ℕ) (from end : ℕ) (old new : List ℕ) : Type 0 where
  pub len : end ≤ length old → length new ≡ length old
  pub each : end ≤ length old → (k : ℕ) → (slice_index new k ≡ slice_index old k) ⊎ ((from ≤ k) × (k < end) × (slice_index new k ≡ slice_index read k))
