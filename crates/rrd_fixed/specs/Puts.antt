-- Definition: what it is to put a text before an index of a buffer.
use Rattle.std.specs.Prelude.{◌≡◌, ◌+◌, ◌++◌, ℕ, List, length, drop}

-- the text ends before `end` and begins at `start`; the bytes from `end` on are as they were
pub record Puts (old new : List ℕ) (end : ℕ) (text : List ℕ) (start : ℕ) : Type 0 where
  pub begins : start + length text ≡ end
  pub bytes : drop start new ≡ text ++ drop end old
