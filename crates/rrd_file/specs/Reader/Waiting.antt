-- Glue: bytes that wait in a part of a buffer.
use Rattle.std.specs.Prelude.{◌≡◌, ◌≤◌, ℕ, List, length}

pub record IsWaiting (bytes : List ℕ) (from end : ℕ) : Type 0 where
  pub ordered : from ≤ end
  pub within : end ≤ length bytes
  pub whole : length bytes ≡ 2048
