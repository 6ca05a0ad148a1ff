-- Definition: the bytes of a text that stays in its line, and commands no terminal (own).
use Rattle.std.specs.Prelude.{◌==◌, ◌&&◌, ℕ, Bool, nat_le, not}

-- no control character of ASCII
abbrev pub is_in_line : ℕ → Bool
is_in_line b = nat_le 32 b && not (b == 127)
