-- Definition: what an explanation calls wrong (own).
use Rattle.std.specs.Prelude.{ℕ, Bool, List, is_some}
use Rattle.rrd_tool.specs.Commands.Update.{value_of}

-- a text that a sample may have as a value
abbrev pub is_value : List ℕ → Bool
is_value text = is_some (value_of text)
