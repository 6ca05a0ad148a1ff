-- Definition: the command that a list of arguments means (the order in which the parts are parsed is this project's
-- rule).
use Rattle.std.specs.Prelude.{◌≡◌, ℕ, List, Option, Some, Result, Ok, Err}
use Rattle.rrd_tool.specs.Names.{Text}
use Rattle.rrd_tool.specs.Commands.{line_of}
use Rattle.rrd_tool.specs.Arguments.Taken.{IsTaken, entered_of}
use Rattle.rrd_tool.specs.Fields.Parts.{Unread}
use Rattle.rrd_tool.specs.declared.commands.Command.{Command}
use Rattle.rrd_tool.specs.declared.faults.LineFault.{LineFault}
use Rattle.rrd_tool.specs.declared.faults.LineFault.TheVariants.{Usage, BadWord, OutOfMemory}

-- the command, or the first part that cannot be parsed; `None` if clap refuses the arguments
abbrev pub reading : List Text → ℕ → Option (Result Command Unread)
reading words now = line_of (entered_of words) now

-- the result of `read_command`: the reading of the arguments if clap accepts them, and else `Usage`; memory may run out
-- for any arguments
abbrev pub IsReading : List Text → ℕ → Result Command LineFault → Type 0
IsReading words now (Ok command) = IsTaken words × (reading words now ≡ Some (Ok command))
IsReading words now (Err (BadWord part number)) = IsTaken words × (reading words now ≡ Some (Err (part, number)))
IsReading words now (Err Usage) = ¬ IsTaken words
IsReading words now (Err OutOfMemory) = Unit {0}
