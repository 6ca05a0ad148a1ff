-- Glue: the shape of a command that is built, and whether it reads words as the whole one does.
use Rattle.std.specs.Prelude.{◌≡◌, List, [], Option, Result, Ok, Err, true, false, option_and_then, slice_get}
use Rattle.rrd_tool.specs.Names.{App, Text, app_of, fault_of, is_simple, is_simple_and_free, subcommand_of, subcommand_rows_of, with_subcommand, Command, out-Command, ArgMatches}
use Rattle.rrd_tool.specs.Arguments.{bare_top}
use Rattle.rrd_tool.specs.Commands.{rrdi_app}
use Rattle.rrd_tool.specs.Commands.Names.{name_in}
use Rattle.rrd_tool.specs.declared.commands.name.CommandName.{CommandName}
use Rattle.rrd_tool.specs.Arguments.Taken.{IsTaken, entered_of}
use Rattle.rrd_tool.specs.declared.faults.LineFault.{LineFault}
use Rattle.rrd_tool.specs.declared.faults.LineFault.TheVariants.{Usage, BadWord, OutOfMemory}

-- the command has this shape, and none of its arguments is visible to other commands
abbrev pub HasApp : App → Command → Type 0
HasApp a c = (app_of c ≡ a) × ((out-Command c).has_globals ≡ false)

-- the command with only this subcommand
abbrev pub app_with : App → App
app_with s = with_subcommand bare_top s.top

-- the command accepts and refuses the arguments as the whole one does, and enters the same subcommand
abbrev pub Serves : App → List Text → Type 0
Serves a words = (fault_of a words ≡ fault_of rrdi_app words) × (subcommand_of a words ≡ subcommand_of rrdi_app words)
    × (is_simple a ≡ true) × (is_simple_and_free a ≡ true)

-- the whole command refuses the arguments
abbrev pub IsRefused : List Text → Type 0
IsRefused words = ¬ (fault_of rrdi_app words ≡ [])

-- the name of the command that the words begin with
abbrev pub first_name : List Text → Option CommandName
first_name words = option_and_then name_in (slice_get words 0)

-- the matches are those of arguments that clap accepts; a usage error means that clap refuses the arguments; memory may
-- run out for any arguments
abbrev pub IsParsedBy : List Text → Result ArgMatches LineFault → Type 0
IsParsedBy words (Ok matches) = IsTaken words × (subcommand_rows_of matches ≡ entered_of words)
IsParsedBy words (Err OutOfMemory) = Unit {0}
IsParsedBy words (Err Usage) = ¬ IsTaken words
IsParsedBy words (Err (BadWord part number)) = ⊥
