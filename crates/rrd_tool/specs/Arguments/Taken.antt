-- Definition: the arguments that clap states that it accepts, and the subcommand that they enter.
use Rattle.std.specs.Prelude.{◌≡◌, List, [], Option}
use Rattle.rrd_tool.specs.Names.{Row, Text, fault_of, subcommand_of}
use Rattle.rrd_tool.specs.Commands.{rrdi_app}

-- clap states that it accepts the arguments
abbrev pub IsTaken : List Text → Type 0
IsTaken words = fault_of rrdi_app words ≡ []

-- the subcommand that the arguments name, with the values of its arguments
unfoldable pub entered_of : List Text → Option (Text × List Row)
entered_of words = subcommand_of rrdi_app words
