-- Definition: first: its shape, how its value is parsed, and the text that it prints (rrdfirst).
use Rattle.std.specs.Prelude.{ℕ, List, Result, Ok, codes}
use Rattle.rrd_tool.specs.Names.{result_map_both, App, Row, first_of, new_app, with_rule, whole_of, Refusal, oldest_time, Content}
use Rattle.rrd_tool.specs.Arguments.{option_rule}
use Rattle.rrd_tool.specs.Commands.Last.{time_line}
use Rattle.rrd_tool.specs.Fields.Parts.{Unread, ◌>>=◌, given}
use Rattle.rrd_tool.specs.Commands.Names.{name_text}
use Rattle.rrd_tool.specs.declared.commands.Command.{Command}
use Rattle.rrd_tool.specs.declared.commands.Command.TheVariants as command
use Rattle.rrd_tool.specs.declared.commands.name.CommandName.TheVariants as verb
use Rattle.rrd_tool.specs.declared.faults.Part.TheVariants as part

unfoldable pub first_app : App
first_app = with_rule (new_app (name_text verb.First)) (option_rule (codes "rraindex") (codes "rraindex"))

-- the default is archive 0 (rrdfirst)
abbrev pub first_from : List Row → Result Command Unread
first_from rows =
    given whole_of part.Archive (first_of (codes "rraindex") rows) 0
    >>= (λ index. Ok (command.First index))

-- the time of the archive's oldest row, or the refusal
abbrev pub first_text : Content → ℕ → Result (List ℕ) Refusal
first_text content index = result_map_both time_line (λ refusal. refusal) (oldest_time content index)
