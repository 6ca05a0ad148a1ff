-- Definition: resize: its shape, and how its values are parsed (rrdresize).
use Rattle.std.specs.Prelude.{List, Option, Some, None, Result, Ok, codes, if◌then◌else◌}
use Rattle.rrd_tool.specs.Names.{bytes_eq, App, Row, Text, first_of, new_app, with_rule, whole_of, Change}
use Rattle.rrd_tool.specs.Arguments.{required_rule}
use Rattle.rrd_tool.specs.Fields.Parts.{Unread, ◌>>=◌, required}
use Rattle.rrd_tool.specs.Commands.Names.{name_text}
use Rattle.rrd_tool.specs.declared.commands.Command.{Command}
use Rattle.rrd_tool.specs.declared.commands.Command.TheVariants as command
use Rattle.rrd_tool.specs.declared.commands.name.CommandName.TheVariants as verb
use Rattle.rrd_tool.specs.declared.faults.Part.TheVariants as part

unfoldable pub resize_app : App
resize_app = with_rule (with_rule (with_rule (new_app (name_text verb.Resize))
    (required_rule (codes "archive")))
    (required_rule (codes "change")))
    (required_rule (codes "rows"))

abbrev pub change_of : Text → Option Change
change_of text =
    if bytes_eq text (codes "GROW") then Some Change.Grow
    else (if bytes_eq text (codes "SHRINK") then Some Change.Shrink else None)

abbrev pub resize_of : List Row → Result Command Unread
resize_of rows =
    required whole_of part.Archive (first_of (codes "archive") rows)
    >>= (λ archive. required change_of part.Change (first_of (codes "change") rows)
    >>= (λ change. required whole_of part.Rows (first_of (codes "rows") rows)
    >>= (λ count. Ok (command.Resize archive change count))))
