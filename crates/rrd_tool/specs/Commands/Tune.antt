-- Definition: tune: its shape, and how its values are parsed (rrdtune).
use Rattle.std.specs.Prelude.{List, Option, Some, None, Result, Ok, codes, if◌then◌else◌}
use Rattle.rrd_tool.specs.Names.{bytes_eq, App, Row, Text, first_of, new_app, with_rule, whole_of, Name, ArchiveTune}
use Rattle.rrd_tool.specs.Arguments.{letter_rule, option_rule, word_rule}
use Rattle.rrd_tool.specs.Fields.{◌>>?◌, bound_of, cut_of, field, kind_of, name_of}
use Rattle.rrd_tool.specs.Commands.Create.{archive_of}
use Rattle.rrd_tool.specs.Fields.Parts.{Unread, ◌>>=◌, optional}
use Rattle.rrd_tool.specs.Commands.Names.{name_text}
use Rattle.rrd_tool.specs.declared.commands.Command.{Command}
use Rattle.rrd_tool.specs.declared.commands.Command.TheVariants as command
use Rattle.rrd_tool.specs.declared.commands.name.CommandName.TheVariants as verb
use Rattle.rrd_tool.specs.declared.faults.Part.TheVariants as part

unfoldable pub tune_app : App
tune_app = with_rule (with_rule (with_rule (with_rule (with_rule (with_rule (new_app (name_text verb.Tune))
    (option_rule (codes "heartbeat") (codes "heartbeat")))
    (letter_rule (codes "minimum") (codes "minimum") 105))
    (letter_rule (codes "maximum") (codes "maximum") 97))
    (letter_rule (codes "type") (codes "data-source-type") 100))
    (letter_rule (codes "rename") (codes "data-source-rename") 114))
    (word_rule (codes "definition"))

-- a name, and the value after the first colon
abbrev pub setting_of : {A : Type 0} → (Text → Option A) → Text → Option (Name × A)
setting_of read text = field name_of text (λ name rest. read rest >>? (λ value. Some (name, value)))

-- `RRA:` and an archive to add, or `DELRRA:` and the number of an archive to remove
abbrev pub archive_tune_of : Text → Option ArchiveTune
archive_tune_of text =
    cut_of text >>? (λ cut.
    if bytes_eq cut.0 (codes "RRA") then archive_of cut.1 >>? (λ def. Some (ArchiveTune.Add def))
    else (if bytes_eq cut.0 (codes "DELRRA") then whole_of cut.1 >>? (λ number. Some (ArchiveTune.Remove number))
    else None))

abbrev pub tune_of : List Row → Result Command Unread
tune_of rows =
    optional (setting_of whole_of) part.Heartbeat (first_of (codes "heartbeat") rows)
    >>= (λ heartbeat. optional (setting_of bound_of) part.Minimum (first_of (codes "minimum") rows)
    >>= (λ minimum. optional (setting_of bound_of) part.Maximum (first_of (codes "maximum") rows)
    >>= (λ maximum. optional (setting_of kind_of) part.Kind (first_of (codes "type") rows)
    >>= (λ kind. optional (setting_of name_of) part.Rename (first_of (codes "rename") rows)
    >>= (λ rename. optional archive_tune_of part.Definition (first_of (codes "definition") rows)
    >>= (λ archive. Ok (command.Tune (record {
      heartbeat = heartbeat;
      minimum = minimum;
      maximum = maximum;
      kind = kind;
      rename = rename;
      archive = archive;
    }))))))))
