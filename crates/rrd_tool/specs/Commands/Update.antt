-- Definition: update: its shape, and how its values are parsed (rrdupdate).
use Rattle.std.specs.Prelude.{ℕ, List, Option, Some, Result, Ok, codes, if◌then◌else◌}
use Rattle.rrd_tool.specs.Names.{bytes_eq, App, Row, Text, first_of, new_app, with_rule, number_of, whole_of, Name, Given, Sample}
use Rattle.rrd_tool.specs.Arguments.{letter_rule, many_rule, words_of}
use Rattle.rrd_tool.specs.Fields.{◌>>?◌, each_in, field, is_unknown, name_of, pieces}
use Rattle.rrd_tool.specs.Fields.Parts.{Unread, ◌>>=◌, each_of, optional}
use Rattle.rrd_tool.specs.Commands.Names.{name_text}
use Rattle.rrd_tool.specs.declared.commands.Command.{Command}
use Rattle.rrd_tool.specs.declared.commands.Command.TheVariants as command
use Rattle.rrd_tool.specs.declared.commands.name.CommandName.TheVariants as verb
use Rattle.rrd_tool.specs.declared.faults.Part.TheVariants as part

unfoldable pub update_app : App
update_app = with_rule (with_rule (new_app (name_text verb.Update))
    (letter_rule (codes "template") (codes "template") 116))
    (many_rule (codes "sample"))

-- ---- its template and its samples

-- names, joined by colons
abbrev pub template_of : Text → Option (List Name)
template_of text = each_in name_of (pieces text)

-- the time of a sample; `N` is now
abbrev pub time_of : ℕ → Text → Option ℕ
time_of now text = if bytes_eq text (codes "N") then Some now else whole_of text

-- a value of a sample; `U` is unknown
abbrev pub value_of : Text → Option Given
value_of text =
    if is_unknown text then Some Given.Unknown else number_of text >>? (λ number. Some (Given.Number number))

-- `time:value[:value..]`
abbrev pub sample_of : ℕ → Text → Option Sample
sample_of now text =
    field (time_of now) text (λ time rest.
    each_in value_of (pieces rest) >>? (λ values. Some (record { time = time; values = values })))

-- ---- its values

-- an update by its template and the words of its samples
abbrev pub samples_of : Option (List Name) → List Text → ℕ → Result Command Unread
samples_of template words now =
    each_of (sample_of now) part.Sample 1 words
    >>= (λ samples. Ok (command.Update (record { template = template; samples = samples })))

abbrev pub update_of : List Row → ℕ → Result Command Unread
update_of rows now =
    optional template_of part.Template (first_of (codes "template") rows)
    >>= (λ template. samples_of template (words_of (codes "sample") rows) now)
