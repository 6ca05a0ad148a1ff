-- Definition: create: its shape, and how its values are parsed (rrdcreate; `--journal` is this project's).
use Rattle.std.specs.Prelude.{◌-◌, ℕ, ℤ, List, [], ◌∷◌, Option, Some, None, Result, Ok, codes, if◌then◌else◌}
use Rattle.rrd_tool.specs.Names.{bytes_eq, App, Row, Text, first_of, new_app, with_rule, number_of, whole_of, DsDef, RraDef}
use Rattle.rrd_tool.specs.Arguments.{letter_rule, many_rule, option_rule, words_of}
use Rattle.rrd_tool.specs.Fields.{◌>>?◌, bound_of, cut_of, field, function_of, kind_of, name_of}
use Rattle.rrd_tool.specs.Fields.Parts.{Unread, ◌>>=◌, each_of, given}
use Rattle.rrd_tool.specs.Commands.Names.{name_text}
use Rattle.rrd_tool.specs.declared.commands.Command.{Command}
use Rattle.rrd_tool.specs.declared.commands.Command.TheVariants as command
use Rattle.rrd_tool.specs.declared.commands.name.CommandName.TheVariants as verb
use Rattle.rrd_tool.specs.declared.commands.create.Definition.{Definition}
use Rattle.rrd_tool.specs.declared.faults.Part.TheVariants as part

unfoldable pub create_app : App
create_app = with_rule (with_rule (with_rule (with_rule (new_app (name_text verb.Create))
    (letter_rule (codes "step") (codes "step") 115))
    (letter_rule (codes "start") (codes "start") 98))
    (option_rule (codes "journal") (codes "journal")))
    (many_rule (codes "definition"))

-- ---- its definitions

-- a share in millionths
abbrev pub share_of : Text → Option ℤ
share_of text = number_of text >>? (λ number. Some number.millionths)

-- `name:type:heartbeat:min:max`
abbrev pub source_of : Text → Option DsDef
source_of text =
    field name_of text (λ name rest.
    field kind_of rest (λ kind rest.
    field whole_of rest (λ heartbeat rest.
    field bound_of rest (λ min rest.
    bound_of rest >>? (λ max.
    Some (record { name = name; kind = kind; heartbeat = heartbeat; min = min; max = max }))))))

-- `function:xff:steps:rows`
abbrev pub archive_of : Text → Option RraDef
archive_of text =
    field function_of text (λ function rest.
    field share_of rest (λ xff rest.
    field whole_of rest (λ steps rest.
    whole_of rest >>? (λ rows. Some (record { function = function; xff = xff; steps = steps; rows = rows })))))

-- `DS:` and a data source, or `RRA:` and an archive
abbrev pub definition_of : Text → Option Definition
definition_of text =
    cut_of text >>? (λ cut.
    if bytes_eq cut.0 (codes "DS") then source_of cut.1 >>? (λ source. Some (Definition.Source source))
    else (if bytes_eq cut.0 (codes "RRA") then archive_of cut.1 >>? (λ archive. Some (Definition.Archive archive))
    else None))

-- the data sources among the definitions, in their order
abbrev pub sources_in : List Definition → List DsDef
sources_in [] = []
sources_in (Definition.Source source ∷ more) = source ∷ sources_in more
sources_in (Definition.Archive archive ∷ more) = sources_in more

-- the archives among the definitions, in their order
abbrev pub archives_in : List Definition → List RraDef
archives_in [] = []
archives_in (Definition.Source source ∷ more) = archives_in more
archives_in (Definition.Archive archive ∷ more) = archive ∷ archives_in more

-- ---- its values

-- the data sources and the archives that the arguments define, each in their order
abbrev pub definitions_of : List Text → Result (List DsDef × List RraDef) Unread
definitions_of words =
    each_of definition_of part.Definition 1 words
    >>= (λ definitions. Ok (sources_in definitions, archives_in definitions))

-- the default of the step is 300 seconds, and of the start ten seconds before now (rrdcreate); the default of the
-- journal is 16 changes (this project's rule)
abbrev pub create_of : List Row → ℕ → Result Command Unread
create_of rows now =
    given whole_of part.Step (first_of (codes "step") rows) 300
    >>= (λ step. given whole_of part.Start (first_of (codes "start") rows) (now - 10)
    >>= (λ start. given whole_of part.Journal (first_of (codes "journal") rows) 16
    >>= (λ depth. definitions_of (words_of (codes "definition") rows)
    >>= (λ defined. Ok (command.Create (record {
      step = step;
      start = start;
      depth = depth;
      sources = defined.0;
      archives = defined.1;
    }))))))
