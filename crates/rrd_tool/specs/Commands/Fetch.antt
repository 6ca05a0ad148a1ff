-- Definition: fetch: its shape, how its values are parsed, and the text that it prints (rrdfetch, "Output format", with
-- cells in plain digits; `--resolution` as a whole number is this project's rule).
use Rattle.std.specs.Prelude.{◌+◌, ◌-◌, ◌*◌, ◌/◌, ◌++◌, ◌∷◌, [], ℕ, ℤ, List, zero, suc, codes, pos, length, Result, Ok}
use Rattle.rrd_tool.specs.Names.{unwrap_or, result_map_both, App, Row, first_of, new_app, with_rule, whole_of, cell_text, time_text, Chosen, FetchRequest, DsDef, Refusal, choice, Content, cell_at}
use Rattle.rrd_tool.specs.Arguments.{letter_rule, required_rule}
use Rattle.rrd_tool.specs.Fields.{function_of}
use Rattle.rrd_tool.specs.Fields.Parts.{Unread, ◌>>=◌, given, optional, required}
use Rattle.rrd_tool.specs.Commands.Names.{name_text}
use Rattle.rrd_tool.specs.declared.commands.Command.{Command}
use Rattle.rrd_tool.specs.declared.commands.Command.TheVariants as command
use Rattle.rrd_tool.specs.declared.commands.name.CommandName.TheVariants as verb
use Rattle.rrd_tool.specs.declared.faults.Part.TheVariants as part

unfoldable pub fetch_app : App
fetch_app = with_rule (with_rule (with_rule (with_rule (new_app (name_text verb.Fetch))
    (required_rule (codes "function")))
    (letter_rule (codes "resolution") (codes "resolution") 114))
    (letter_rule (codes "start") (codes "start") 115))
    (letter_rule (codes "end") (codes "end") 101)

-- the default of the end is now, of the start one day before the end, and of the resolution one second (rrdfetch)
abbrev pub fetch_of : List Row → ℕ → Result Command Unread
fetch_of rows now =
    required function_of part.Function (first_of (codes "function") rows)
    >>= (λ function. given whole_of part.Resolution (first_of (codes "resolution") rows) 1
    >>= (λ asked. optional whole_of part.Start (first_of (codes "start") rows)
    >>= (λ start. given whole_of part.End (first_of (codes "end") rows) now
    >>= (λ end. Ok (command.Fetch (record {
      function = function;
      asked = asked;
      start = unwrap_or start (end - 86400);
      end = end;
    }))))))

-- ---- the text that is printed

-- the texts f 0, f 1, .. f (n - 1), one after another
abbrev pub texts_below : (ℕ → List ℕ) → ℕ → List ℕ
texts_below f zero = []
texts_below f (suc n) = texts_below f n ++ f n

-- a space before each name
abbrev pub names_text : List DsDef → List ℕ
names_text [] = []
names_text (source ∷ sources) = codes " " ++ source.name ++ names_text sources

abbrev pub header_text : List DsDef → List ℕ
header_text sources = codes "time:" ++ names_text sources ++ codes "\n"

-- a row: its time, and for each data source a space and the cell
abbrev pub row_text : Content → ℕ → ℤ → List ℕ
row_text content archive time =
    time_text time ++ codes ":"
    ++ texts_below (λ source. codes " " ++ cell_text (cell_at content archive time source)) (length content.sources)
    ++ codes "\n"

-- the chosen row with this number, from 0 on
abbrev pub row_of : Content → Chosen → ℕ → List ℕ
row_of content chosen k = row_text content chosen.archive (pos (chosen.lo + (k + 1) * chosen.res))

-- the rows at the multiples of the resolution above `lo`, up to and including `hi`
abbrev pub rows_text : Content → Chosen → List ℕ
rows_text content chosen = texts_below (row_of content chosen) ((chosen.hi - chosen.lo) / chosen.res)

-- the rows after a line with the names of the data sources
abbrev pub fetch_text : Content → Chosen → List ℕ
fetch_text content chosen = header_text content.sources ++ rows_text content chosen

-- the text that a fetch prints, or its refusal
abbrev pub fetch_answer : Content → FetchRequest → Result (List ℕ) Refusal
fetch_answer content request =
    result_map_both (fetch_text content) (λ refusal. refusal)
    (choice content request.function request.asked request.start request.end)
