-- Definition: info: the text that it prints (rrdinfo, with values in plain digits; `journal`, `undoable` and `last_raw`
-- are this project's).
use Rattle.std.specs.Prelude.{◌++◌, [], ℕ, ℤ, List, Option, Some, None, Result, Ok, codes, decimal, length, pos, slice_get, slice_index_or}
use Rattle.rrd_tool.specs.Names.{option_map_or, Raw, raw_text, signed_text, time_text, Refusal, DsDef, RraDef, Content, definitions, Stored}
use Rattle.rrd_tool.specs.Commands.Fetch.{texts_below}
use Rattle.rrd_tool.specs.Fields.{function_text, kind_text}

-- ---- values

-- a bound in millionths, or `U` for no bound
abbrev pub bound_text : Option ℤ → List ℕ
bound_text None = codes "U"
bound_text (Some bound) = signed_text bound

-- ---- lines

-- a line: the item that the setting belongs to, the name of the setting, and the value
abbrev pub setting : List ℕ → List ℕ → List ℕ → List ℕ
setting of name value = of ++ name ++ codes " = " ++ value ++ codes "\n"

-- the data source or archive with a number, as the lines of its settings begin: `ds[0].`
abbrev pub numbered : List ℕ → ℕ → List ℕ
numbered items number = items ++ codes "[" ++ decimal number ++ codes "]."

-- the step, the last time, the depth of the journal, and the number of changes that can be reverted
abbrev pub head_text : Stored → List ℕ
head_text kept =
    setting [] (codes "step") (decimal kept.content.step)
    ++ setting [] (codes "last_update") (time_text (pos kept.content.last))
    ++ setting [] (codes "journal") (decimal kept.content.depth)
    ++ setting [] (codes "undoable") (decimal (length kept.journal))

-- a data source, with its raw value
abbrev pub source_text : ℕ → DsDef → Raw → List ℕ
source_text number source raw =
    let of = numbered (codes "ds") number in
    setting of (codes "name") source.name
    ++ setting of (codes "type") (kind_text source.kind)
    ++ setting of (codes "minimal_heartbeat") (decimal source.heartbeat)
    ++ setting of (codes "min") (bound_text source.min)
    ++ setting of (codes "max") (bound_text source.max)
    ++ setting of (codes "last_raw") (raw_text source.kind raw)

abbrev pub archive_text : ℕ → RraDef → List ℕ
archive_text number def =
    let of = numbered (codes "rra") number in
    setting of (codes "cf") (function_text def.function)
    ++ setting of (codes "xff") (signed_text def.xff)
    ++ setting of (codes "steps") (decimal def.steps)
    ++ setting of (codes "rows") (decimal def.rows)

-- ---- the whole text

-- the lines of data source `number`
abbrev pub source_at : Content → ℕ → List ℕ
source_at content number =
    option_map_or (λ (source : DsDef). source_text number source (slice_index_or content.raws number Raw.Unknown))
    (slice_get content.sources number) []

-- the lines of archive `number`, with its present number of rows
abbrev pub archive_at : Content → ℕ → List ℕ
archive_at content number =
    option_map_or (archive_text number) (slice_get (definitions content.archives) number) []

abbrev pub info_text : Stored → Result (List ℕ) Refusal
info_text kept = Ok (
    head_text kept
    ++ texts_below (source_at kept.content) (length kept.content.sources)
    ++ texts_below (archive_at kept.content) (length kept.content.archives))
