-- Definition: lastupdate: the text that it prints (rrdlastupdate, with the header of fetch and raw values in plain
-- digits).
use Rattle.std.specs.Prelude.{◌++◌, [], ℕ, List, Result, Ok, codes, length, pos, slice_get, slice_index_or}
use Rattle.rrd_tool.specs.Names.{option_map_or, Unknown, raw_text, time_text, DsDef, Refusal, Content}
use Rattle.rrd_tool.specs.Commands.Fetch.{header_text, texts_below}

-- a space, and the raw value of data source `number`
abbrev pub raw_at : Content → ℕ → List ℕ
raw_at content number =
    option_map_or
    (λ (source : DsDef). codes " " ++ raw_text source.kind (slice_index_or content.raws number Unknown))
    (slice_get content.sources number) []

-- the last time, and the raw values
abbrev pub raws_text : Content → List ℕ
raws_text content =
    time_text (pos content.last) ++ codes ":" ++ texts_below (raw_at content) (length content.sources) ++ codes "\n"

-- that line after a line with the names of the data sources
abbrev pub lastupdate_text : Content → Result (List ℕ) Refusal
lastupdate_text content = Ok (header_text content.sources ++ raws_text content)
