-- Definition: last: the text that it prints (rrdlast).
use Rattle.std.specs.Prelude.{◌++◌, ℕ, ℤ, List, Result, Ok, codes, pos}
use Rattle.rrd_tool.specs.Names.{time_text, Refusal, Content}

abbrev pub time_line : ℤ → List ℕ
time_line time = time_text time ++ codes "\n"

-- the time of the last update, or the start
abbrev pub last_text : Content → Result (List ℕ) Refusal
last_text content = Ok (time_line (pos content.last))
