-- Glue: the line that the buffer of an unfinished line represents.
use Rattle.std.specs.Prelude.{◌≡◌, ◌≤◌, ◌++◌, ◌∷◌, [], ℕ, List, length, true, false}
use Rattle.rrd_tool.specs.Names.{list_all}
use Rattle.rrd_tool.specs.Lines.{is_plain, is_text, without_cr}
use Rattle.rrd_tool.specs.declared.lines.Ending.{Ending}
use Rattle.rrd_tool.specs.declared.lines.Ending.TheVariants.{Plain, Cr, Lost}
use Rattle.rrd_tool.specs.declared.lines.LineBuffer.{LineBuffer}

-- no line that begins with these bytes is a text
abbrev pub IsLost : List ℕ → Type 0
IsLost unfinished = (more : List ℕ) → is_text (without_cr (unfinished ++ more)) ≡ false

abbrev pub BuffersBy : Ending → List ℕ → List ℕ → Type 0
BuffersBy Plain bytes unfinished = (unfinished ≡ bytes) × (list_all is_plain bytes ≡ true) × (length bytes ≤ 65536)
BuffersBy Cr bytes unfinished =
    (unfinished ≡ bytes ++ 13 ∷ []) × (list_all is_plain bytes ≡ true) × (length bytes ≤ 65536)
BuffersBy Lost bytes unfinished = IsLost unfinished

-- these bytes of a line are in the buffer, or the buffer says that they are lost
abbrev pub Buffers : LineBuffer → List ℕ → Type 0
Buffers line unfinished = BuffersBy line.ending line.bytes.items unfinished
