-- Definition: the lines of an input, and the arguments on a line (this project's rule; RRDtool reads such lines in its
-- command `-`).
use Rattle.std.specs.Prelude.{◌==◌, ◌&&◌, ◌||◌, ◌++◌, ◌∷◌, [], ℕ, Bool, List, Option, Some, None, length, if◌then◌else◌, nat_le, true, false}
use Rattle.rrd_tool.specs.Names.{list_all, list_any}
pub mod Buffer

-- a line without the CR at its end
abbrev pub without_cr : List ℕ → List ℕ
without_cr [] = []
without_cr (b ∷ []) = if b == 13 then [] else b ∷ []
without_cr (b ∷ c ∷ bs) = b ∷ without_cr (c ∷ bs)

-- whether LF ends a line in the bytes
abbrev pub has_end : List ℕ → Bool
has_end bytes = list_any (λ b. b == 10) bytes

-- the lines that LF ends, without their ends, where the first one's bytes `unfinished` came before
abbrev pub whole_lines : List ℕ → List ℕ → List (List ℕ)
whole_lines unfinished [] = []
whole_lines unfinished (b ∷ bs) =
    if b == 10 then without_cr unfinished ∷ whole_lines [] bs else whole_lines (unfinished ++ b ∷ []) bs

-- the bytes after the last LF
abbrev pub last_part : List ℕ → List ℕ → List ℕ
last_part unfinished [] = unfinished
last_part unfinished (b ∷ bs) = if b == 10 then last_part [] bs else last_part (unfinished ++ b ∷ []) bs

abbrev pub is_empty : {A : Type 0} → List A → Bool
is_empty [] = true
is_empty (x ∷ xs) = false

-- the line, if it has a byte
abbrev pub if_some : List ℕ → List (List ℕ)
if_some line = if is_empty line then [] else line ∷ []

-- the lines of a whole input: a last one without LF counts
abbrev pub lines_of : List ℕ → List (List ℕ)
lines_of bytes = whole_lines [] bytes ++ if_some (last_part [] bytes)

-- tab or printable ASCII
abbrev pub is_plain : ℕ → Bool
is_plain b = b == 9 || (nat_le 32 b && nat_le b 126)

-- at most 65,536 bytes, each plain
abbrev pub is_text : List ℕ → Bool
is_text line = nat_le (length line) 65536 && list_all is_plain line

-- the line, if it is a text
abbrev pub text_in : List ℕ → Option (List ℕ)
text_in line = if is_text line then Some line else None

-- space or tab
abbrev pub is_blank : ℕ → Bool
is_blank b = b == 32 || b == 9

-- the arguments in a text, separated by blanks; the bytes `unfinished` of the first one came before
abbrev pub words_after : List ℕ → List ℕ → List (List ℕ)
words_after unfinished [] = if_some unfinished
words_after unfinished (b ∷ bs) =
    if is_blank b then if_some unfinished ++ words_after [] bs else words_after (unfinished ++ b ∷ []) bs

abbrev pub words_of : List ℕ → List (List ℕ)
words_of text = words_after [] text
