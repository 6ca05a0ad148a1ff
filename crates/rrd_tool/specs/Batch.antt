-- Definition: a run over lines; for each line the run may report that memory ran out (this project's rule).
use Rattle.std.specs.Prelude.{◌≡◌, ◌+◌, ◌++◌, ◌∷◌, ◌&&◌, [], ℕ, Bool, List, Option, false, length, map, take, if◌then◌else◌}
use Rattle.rrd_tool.specs.Names.{Appends}
use Rattle.rrd_tool.specs.Lines.{is_empty}
pub mod Run
pub mod Answers
pub mod Moved

-- a line, and whether the run reported that memory ran out for it
pub record Told : Type 0 where
  pub line : List ℕ
  pub is_short : Bool

-- the result of a line: the state after it, the text that is written, and whether this is the text of an error
pub record Turn (S : Type 0) : Type 0 where
  pub state : S
  pub text : List ℕ
  pub is_fault : Bool

abbrev pub line_told : Told → List ℕ
line_told told = told.line

-- whether the line of an error was written completely: the text is that of an error, and no rest of it is unwritten
abbrev pub is_told : Bool → List ℕ → Bool
is_told is_fault unwritten = is_fault && is_empty unwritten

-- the number of lines that were started, and the numbers of the lines whose error was written completely. Lines are
-- numbered from 1
pub record Tally : Type 0 where
  pub lines : ℕ
  pub refused : List ℕ

abbrev pub no_lines : Tally
no_lines = record { lines = 0; refused = [] }

-- one more line
abbrev pub tallied : Tally → Bool → Tally
tallied t is_refused =
    record { lines = t.lines + 1; refused = if is_refused then t.refused ++ (t.lines + 1) ∷ [] else t.refused }

-- the report of a tally that keeps at most `most` numbers: how many lines were refused, and the first of their numbers
abbrev pub Counts : ℕ → Tally → ℕ → List ℕ → Type 0
Counts most t count numbers = (count ≡ length t.refused) × (numbers ≡ take most t.refused)

module _ {S : Type 0} (turn : S → Told → Turn S) where
  abbrev pub state_after : S → List Told → S
  state_after s [] = s
  state_after s (p ∷ ps) = state_after (turn s p).state ps

  abbrev pub text_of : S → List Told → List ℕ
  text_of s [] = []
  text_of s (p ∷ ps) = (turn s p).text ++ text_of (turn s p).state ps

  abbrev pub tally_after : Tally → S → List Told → Tally
  tally_after t s [] = t
  tally_after t s (p ∷ ps) = tally_after (tallied t (turn s p).is_fault) (turn s p).state ps

  -- the lines were run: the state and the tally are those after them, and their texts were written
  pub record Ran (s0 s1 : S) (t0 t1 : Tally) (c0 c1 : Option (List ℕ)) (lines : List (List ℕ)) : Type 0 where
    pub told : List Told
    pub lines_are : map line_told told ≡ lines
    pub state : s1 ≡ state_after s0 told
    pub tally : t1 ≡ tally_after t0 s0 told
    pub text : Appends c0 c1 (text_of s0 told)

  -- some of the lines were run, and then writing or flushing the text of the next line failed: a prefix of the text is
  -- written. So that line has a text: if writing fails at once, the line is the first one with a text. The line of an
  -- error counts if it was written completely
  pub record Stopped (s0 s1 : S) (t0 t1 : Tally) (c0 c1 : Option (List ℕ)) (lines : List (List ℕ)) : Type 0 where
    pub told : List Told
    pub last : Told
    pub unrun : List (List ℕ)
    pub front : List ℕ
    pub unwritten : List ℕ
    pub lines_are : map line_told told ++ last.line ∷ unrun ≡ lines
    pub speaks : is_empty (turn (state_after s0 told) last).text ≡ false
    pub state : s1 ≡ (turn (state_after s0 told) last).state
    pub tally : t1 ≡ tallied (tally_after t0 s0 told) (is_told (turn (state_after s0 told) last).is_fault unwritten)
    pub front_is : (turn (state_after s0 told) last).text ≡ front ++ unwritten
    pub text : Appends c0 c1 (text_of s0 told ++ front)
