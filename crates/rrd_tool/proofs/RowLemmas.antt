-- Rows that are put from the last to the first.
use Rattle.std.specs.Prelude.{◌≡◌, ◌+◌, ◌-◌, ◌*◌, ◌/◌, ◌<◌, ◌≤◌, ◌++◌, ℕ, zero, suc, List, Option, Some, None, min, IfNone, IfSome, slice_index_or}
use Rattle.rrd_tool.proofs.Names.{◌∙◌, sym, ap, arith, append_assoc, le-div, Cell, texts_below}
use Rattle.rrd_tool.proofs.PrintLemmas.{below_more}

-- what a row has at a source, also where there is none
pub cell_read : {B : Type 0} (now : B → List Cell) (row : Option B) (n i : ℕ) (cell : Cell) (at : ℕ → Cell)
    → IfSome row (λ r. (s : ℕ) → slice_index_or (now r) s Cell.Unknown ≡ at s) → IfNone row ((s : ℕ) → s < n → at s ≡ Cell.Unknown)
    → IfSome row (λ r. cell ≡ slice_index_or (now r) i Cell.Unknown) → IfNone row (cell ≡ Cell.Unknown) → i < n → cell ≡ at i
cell_read now (Some r) n i cell at cells none is not inside = is ∙ cells i
cell_read now None n i cell at cells none is not inside = not ∙ sym (none i inside)

-- the text before what is put grows shorter by one text, which is put
pub one_put : (f : ℕ → List ℕ) (k n : ℕ) (text rest all : List ℕ) → n ≡ k + 1 → text ≡ f k → texts_below f n ++ rest ≡ all → texts_below f k ++ (text ++ rest) ≡ all
one_put f k n text rest all e is before =
    ap (λ l. texts_below f k ++ (l ++ rest)) is ∙ (sym (append_assoc (texts_below f k) (f k) rest) ∙ (ap (λ l. l ++ rest) (sym (below_more f k)) ∙ (ap (λ m. texts_below f m ++ rest) (sym e) ∙ before)))

-- room for n things has room for one, and for the others beside it
pub room_step : (n size at : ℕ) → 0 < n → n * size ≤ at → (size ≤ at) × ((n - 1) * size ≤ at - size)
room_step zero size at some room = absurd (omega arith)
room_step (suc m) size at some room = grind arith

-- some fit
pub div_some : (a b : ℕ) → 0 < b → b ≤ a → 0 < a / b
div_some a b some le = le-div 1 a b some (omega (arith, le))

pub min_first : (a b m : ℕ) → m ≡ min a b → m ≤ a
min_first a b m e = omega (arith, e)
