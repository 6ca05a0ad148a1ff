-- Law: the effect of many equal seconds or steps, all at once.
use Rattle.std.specs.Prelude.{◌≡◌, ℕ, ◌+◌, ◌-◌, ◌*◌, ◌/◌, ◌%◌, ◌<◌, ◌≤◌, pos, ◌≤ℤ◌, List, ◌∷◌, ◌++◌, length, map, replicate}
use Rattle.rrd_spec.specs.Names.{fold, Cell, Average, nothing, row_cell, step_cell, with_each}
use Rattle.rrd_spec.specs.Limits.{present}
use Rattle.rrd_spec.specs.History.{Rra, Content, IsBase}
use Rattle.rrd_spec.specs.Laws.ListedContent.{keep_last}
use Rattle.rrd_spec.specs.Laws.Passing.{archive_passed, passed}

-- ---- an archive after `before` steps

-- steps may pass in two parts
abbrev pub StepsInPieces : ℕ → ℕ → Rra → List (List Cell) → List (List Cell) → Type 0
StepsInPieces sources before archive xs ys =
    0 < archive.def.steps
    → archive_passed sources before (xs ++ ys) archive
    ≡ archive_passed sources (before + length xs) ys (archive_passed sources before xs archive)

-- steps that do not finish their row change only its parts
abbrev pub StepsWithin : ℕ → ℕ → Rra → List (List Cell) → Type 0
StepsWithin sources before archive steps =
    let def = archive.def in
    0 < def.steps → before + length steps < (before / def.steps + 1) * def.steps →
    archive_passed sources before steps archive
    ≡ record archive { parts = fold (with_each def.function) archive.parts steps }

-- the number of steps that the row in progress needs after the next one
abbrev pub steps_left : ℕ → ℕ → ℕ
steps_left before size = (before / size + 1) * size - (before + 1)

-- one step, and many equal steps that fill the row and go on: they finish the row in progress, make whole rows of the
-- equal steps, and leave the rest in the unfinished row
abbrev pub StepsOver : ℕ → ℕ → ℕ → Rra → List Cell → List Cell → Type 0
StepsOver sources before count archive first then =
    let def = archive.def in
    let left = steps_left before def.steps in
    let full = fold (with_each def.function) archive.parts (first ∷ replicate left then) in
    let row = map (row_cell def.function def.xff def.steps) full in
    0 < def.steps → pos 0 ≤ℤ def.xff → def.xff ≤ℤ pos present.max_xff →
    length then ≡ sources → left ≤ count →
    archive_passed sources before (first ∷ replicate count then) archive ≡ record archive {
      parts = fold (with_each def.function) (replicate sources nothing) (replicate ((count - left) % def.steps) then);
      rows = keep_last (length archive.rows) (archive.rows ++ row ∷ replicate ((count - left) / def.steps) then);
    }

-- ---- a content

-- the seconds left of the step in progress, and those of `count` whole steps, all with the same rates: they end the
-- step, and then `count` steps with these rates
abbrev pub SecondsOver : Content → ℕ → ℕ → List Cell → Type 0
SecondsOver base left count rates =
    let sources = length base.sources in
    let step = map (step_cell base.step) (fold (with_each Average) base.parts (replicate left rates)) in
    IsBase base → base.last + left ≡ (base.last / base.step + 1) * base.step → length rates ≡ sources →
    passed base (replicate (left + count * base.step) rates) ≡ record base {
      last = base.last + (left + count * base.step);
      parts = replicate sources nothing;
      archives = map (archive_passed sources (base.last / base.step) (step ∷ replicate count rates)) base.archives;
    }
