-- An archive that takes a step and many of another: what holds between the calls.
use Rattle.std.specs.Prelude.{◌≡◌, ℕ, ◌+◌, ◌-◌, ◌*◌, ◌/◌, ◌%◌, ◌≤◌, List, length, replicate}
use Rattle.rrd_base.proofs.Names.{refl, sym, ◌∙◌, ap, subst, arith, fold, AllByRecursion, Cell, Function, Part, with_each, RraDef, PartsGrow, Rra, IsRow, IsValidArchive}
use Rattle.rrd_base.proofs.PushedRows.{row_fits}
use Rattle.rrd_base.proofs.Passing.{few_known, parts_more, still_fit}

-- how many steps of the row are missing after the next one
abbrev pub left_of : ℕ → RraDef → ℕ
left_of before def = (before / def.steps + 1) * def.steps - (before + 1)

-- after the first step; by the law of parts
pub record Begun (before : ℕ) (now : Rra) (def : RraDef) (then : List Cell) : Type 0 where
  pub row : IsRow (length now.parts) then
  pub fits : (k : ℕ) → before % def.steps + 1 + k ≤ def.steps → AllByRecursion (λ (p : Part). p.known + k ≤ 1000000) now.parts

pub begun : (grow : (function : Function) (sources n : ℕ) (parts : List Part) (row : List Cell) → PartsGrow function sources n parts row) (before : ℕ) (archive now : Rra) (first then : List Cell) → IsValidArchive (length first) before archive → IsRow (length first) first → IsRow (length first) then → now ≡ record archive { parts = fold (with_each archive.def.function) archive.parts (replicate 1 first) } → Begun before now archive.def then
begun grow before archive now first then is one many e =
    let f = archive.def.function in
    let j = before % archive.def.steps in
    let parts = parts_more grow f (length first) j 1 archive.parts first is.parts_are one in
    subst (λ (x : Rra). Begun before x archive.def then) (sym e)
    (record {
      row = subst (λ k. IsRow k then) (sym parts.one_each) many;
      fits = λ k h. still_fit f (j + 1) k 1000000 (fold (with_each f) archive.parts (replicate 1 first)) (omega arith) parts.each;
    })

-- what the row's preparations hold, once it has all its steps
abbrev pub filled : Rra → List Cell → List Cell → ℕ → List Part
filled archive first then left = fold (with_each archive.def.function) (fold (with_each archive.def.function) archive.parts (replicate 1 first)) (replicate left then)

-- once the row has all its steps
pub record Full (archive now : Rra) (first then : List Cell) (left : ℕ) : Type 0 where
  pub is : now ≡ record archive { parts = filled archive first then left }
  pub wide : length now.parts ≡ length first
  pub known : AllByRecursion (λ (p : Part). p.known ≤ now.def.steps) now.parts

pub full : (grow : (function : Function) (sources n : ℕ) (parts : List Part) (row : List Cell) → PartsGrow function sources n parts row) (before : ℕ) (archive one now : Rra) (first then : List Cell) → IsValidArchive (length first) before archive → IsRow (length first) first → IsRow (length first) then → one ≡ record archive { parts = fold (with_each archive.def.function) archive.parts (replicate 1 first) } → now ≡ record one { parts = fold (with_each one.def.function) one.parts (replicate (left_of before archive.def) then) } → Full archive now first then (left_of before archive.def)
full grow before archive one now first then is alone many e g =
    let n = length first in
    let f = archive.def.function in
    let j = before % archive.def.steps in
    let left = left_of before archive.def in
    let begin = parts_more grow f n j 1 archive.parts first is.parts_are alone in
    let parts = parts_more grow f n (j + 1) left (fold (with_each f) archive.parts (replicate 1 first)) then begin many in
    let whole = g ∙ ap (λ (x : Rra). let y : Rra = record x { parts = fold (with_each x.def.function) x.parts (replicate left then) } in y) e in
    subst (λ (x : Rra). Full archive x first then left) (sym whole)
    (record {
      is = refl;
      wide = parts.one_each;
      known = few_known f (j + 1 + left) archive.def.steps (filled archive first then left) (omega (arith, row_fits before archive.def.steps is.some_steps)) parts.each;
    })
