-- The parts of steps and rows, and the cells that they give, stay in their bounds.
use Rattle.std.specs.Prelude.{◌≡◌, ℕ, suc, ◌+◌, ◌-◌, ◌*◌, ◌<◌, ◌≤◌, true, List, [], ◌∷◌, length, replicate, ℤ, pos, ◌≤ℤ◌, unsigned_abs, ◌^◌, int_lt}
use Rattle.rrd_spec.proofs.Names.{refl, ◌∙◌, ap, arith, ◌*ℤ◌, ltb, cond_both, ltb-false, length-replicate, length-map, AllByRecursion, Cell, Known, top, IsBounded, near_limit, Function, Average, RraDef, Part, nothing, with_value, with_cell, with_each, step_cell, row_cell, All-map, All-replicate, weight, IsPart, AreParts, IsRow, near, seconds_to_steps, steps_to_rows}
use Rattle.rrd_fixed.specs.declared.cell.Cell.TheVariants.{Unknown}
use Rattle.rrd_spec.proofs.Kept.{Keeps}

-- ---- one source

-- unknown steps alone are more than xff allows
too_few : (xff : ℤ) (steps : ℕ) → 0 < steps → pos 0 ≤ℤ xff → xff ≤ℤ pos 999999 → int_lt (xff *ℤ pos steps) (pos (steps * 10 ^ 6)) ≡ true
too_few xff steps some low high = grind arith

no_part : (function : Function) → IsPart function 0 nothing
no_part function = record { few = omega arith; bounded = omega arith; empty = λ e. refl }

value_bounded : (function : Function) (known : ℕ) (value new : ℤ) → unsigned_abs value ≤ weight function known * top → unsigned_abs new ≤ top → unsigned_abs (with_value function known value new) ≤ weight function (known + 1) * top
value_bounded function known value new h k = grind arith

cell_more : (function : Function) (n : ℕ) (part : Part) (cell : Cell) → IsPart function n part → IsBounded cell → IsPart function (n + 1) (with_cell function part cell)
cell_more function n part cell is h = grind (arith, value_bounded)

step_bounded : (step : ℕ) (part : Part) → 0 < step → IsPart Average step part → IsBounded (step_cell step part)
step_bounded step part some is =
    cond_both (ltb step (2 * (step - part.known))) Unknown (Known (near part.value (pos part.known))) IsBounded (λ e. tt)
    (λ e. near_limit part.value part.known top (omega (arith, ltb-false step (2 * (step - part.known)) e)) is.bounded)

row_bounded : (def : RraDef) (part : Part) → 0 < def.steps → pos 0 ≤ℤ def.xff → def.xff ≤ℤ pos 999999 → IsPart def.function def.steps part → IsBounded (row_cell def.function def.xff def.steps part)
row_bounded def part some low high is = grind arith

-- ---- all sources

each_more : (function : Function) (n : ℕ) (parts : List Part) (cells : List Cell) → length parts ≡ length cells → AllByRecursion (IsPart function n) parts → AllByRecursion IsBounded cells → AllByRecursion (IsPart function (n + 1)) (with_each function parts cells)
each_more function n [] cells e is h = tt
each_more function n (part ∷ parts) [] e is h = absurd (omega arith)
each_more function n (part ∷ parts) (cell ∷ cells) e is h = (cell_more function n part cell is.0 h.0, each_more function n parts cells (omega arith) is.1 h.1)

length-with_each : (function : Function) (parts : List Part) (cells : List Cell) → length (with_each function parts cells) ≡ length parts
length-with_each function [] cells = refl
length-with_each function (part ∷ parts) [] = refl
length-with_each function (part ∷ parts) (cell ∷ cells) = ap suc (length-with_each function parts cells)

pub no_parts : (function : Function) (sources : ℕ) → AreParts function sources 0 (replicate sources nothing)
no_parts function sources = record { one_each = length-replicate sources nothing; each = All-replicate (IsPart function 0) sources nothing (no_part function) }

pub more : (function : Function) (sources n : ℕ) (parts : List Part) (row : List Cell) → AreParts function sources n parts → IsRow sources row → AreParts function sources (n + 1) (with_each function parts row)
more function sources n parts row is h = grind (arith, length-with_each, each_more)

pub steps_keep : (step sources : ℕ) → 0 < step → Keeps (seconds_to_steps step sources) (IsRow sources) (AreParts Average sources) (IsRow sources)
steps_keep step sources some = record {
  some = some;
  starts = no_parts Average sources;
  adds = λ n parts row few is h. more Average sources n parts row is h;
  closes = λ parts is. record {
    one_each = length-map parts (step_cell step) ∙ is.one_each;
    each = All-map (IsPart Average step) IsBounded (step_cell step) parts (λ part h. step_bounded step part some h) is.each;
  };
}

pub rows_keep : (def : RraDef) (sources : ℕ) → 0 < def.steps → pos 0 ≤ℤ def.xff → def.xff ≤ℤ pos 999999 → Keeps (steps_to_rows def sources) (IsRow sources) (AreParts def.function sources) (IsRow sources)
rows_keep def sources some low high = record {
  some = some;
  starts = no_parts def.function sources;
  adds = λ n parts row few is h. more def.function sources n parts row is h;
  closes = λ parts is. record {
    one_each = length-map parts (row_cell def.function def.xff def.steps) ∙ is.one_each;
    each = All-map (IsPart def.function def.steps) IsBounded (row_cell def.function def.xff def.steps) parts (λ part h. row_bounded def part some low high h) is.each;
  };
}
