-- The names from outside that the proofs import, passed on from one place. Declares nothing.
pub use Rattle.std.proofs.Common.{◌≡◌, refl, sym, ◌∙◌, ap, ℕ, zero, suc, ◌+◌, ◌-◌, ◌*◌, ◌/◌, ◌<◌, ◌≤◌, ℤ, pos, negsuc, ◌+ℤ◌, ◌*ℤ◌, unsigned_abs, Bool, true, false, cond, eqb, replicate, arith, ⊎_elim, List, [], ◌∷◌, ◌++◌, length, nat_lt, if◌then◌else◌, eq-eqb, ◌≤ℤ◌, ◌^◌, FitsSigned}
pub use Rattle.rrd_fixed.specs.Rate.{top}
pub use Rattle.rrd_fixed.specs.Rounding.{floor_of, near}
pub use Rattle.rrd_fixed.specs.declared.cell.Cell.{Cell}
pub use Rattle.rrd_fixed.specs.declared.cell.Cell.TheVariants.{Known, Unknown}
pub use Rattle.std.proofs.lemmas.Bool.{cases_lt, ne_eqb, cond_both, lt-ltb}
pub use Rattle.std.proofs.lemmas.Bool.Decides.{nat_tests}
pub use Rattle.std.proofs.lemmas.Int.{ints, fold-int_max_bounds, fold-int_max_reached, fold-int_min_bounds, fold-int_min_reached, to_z-of_z, to_z_pos, unsigned_abs-mul}
pub use Rattle.std.proofs.lemmas.List.Elements.{All-cons}
pub use Rattle.std.proofs.lemmas.List.Sums.{fold-append}
pub use Rattle.std.proofs.lemmas.Nat.{div-add-mod', div_below, mod_below, mul-le, div-mul-add}
pub use Rattle.std.specs.Int.{int_min, int_max, w128}
pub use Rattle.std.specs.List.{fold, Contains}
pub use Rattle.std.specs.Prelude.{int_lt}
pub use Rattle.rrd_fold.specs.Additions.{MadeByTwo, left_over, higher}
pub use Rattle.rrd_fold.specs.Bounds.{weight, finished_cell, Consolidating, most_known, IsSum}
pub use Rattle.rrd_fold.specs.Parts.{nothing, with_value, with_cell, values, summary, part_of, consolidated, row_cell, Part, step_cell}
pub use Rattle.rrd_fold.specs.Summaries.{IsLeast, IsGreatest}
pub use Rattle.rrd_fold.specs.declared.function.Function.{Function}
pub use Rattle.rrd_fold.specs.declared.function.Function.TheVariants.{Average, Min, Max, Last}
