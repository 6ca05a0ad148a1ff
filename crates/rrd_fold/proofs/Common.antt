-- The names that the proofs of functions import, passed on from one place. Declares nothing.
pub use Rattle.rrd_fold.proofs.Names.{◌≡◌, refl, sym, ◌∙◌, ap, ℕ, zero, suc, ◌+◌, ◌-◌, ◌*◌, ◌/◌, ◌<◌, ◌≤◌, ℤ, pos, negsuc, ◌+ℤ◌, ◌*ℤ◌, unsigned_abs, Bool, true, false, cond, eqb, replicate, arith, ⊎_elim, List, [], ◌∷◌, ◌++◌, length, nat_lt, if◌then◌else◌, eq-eqb, ◌≤ℤ◌, ◌^◌, FitsSigned, top, floor_of, near, Cell, Known, Unknown, cases_lt, ne_eqb, cond_both, lt-ltb, nat_tests, ints, fold-int_max_bounds, fold-int_max_reached, fold-int_min_bounds, fold-int_min_reached, to_z-of_z, to_z_pos, unsigned_abs-mul, All-cons, fold-append, div-add-mod', div_below, mod_below, mul-le, div-mul-add, int_min, int_max, w128, fold, Contains, int_lt, MadeByTwo, left_over, higher, weight, finished_cell, Consolidating, most_known, IsSum, nothing, with_value, with_cell, values, summary, part_of, consolidated, row_cell, Part, step_cell, IsLeast, IsGreatest, Function, Average, Min, Max, Last}
pub use Rattle.rrd_fold.proofs.PartLemmas.{fold-with_cell, stands_more, row_finishes}
pub use Rattle.rrd_fold.proofs.Repeats.{come, value_limit, min_some, max_some, min_none, max_none}
pub use Rattle.rrd_fold.proofs.Sums.{fold_unknown, added, IsSum_more}
unfoldable pub use Rattle.rrd_fold.proofs.Sums.{part}
