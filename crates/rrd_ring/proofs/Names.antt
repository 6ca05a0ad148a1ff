-- The names from outside that the proofs import, passed on from one place. Declares nothing.
pub use Rattle.std.proofs.Common.{Vec, Global, ◌≡◌, ⊎_elim, refl, sym, ◌∙◌, ap, subst, ℕ, zero, suc, ◌+◌, ◌-◌, ◌*◌, ◌/◌, ◌%◌, ◌<◌, ◌≤◌, List, ◌++◌, length, min, replicate, set, take, drop, slice_range, arith, length-append, length-drop, length-set, vec_capacity, take_all, ◌⊎◌, inl, inr, [], ◌∷◌, get_or, vec_len, MutBor}
pub use Rattle.rrd_fixed.specs.declared.cell.Cell.{Cell}
pub use Rattle.rrd_fixed.specs.declared.cell.Cell.TheVariants.{Unknown}
pub use Rattle.smallvec.proofs.Lists.{clones_same}
pub use Rattle.std.proofs.Math.Nat.{add-mul, add-mul-mod_self_right, mod-add-div', mod-eq_of_lt, mod_self, mod-eq-sub-mod, mul-div_cancel}
pub use Rattle.std.proofs.Math.Seq.{take-add, take-append-add}
pub use Rattle.std.proofs.lemmas.Bool.{cases_lt, eqb-true}
pub use Rattle.std.proofs.lemmas.List.{append_assoc, length-take-le, take-append-drop, drop-drop, take_at, drop_at, length-replicate, take-replicate, drop-replicate, append-nil, take-append-le, take-take, drop-append-le, drop_all, get_or_append_left, get_or-append_right, get_or-replicate, get_or-set_same, get_or-set_other, with_items_is, replicate-append-replicate, set_at, take_more, drop_more, take_min, take_rest}
pub use Rattle.std.proofs.lemmas.List.FromFn.{length-map-range_with_len, get_or-map-range_with_len, fill_by_all}
pub use Rattle.std.proofs.lemmas.Nat.{mod_below, row_fits, mul-le}
pub use Rattle.std.proofs.raw_atomic.Walks.{proved}
pub use Rattle.std.specs.List.{refill, length_refill}
pub use Rattle.std.specs.Vec.{with_items_from, with_items}
pub use base.Fml.{Lft, GName, Share, ftrue, flft, fobs, fbor}
pub use base.Logic.{SProp, ent, sep, ex, emp, guard, id⊢}
pub use base.Stored.{coded_list}
pub use contract.Monad.{fact}
pub use contract.Running.{tables}
pub use denote.Array.{Array}
pub use denote.Builtin.{usize}
pub use denote.Exit.{yes, no}
pub use denote.Follow.{follows, follows_then}
pub use denote.FollowSlice.{heres_id, slice_of}
pub use denote.Memory.{mem}
pub use denote.Plain.{uint_vals, uint_Tells}
pub use denote.RattleType.{RattleType}
pub use denote.Ref.{mut_vals, mut_Tells}
pub use denote.Shadow.{pure_l}
pub use denote.Signature.{plain}
pub use denote.Slice.{MutSlice, Room, shr_slice_at, slice_val}
pub use denote.Steps.{nothing, heard, only}
pub use denote.Triple.Call.{calls_at}
pub use denote.Triple.Clauses.{lasts}
pub use denote.Triple.Spec.{triple_of}
pub use denote.Triple.Table.{framed}
pub use denote.Triple.Walked.{says, Stays, stay_dropped, Goes-dropped, Goes-spent_ref, ends_at}
pub use mir.Syntax.{Lifetime, named, w64}
pub use mir.Val.{Val, vint}
pub use seplogic.Ra.Ura.{Ura}
pub use types.ByLocal.{alloc_all, pass_all, free_all, look_at, get, through, sets, lands_as}
pub use types.Follow.{takes_part}
pub use types.Kit.{Item, ‵, ◌⊛◌, raw, given, some, later, ◌$◌, ◌∵◌, !, qed, move, keep, split, split3, join, group, rewrite, feq_i, feq_l, fsplit, fsplit3, fjoin, use1, use2, updating, await, pick, learn, check, now, show, suffices, frame, done}
pub use types.Logic.{Logic, sem}
pub use types.Mut.{open_ref}
pub use types.Run.{stop, addr, and_then, no_more, returns, enter}
pub use types.SemTy.{cells, Arr, Body}
pub use Rattle.rrd_ring.specs.Ring.{row_of, ring_rows, with_unwritten, AreParts, AreWhole, IsRing, IsPartlyWritten, rows_of, cells_in, from_index, AreRows, AreWritten}
pub use Rattle.rrd_ring.specs.Ring.Slices.{cells_row}
pub use Rattle.rrd_ring.specs.Rows.{nth_row, width, with_row, with_rows, row_cells, HasWidth, unknown_rows, AreDropped, max_rows, newest_rows}
pub use Rattle.rrd_ring.specs.Widths.{width_is}
