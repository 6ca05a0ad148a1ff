-- The names that the proofs of functions import, passed on from one place. Declares nothing.
pub use Rattle.rrd_ring.proofs.Names.{Vec, Global, ◌≡◌, ⊎_elim, refl, sym, ◌∙◌, ap, subst, ℕ, zero, suc, ◌+◌, ◌-◌, ◌*◌, ◌/◌, ◌%◌, ◌<◌, ◌≤◌, List, ◌++◌, length, min, replicate, set, take, drop, slice_range, arith, length-append, length-drop, length-set, vec_capacity, take_all, ◌⊎◌, inl, inr, [], ◌∷◌, get_or, vec_len, MutBor, Cell, Unknown, clones_same, add-mul, add-mul-mod_self_right, mod-add-div', mod-eq_of_lt, mod_self, mod-eq-sub-mod, mul-div_cancel, take-add, take-append-add, cases_lt, eqb-true, append_assoc, length-take-le, take-append-drop, drop-drop, take_at, drop_at, length-replicate, take-replicate, drop-replicate, append-nil, take-append-le, take-take, drop-append-le, drop_all, get_or_append_left, get_or-append_right, get_or-replicate, get_or-set_same, get_or-set_other, with_items_is, replicate-append-replicate, set_at, take_more, drop_more, take_min, take_rest, length-map-range_with_len, get_or-map-range_with_len, fill_by_all, mod_below, row_fits, mul-le, proved, refill, length_refill, with_items_from, with_items, Lft, GName, Share, ftrue, flft, fobs, fbor, SProp, ent, sep, ex, emp, guard, id⊢, coded_list, fact, tables, Array, usize, yes, no, follows, follows_then, heres_id, slice_of, mem, uint_vals, uint_Tells, RattleType, mut_vals, mut_Tells, pure_l, plain, MutSlice, Room, shr_slice_at, slice_val, nothing, heard, only, calls_at, lasts, triple_of, framed, says, Stays, stay_dropped, Goes-dropped, Goes-spent_ref, ends_at, Lifetime, named, w64, Val, vint, Ura, alloc_all, pass_all, free_all, look_at, get, through, sets, lands_as, takes_part, Item, ‵, ◌⊛◌, raw, given, some, later, ◌$◌, ◌∵◌, !, qed, move, keep, split, split3, join, group, rewrite, feq_i, feq_l, fsplit, fsplit3, fjoin, use1, use2, updating, await, pick, learn, check, now, show, suffices, frame, done, Logic, sem, open_ref, stop, addr, and_then, no_more, returns, enter, cells, Arr, Body, row_of, ring_rows, with_unwritten, AreParts, AreWhole, IsRing, IsPartlyWritten, rows_of, cells_in, from_index, AreRows, AreWritten, cells_row, nth_row, width, with_row, with_rows, row_cells, HasWidth, unknown_rows, AreDropped, max_rows, newest_rows, width_is}
pub use Rattle.rrd_ring.proofs.BlockLemmas.{ArePut, are_forgotten, are_put, IsLent, one_more, row_lent}
pub use Rattle.rrd_ring.proofs.RingLemmas.{cells_le, nth_row-ring_rows, ring_unknown, rows_len, ring_run, HasWidth-ring_rows, rows_run, AreDropped-rows_of, written_from}
pub use Rattle.rrd_ring.proofs.RowLemmas.{with_row-same_width, refill_same, copied_more}
pub use Rattle.rrd_ring.proofs.WrittenLemmas.{IsFilled, ring_le, row_count, row_width, never_written_rows, AreCopied, oldest_copied, IsPushed, ring_filled, row_pushed, whole_row, IsPutBack, MayPutBack, are_put_back, ring_filled_up, IsResized, newest_copied, forgotten, never_written, part_copied, rows_in, run_fits, run_one, run_whole}
