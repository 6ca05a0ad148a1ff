-- The names that the proofs of functions import, passed on from one place. Declares nothing.
pub use Rattle.rrd_change.proofs.Names.{◌≡◌, ℕ, ◌+◌, ◌^◌, ◌<◌, ◌≤◌, List, [], ◌∷◌, ◌++◌, length, take, get_or, refl, sym, ◌∙◌, ap, subst, arith, inl, inr, ◌⊎◌, cases_lt, length_push, take_all, length-take, get_or-take, take-append-le, StandsAt, AreAny, ArePut, IsCut, Change, IsRight, change_bytes, change_size, changes_in, last_size, Fill, HaveByte, IsLogged, Leads, Makes, TouchByte, chain_end, first_of, IsLogHeld, IsOnDisk, IsStopped, IsTornLog, Torn, AgreesOutside, AreSpans, IsIn, change_of, Follows, IsDatabase, IsOpen, All, Fails, World, Span, ◌-◌, max, true, append_assoc, replicate, nat_le, and_from, le-leb, append-nil, length-append, length-replicate, get_or_append_left, get_or-append-add, AreWholeOrNot, IsTorn, IsUnderCut, log_mark, Began, IsFirst, IsInPlace, IsReady, Represents, cut_of, Base, Log, zero, suc, ◌*◌, Some, None, change_at, changes_from, IsChain, Bool, false, drop, starts_is, false_from_ne_true, Decides-eqb, front_fits, begins_with, w64, from_be_bytes, flat_map, length-drop, take-append-drop, take_at, drop_at, from_be_bytes-to_be_bytes_8, are_within, body_bytes, head_bytes, piece_bytes, spelled_pieces, HasPieces, IsHeadOf, Result, Ok, Err, Does, Effect, IsHeld, Moves, Stores, View, ◌&&◌, ◌↔◌, IsPermutation, nat_lt, list_any, and_parts, leb-true, lt-ltb, ltb-true, or_cases, list_any-IsPermutation, or-true, true-or, AreAnyIn, ArePutIn, put_mid, get_or-drop, get_or-append_right, drop-drop, take_rest, drop-append-add, Piece, all_changed, laid, IsLaid, IsLogRead, spans_of, Head, cond, cases_Bool, get_or_past, ext_get_or, all_laid, changed, laid_over, AreSaid, HasByte, zero-add, lit<, front_from_reads, SameIn, IsSized, Cut, IsDelimited, cut_mark, database_mark, settled_by, spelled_tail, unmarked, HasLog, ChangesTell, IsPrepared, IsCutLeft, IsLoose, IsUncut, IsPlain, IsSizedOrNot, IsMadeTo, IsUnmade, StaysFirst, Option, IsSome, IsTrue, true≢false, is_some, IsOffset, Mark, IsAtRest, IsMarked, FailsToWriteWhole, WritesWhole, unwrap_or, AllStand, AllStandAsTold, IsEither, IsWhole, IsBroken, IsLogOf, RepresentsEither, Reads, Stays, Steps, seen, Syncs, Never, Ordered, set, drop_all, IsLogIn, IsLogMark, IsMarkOf, Whole, take-suc, flat_map-append, piece_of, pieces_of, min, to_be_bytes, slice_range, is_right, AreMixed, AreRestored, IsUnlogged, LogEnd, FailsToRestore, StoresAgain, IsFound, IsLeft, IsLogFound, IsLogLeft, IsMarkedFor, IsLogFor, take-add, IsFrontPut, AreAt, IsSynced, IsUnsynced, Restores, be_bytes_8, eqb, eqb-false, get_or_push, at_from_reads, front_reads, bytes_by, IsErr, Tells, ◌/◌, ◌%◌, add-one, sum_through, byte_worth, first_chunks, div-add-mod', div-mul-add, mod_below, mix_words, word, eqb-true, rules, IsEmpty, IfOk-weaker, database_of, IsKept, FailsToWrite, Writes, common_steps}
unfoldable pub use Rattle.rrd_change.proofs.Names.{change_head, read_change, mark_of, settled, spelled_change, mix, mix_bytes}
pub use Rattle.rrd_change.proofs.Appending.{append_stopped, count_fits, fill_next, follows_more, next_made, whole_appended}
pub use Rattle.rrd_change.proofs.Beginning.{fill_first, first_made, follows_first, leads_first, IsReadyOrOpen, behind_stands, open_marked, open_put, ready_put}
pub use Rattle.rrd_change.proofs.Heads.{found, read_none, tried}
pub use Rattle.rrd_change.proofs.Holding.{all_as, fails_all, stores_all, does_as}
pub use Rattle.rrd_change.proofs.Joining.{AreSame, fails_in_same, stores_in_same, grown_in, in_grown, in_more, in_permuted, in_permuted_back}
pub use Rattle.rrd_change.proofs.Laid.{laid_mid, all_laid_over, head_at, head_laid, none_at, IsPartRead}
pub use Rattle.rrd_change.proofs.Laying.{touched_said}
pub use Rattle.rrd_change.proofs.Logs.{append_whole, append_cut, cut_stands, log_begins, log_stands, others_in_place, write_keeps, torn_counts}
pub use Rattle.rrd_change.proofs.Loose.{front_failed, front_stored, front_under, plain_uncut, under_uncut}
pub use Rattle.rrd_change.proofs.Making.{IsBegun, IsBehind, begun_sized, made_whole, unmade_first, made_marked, any_first, first_then, made_more}
pub use Rattle.rrd_change.proofs.Marked.{by_cut, log_or_none}
pub use Rattle.rrd_change.proofs.Marking.{marked, not_marked, not_unmarked}
pub use Rattle.rrd_change.proofs.Outcomes.{broken_stand, log_stand, either_stand, rest_stands, stands, all_stand, marked_stand}
pub use Rattle.rrd_change.proofs.Outgrown.{read_now, seen_reads, seen_stays, stays_log}
pub use Rattle.rrd_change.proofs.Overlaid.{by_log_mark, settled_cut, settled_log, settled_plain, log_in, no_log, overlaid, past_log, past_unlaid, unlaid}
pub use Rattle.rrd_change.proofs.Paging.{never_does, page_failed, page_put}
pub use Rattle.rrd_change.proofs.Pieces.{change_pushed, length-pieces, three, pushed_more, within_more, spans_more}
pub use Rattle.rrd_change.proofs.Placing.{any_in_then, first_any, in_part, put_any_in, put_in_more, put_in_none, put_none}
pub use Rattle.rrd_change.proofs.Reading.{length-change}
pub use Rattle.rrd_change.proofs.Relogging.{old_below}
pub use Rattle.rrd_change.proofs.Restoring.{found_cut, found_log, missing_rests, alone_found, Cuts, Leaves, Rewrites, cut_is_log, cut_leaves, cuts, mark_leaves, marks_again, rewrite_leaves, rewrites}
pub use Rattle.rrd_change.proofs.Resumed.{any_in, any_then, cut_then, front_then, put_cut}
pub use Rattle.rrd_change.proofs.Rewriting.{part_failed, part_restores, seen_restored, restores_failed}
pub use Rattle.rrd_change.proofs.Settling.{IsPlaced, cut_front_of, cut_placed, cut_sized, open_any, placed_put, reach_placed, sized_stands}
pub use Rattle.rrd_change.proofs.Spanned.{spans_make}
pub use Rattle.rrd_change.proofs.Spelling.{left_head, next_piece, none_from, piece_before, left_more}
pub use Rattle.rrd_change.proofs.Stepping.{does_then, failed, nothing, steps_as, steps_then, moves_as, moves_fail, moves_then, then_sync, does_of, seen_does, never_steps, seen_moves}
pub use Rattle.rrd_change.proofs.Stopping.{stopped_broken, stopped_either, left_held, left_one, left_told, log_left, IsPlacedOrCut, front_left, open_left, placed_marked, under_left, marked_left, begun_stopped, plain_left}
pub use Rattle.rrd_change.proofs.Words.{word_more, words_whole, words_more}
