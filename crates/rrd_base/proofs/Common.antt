-- The names that the proofs of functions import, passed on from one place. Declares nothing.
pub use Rattle.std.specs.Prelude.{◌≡◌, ℕ, ◌+◌, ◌-◌, ◌*◌, ◌/◌, ◌%◌, ◌<◌, ◌≤◌, List, [], ◌∷◌, length, replicate, sum, map, zero, suc, ◌++◌, Some, None, Option, take, drop, ◌⊎◌, Bool, cond, true, false, not, ◌&&◌, ◌||◌, ℤ, nat_lt, min, ◌^◌, vec_len, IfOk, pos, ◌-ℤ◌, negsuc, ◌+ℤ◌, IfNone, int_lt, int_le, if◌then◌else◌, slice_get, slice_index_or, slice_set, reverse, option_map, OnOk}
pub use Rattle.rrd_base.proofs.Names.{sym, ◌∙◌, ap, subst, arith, inl, inr, refl, get_or, set, append_assoc, append-nil, length-set, length-append, length-drop, take_at, add-one, ltb, ⊎_elim, length-take, take_all, drop_at, Vec, rules, FitsSigned, to_z-of_z, drop-cons, lit<, array_vec_len, same_name, IsBounded, IsAccepted, Cell, Name, Raw, Consolidating, Part, nothing, with_each, step_cell, row_cell, Function, Average, HasWidth, width, newest_rows, with_rows, unknown_rows, HasWidth-append, HasWidth-drop, width_is, same_function, candidate, candidates, best, covers, is_nearer, is_farther, taken, choice_of, rows_of_archives, Updating, sample_of, moved, DatabaseChange, Resizing, rows_changed, raw_of, value_for, TuningBy, raw_under, tuned, samples_of, all_rows_after, archive_event, settings_after, new_archive, created, first_checks, source_checks, archive_checks, size_checks, rows_shown, in_all, least_of_sample, most_of_sample, AreTurns, Check, first_refusal, verdict, no_sample, sample_checks, resize_checks, tune_checks, update_checks, ◌refuses◌, archive_is_too_large, is_bad_rows, is_bad_steps, is_bad_xff, archive_tune_checks, option_checks, is_admitted, Filed, Head, Source, head_of, filed, place_in, IsArchiveDef, IsRowPart, after_heads, prep_or, unprepared, MayHead, heads_with_part, MaySource, rows_in_all, with_head, with_prep, outline_filed, with_entry, MayEntry, limits, MayPrep, by_slot, cells_by_slot, row_in, stands_in, Content, Reading, Sampled, IsBase, rates, definitions, Rra, Moment, moment_of, moment_after, Event, moment_at_end, raws_under, Resized, row_at, row_of_age, cell_at, prep_at, SavedArchive, cells_in, cells_saved, saved, rows_between, undone, put_back, put_back_each, rows_at, with_rows_at, saved_sources, is_named, TuneEntry, archive_entry, archive_at, AddedEntry, RemovedEntry, ResizeEntry, entry_cells, AreRemovedSettings, MayUndo, IsSavedSource, AreOldRows, outline_undone, rows_of, outline_of, with_row_number, with_sources, Stored, changed, reverted, PassesAll, ResizeChanges, newest_of, rows_then, AreKept, TuneAdds, TuneRemoves, SecondsOver, GoesOnListed, JournalLeavesValid, DatabaseStays, RevertStays, KeepsArchives, keep_last, moved_listed, FiledOutline, JournalTakes, OutlineFollows, PassesInPieces, SampledPasses, PassesWithin, PutsCell, SlotHasPlace, AsManyCells, HasOneEach, PutsBlock, PartsGrow, StaysValidFor, ArchiveStaysValid, cell_of_archive, prep_of_archive, readings_rise, undone_depth, All-at, All-drop, drop_here, All-append, All-replicate, All-take, All-weaker, keep_last-append, keep_last_past, length-keep_last, All-take-set, map_more, map_next, keep_all, map_each_more, map_each_next, map_each_all, map_all, map-same, parts_in-with_steps, parts_in-anew, AllOf-anew, AllOf-with_steps, fold-with_each, accepted_at, rate_of, rates_more, base_of_valid, rows_wide, length-accepted, limits_of, present, newest, Limits, max_archives_of, max_cells_of, max_tuned, parts_in, map_each, with_steps, anew, row_of, AllOf, resolution, names, has_source, is_double, AreAccepted, IsRow, IsValid, IsValidJournalWithin, IsPart, IsSourceWithin, IsValidArchive, IsValidArchiveWithin, IsValidWithin, Rise, Fits, IsValidDatabase, AreParts, FitsArchive, FitEach, IsValidDatabaseWithin, Due, SourceDue, HeadDue, CellDue, EntryDue, NothingDue, PrepDue, SavedSource, Outline, Refusal, BadRows, BadSteps, BadXff, TooLarge, Candidate, FetchRequest, Change, Grow, Shrink, ArchiveTune, Add, Remove, Tuning, Given, Sample, Update, DsDef, RraDef, Version, One, Two, add-mul-mod_self_right, mod-add-div', add-mul, div-div-eq-div-mul, take-add, cases_lt, cases_Bool, cond-false, cond-true, or_parts, or_from, both_ways, not-true, not-false, le-ltb, lt-ltb, ltb-true, ltb-false, cond_both, nat_tests, flat_map-append, ints, replicate-append-replicate, length-take-le, take-append-le, map-append, length-map, length-replicate, reverse-append, drop_all, map-set, length-reverse, take-append-drop, drop-map, get_or-reverse, drop-drop, take-replicate, with_items_is, get_or-replicate, get_or_default, set-get_or, length_push, get_or_read, flat_map-cons, filter-append, find-append, list_any-append, length-range_with_len, fold-append, div-add-mod', div-mul-add, mod_below, mul-le, slice_get_within, slice_get-get_or, slice_get-map, IfSome_then, get_or_from_slice_get, err_from_is_err_and, bytes_eq-Decides, Global, abs_diff, int_div_euclid, w128, AllByRecursion, flat_map, fold, find, filter, list_any, enumerate_from, refill, range_with_len, insert, remove, list_all, option_or, option_map_or, option_copied, with_items, with_item, w64, to_z, of_z, content_of, Searched, searched, is_preferred, journal_of, entry_of, before, update_of, CanUndo, ArePrepared, Coming, HeadsCame, IsArchiveSoFar, IsCursor, IsRebuilding, content_so_far, filed_in, cells_before, coming, filed_of, run_cells, Advances, AreFewer, KnowsPlace, KnowsPlaceIn, filled_by, IsOutline, IsValidOutline, with_names, MayCells, with_cells, EntryValidator, validator, HasFewRows, settings, CanPutBack, CanPutBackEach, with_kept, IsThere, with_archive_tuned, with_raws, last_time, template_of, value_in, AreColumns, cells_of, count_of, HasPlaces, least_of_ends, least_to, most_of_ends, most_to, most_of_steps, rows_ended, rows_pushed, least_of_steps, least_of_all, most_of_all, Entry, Cursor, Inside, Walk}
unfoldable pub use Rattle.rrd_base.proofs.Names.{choice_within, create_verdict_within, verdict_within, due, content_listed, passed, archive_passed}
pub use Rattle.rrd_base.proofs.Catching.{at_last, caught_up, end_of_step, least_caught, least_within, most_caught, most_within, seconds_to_steps, steps_after, sample_leaves, turns_next, same_least, same_most, SameShape}
pub use Rattle.rrd_base.proofs.CellComes.{GoesOn, StaysIn, with_more, at_cell, cell_came, cell_comes, cell_here, is_put, place_there, row_there, with_cell_at, cells_come}
pub use Rattle.rrd_base.proofs.Checks.{refused}
pub use Rattle.rrd_base.proofs.ChoiceLemmas.{instead, other_function, one_compared, first_taken, next_taken, old_stays}
pub use Rattle.rrd_base.proofs.Comes.{archive_came, at_head, cursor_stays, head_keeps, head_is, none_later, outlines_lengths, plain_good, fits_at_head, head_fits, at_prep, names_came, AtPrep, last_prep, prep_came, prep_is, prep_keeps, prep_later, room_for_source, source_came, source_keeps, source_is, not_past, past_not}
pub use Rattle.rrd_base.proofs.CountLemmas.{wide_saved, cells_wide, one_more, wide_at}
pub use Rattle.rrd_base.proofs.DatabaseLemmas.{samples_keep, some_samples, last_item}
pub use Rattle.rrd_base.proofs.Dues.{due_entry, due_head, due_nothing, due_source, due_cell, due_prep, due_after, prepared_last, prepared_none, unprepared_some}
pub use Rattle.rrd_base.proofs.Entering.{some_left}
pub use Rattle.rrd_base.proofs.EntryComes.{at_entry, left_valid, entry_came, entry_is, entry_keeps, fits}
pub use Rattle.rrd_base.proofs.FittingLemmas.{RiseLeft, All_here_part, names_put, kept_refills, row_number_past, row_number_set, rows_are_put}
pub use Rattle.rrd_base.proofs.JournalLemmas.{journal_at}
pub use Rattle.rrd_base.proofs.KeptLemmas.{added, update_entry}
pub use Rattle.rrd_base.proofs.Passing.{few_known, parts_more, still_fit, within_step, ends, stays, leaves}
pub use Rattle.rrd_base.proofs.PushedRows.{row_fits, push_past, ended_none, ended_some, push_more, push_all}
pub use Rattle.rrd_base.proofs.PutBack.{none_back, front_short, front_of, popped, put_back_next, put_back_more, as_many, can_at}
pub use Rattle.rrd_base.proofs.Rebuilt.{all_came, content_valid, database_valid, filed_whole}
pub use Rattle.rrd_base.proofs.ResizeLemmas.{rows_of_place, rows_at_archive, resized_is, changed_few, few_sum, some_of_all, sum_set, sum_push}
pub use Rattle.rrd_base.proofs.RowsCome.{are_put, may_come, one_item, passes_on, whole_few, within, with_cells_is}
pub use Rattle.rrd_base.proofs.RraLemmas.{shown, closes, parts_fit, row_of_parts, goes_on, preps_fit, parts_in-new, taken_valid}
pub use Rattle.rrd_base.proofs.SampleSteps.{one_taken, later_sample, accepted_raws}
pub use Rattle.rrd_base.proofs.Taking.{begun, filled, full, left_of}
pub use Rattle.rrd_base.proofs.TuneLemmas.{refilled, rows_set, archive_tuned, settings_are, sources_put_back, before_more, before_few, raws_more, raws_next}
unfoldable pub use Rattle.rrd_base.proofs.TuneLemmas.{with_archives}
pub use Rattle.rrd_base.proofs.TurnLemmas.{leaves_of, sum_more, sum_within, few_turns}
pub use Rattle.rrd_base.proofs.UpdatingLemmas.{value_at, own_value}
pub use Rattle.rrd_base.proofs.Versions.{few_archives, source_in}
pub use Rattle.rrd_spec.proofs.ArchiveTunes.{length-insert}
pub use Rattle.rrd_spec.proofs.ManySteps.{push_before}
