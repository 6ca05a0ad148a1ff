-- The names from outside that the proofs import, passed on from one place. Declares nothing.
pub use Rattle.rrd_spec.specs.Names.{sym, ◌∙◌, ap, subst, refl, get_or, set, append_assoc, append-nil, length-append, length-drop, add-one, take_all, drop_at, FitsSigned, drop-cons, array_vec_len, same_name, IsBounded, IsAccepted, Cell, Name, Raw, Consolidating, Part, nothing, with_each, step_cell, row_cell, Function, Average, drop_all, take-append-drop, drop-drop, Global, abs_diff, int_div_euclid, w128, AllByRecursion, flat_map, fold, find, filter, list_any, enumerate_from, refill, range_with_len, insert, remove, list_all, option_or, option_map_or, option_copied, with_items, with_item, w64, to_z, of_z}
pub use Rattle.rrd_spec.proofs.Names.{arith, inl, inr, length-set, take_at, ltb, ⊎_elim, length-take, Vec, rules, to_z-of_z, lit<, with_sources, add-mul-mod_self_right, mod-add-div', add-mul, div-div-eq-div-mul, take-add, cases_lt, cases_Bool, cond-false, cond-true, or_parts, or_from, both_ways, not-true, not-false, le-ltb, lt-ltb, ltb-true, ltb-false, cond_both, nat_tests, flat_map-append, ints, replicate-append-replicate, length-take-le, take-append-le, map-append, length-map, length-replicate, reverse-append, map-set, length-reverse, drop-map, take_more, get_or-reverse, take-replicate, with_items_is, get_or-replicate, get_or_default, set-get_or, length_push, get_or_read, flat_map-cons, filter-append, find-append, list_any-append, length-range_with_len, fold-append, div-add-mod', div-mul-add, mod_below, mul-le, slice_get_within, slice_get-get_or, slice_get-map, IfSome_then, get_or_from_slice_get, err_from_is_err_and, bytes_eq-Decides}
pub use Rattle.rrd_base.specs.Names.{HasWidth, width, newest_rows, unknown_rows, Due, SourceDue, HeadDue, CellDue, EntryDue, NothingDue, PrepDue, SavedSource, Outline, Refusal, BadRows, BadSteps, BadXff, TooLarge, Candidate, FetchRequest, Change, Grow, Shrink, ArchiveTune, Add, Remove, Tuning, Given, Sample, Update, DsDef, RraDef, Version, One, Two}
pub use Rattle.rrd_spec.specs.Words.{same_function, candidate, candidates, best, covers, is_nearer, is_farther, taken, choice_of, rows_of_archives, Updating, sample_of, moved, DatabaseChange, Resizing, rows_changed, raw_of, value_for, TuningBy, raw_under, tuned, samples_of, all_rows_after, archive_event, settings_after, created, first_checks, source_checks, archive_checks, size_checks, rows_shown, in_all, least_of_sample, most_of_sample, AreTurns, Check, first_refusal, verdict, no_sample, sample_checks, resize_checks, tune_checks, update_checks, ◌refuses◌, archive_is_too_large, is_bad_rows, archive_tune_checks, option_checks, is_admitted, Filed, Head, Source, head_of, filed, place_in, IsArchiveDef, IsRowPart, after_heads, prep_or, unprepared, MayHead, heads_with_part, MaySource, rows_in_all, with_head, with_prep, outline_filed, with_entry, MayEntry, limits, MayPrep, by_slot, cells_by_slot, row_in, stands_in, Content, Reading, Sampled, IsBase, rates, definitions, Rra, Moment, moment_of, moment_after, Event, moment_at_end, raws_under, Resized, row_at, row_of_age, cell_at, prep_at, SavedArchive, cells_in, cells_saved, saved, rows_between, undone, put_back, put_back_each, rows_at, with_rows_at, saved_sources, is_named, TuneEntry, archive_entry, archive_at, AddedEntry, RemovedEntry, ResizeEntry, entry_cells, AreRemovedSettings, MayUndo, IsSavedSource, AreOldRows, outline_undone, outline_of, with_row_number, Stored, changed, reverted, PassesAll, ResizeChanges, newest_of, rows_then, AreKept, TuneAdds, TuneRemoves, SecondsOver, GoesOnListed, JournalLeavesValid, DatabaseStays, RevertStays, KeepsArchives, keep_last, moved_listed, FiledOutline, JournalTakes, OutlineFollows, PassesInPieces, SampledPasses, PassesWithin, PutsCell, SlotHasPlace, AsManyCells, HasOneEach, PutsBlock, PartsGrow, StaysValidFor, ArchiveStaysValid, cell_of_archive, prep_of_archive, readings_rise, undone_depth, All-at, All-drop, drop_here, All-append, All-replicate, All-take, All-weaker, keep_last-append, keep_last_past, length-keep_last, All-take-set, map_more, map_next, keep_all, map_each_more, map_each_next, map_each_all, map_all, map-same, parts_in-with_steps, parts_in-anew, AllOf-anew, AllOf-with_steps, fold-with_each, accepted_at, rate_of, rates_more, base_of_valid, rows_wide, length-accepted, limits_of, present, Limits, max_archives_of, max_cells_of, max_tuned, parts_in, map_each, with_steps, anew, row_of, AllOf, resolution, names, has_source, is_double, AreAccepted, IsRow, IsValid, IsValidJournalWithin, IsPart, IsSourceWithin, IsValidArchive, IsValidArchiveWithin, IsValidWithin, Rise, Fits, IsValidDatabase, AreParts, FitsArchive, FitEach, IsValidDatabaseWithin}
unfoldable pub use Rattle.rrd_spec.proofs.Names.{choice_within, create_verdict_within, verdict_within, due, content_listed, passed, archive_passed}
pub use Rattle.rrd_base.specs.Words.{content_of, Searched, searched, is_preferred, journal_of, entry_of, before, update_of, CanUndo, ArePrepared, Coming, HeadsCame, IsArchiveSoFar, IsCursor, IsRebuilding, content_so_far, filed_in, cells_before, coming, filed_of, run_cells, Advances, AreFewer, KnowsPlace, KnowsPlaceIn, filled_by, IsOutline, IsValidOutline, with_names, MayCells, with_cells, EntryValidator, validator, HasFewRows, settings, CanPutBack, CanPutBackEach, with_kept, IsThere, with_archive_tuned, last_time, template_of, value_in, AreColumns, cells_of, count_of, HasPlaces, least_of_ends, least_to, most_of_ends, most_to, most_of_steps, rows_ended, rows_pushed, least_of_steps, least_of_all, most_of_all, Entry, Cursor, Inside, Walk}
pub use Rattle.rrd_ring.specs.Rows.{with_rows}
pub use Rattle.rrd_ring.specs.Widths.{HasWidth-append, HasWidth-drop, width_is}
pub use Rattle.rrd_spec.specs.Commands.Creating.{new_archive}
pub use Rattle.rrd_spec.specs.Commands.Verdict.{is_bad_steps, is_bad_xff}
pub use Rattle.rrd_spec.specs.Journal.Outlines.{rows_of}
pub use Rattle.rrd_spec.specs.Limits.{newest}
pub use Rattle.rrd_base.specs.Tune.{with_raws}
