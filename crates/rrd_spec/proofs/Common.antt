-- The names that the proofs of functions import, passed on from one place. Declares nothing.
pub use Rattle.std.specs.Prelude.{◌≡◌, ℕ, suc, ◌<◌, Bool, true, false, cond, ◌||◌, List, [], ◌∷◌, length, map, Option, Some, None, zero, ◌+◌, ◌-◌, ◌*◌, ◌/◌, ◌≤◌, ◌++◌, take, drop, sum, replicate, ℤ, pos, negsuc, ◌≤ℤ◌, unsigned_abs, ◌^◌, ◌%◌, ◌+ℤ◌, ◌-ℤ◌, min, not, ◌⊎◌, if◌then◌else◌, ◌==◌, reverse, ◌&&◌, ◌≢◌, slice_index_or, option_and_then, int_lt, int_le, slice_get, is_none, slice_set}
pub use Rattle.rrd_spec.proofs.Names.{refl, sym, ◌∙◌, ap, subst, ltb, eqb, arith, get_or, length-append, length-take, ⊎_elim, ◌*ℤ◌, ◌<ℤ◌, append-nil, eq-eqb, append_assoc, inl, inr, take_all, set, neg_ℤ, in_range, is_whole, is_good, same_name, near_limit, top, IsBounded, IsAccepted, rise, raised_if_negative, plain_rate, is_under, is_over, cell_within, rate, near, floor_of, Cell, Known, Kind, Gauge, Counter, Derive, Absolute, Name, Raw, Part, nothing, with_value, with_cell, with_each, step_cell, consolidated, row_cell, Function, Average, Min, Max, Last, div-div-eq-div-mul, add-mul-mod_self_right, mod-add-div', leb-false, eqb-false, or_parts, cond_both, lt-ltb, ltb-false, eqb-true, cases_lt, cases_Bool, cond-false, cond-true, le-ltb, not-false, both_ways, le-leb, lt-leb, ne_eqb, or_from, and_cases, ltb-true, nat_tests, ints, clamps, int_rem_euclid_is, length-map, drop-map, length-drop, length_push, map-append, take-map, take_at, length-replicate, get_or_append_left, get_or-append_right, ext_get_or, take-append-le, drop-append-le, drop_all, replicate-append-replicate, reverse-append, get_or-set_other, get_or-set_same, length-set, drop_at, drop-replicate, take-append-drop, get_or-drop, get_or-replicate, get_or-append-add, get_or-take, reverse-reverse, set-append_left, set-append_right, get_or_default, set_at, length-remove, length-map-range_with_len, get_or-map-range_with_len, length-enumerate_from, map-range_with_len_more, sum_by-cons, sum_by-take-le, fold-append, mul-le, mul-lt, div-mul-add, mod-mul-add, div-add-mod', le-div, mod_below, slice_get_within, slice_get-get_or, bytes_eq-Decides, int_min, int_max, int_div_euclid, int_rem_euclid, fold, AllByRecursion, insert, remove, range_with_len, enumerate_from, list_any, flat_map, find, unwrap_or, option_map_or, T, le_z_yes, DatabaseChange, Updating, TuningBy, Resizing, archive_event, settings_of, sample_of, tuned, rows_changed, events, moved, rows_of_archives, Asked, samples_of, settings_after, events_of, asked, content_of, raw_of, value_for, is_bad_xff, is_bad_steps, create_checks, create_verdict, created, Check, archive_tune_checks, first_refusal, is_bad_rows, grows_too_far, shrinks_too_far, checks, verdict, is_bad_heartbeat, has_bad_bounds, no_sample, asks_nothing, names_no_source, is_accepted, sample_checks, Filed, Head, head_of, Source, sources_of, place_in, by_slot, cells_by_slot, slot_of, row_in, stands_in, Content, Sampled, Tuned, Moment, moment_after, moment_of, moment_at_end, raws_under, IsHistory, Rra, IsBase, Event, Resized, Added, Removed, rows_after, IsArchive, rates, Taken, samples, second, seconds, definitions, same_kind, content, row_of_age, row_at, row_then, newest, reach, prefixes, greatest, reach_after, horizon, row_by_time, time_of, rows_by_time, archive_by_time, Rule, group_part, group_items, new_archive, Life, lives, life_of, life_added, with_event, change_at, lives_after, lives_from, steps_to_rows, steps_before, steps_for, row, row_ending, seconds_to_steps, rows_at, with_rows_at, Entry, AddedEntry, RemovedEntry, TuneEntry, archive_at, archive_entry, rows_between, saved, is_asked, is_named, saved_sources, entry, undone, put_back, put_back_each, IsSound, ResizeEntry, UpdateEntry, BeforeUpdate, SavedArchive, with_source, IsSavedSource, MaySave, MaySaveEach, MayUndo, outline_of, outline_undone, with_row_number, with_sources, Action, Changed, Reverted, Stored, changed, reverted, stored_after, AllUndo, survived, AllAccepted, State, entries, with_change, without_last, after, Stands, CutsLives, AddChanges, BlankAtFirst, RemoveChanges, IsListed, IsMultiple, ShowsByTime, ListsByNumber, IsListedByNumber, ShowsCells, Passes, ResizeChanges, ResizeFits, TuneChanges, rows_then, Moves, CommandsGoOn, SecondsOver, StepsInPieces, StepsOver, StepsWithin, FiledOnce, RowsFiledOnce, GoesOn, GoesOnFromContent, StaysBase, DatabaseStays, RevertTakesBack, RunsStay, Begins, JournalLeavesValid, JournalParts, JournalsJoin, RunsAgree, ComesBack, rows_never_lost, keep_last, filled_up, archive_of, moved_listed, KeepsArchives, archive_for, FiledOutline, JournalTakes, JournalTook, MayUndoEach, OutlineFollows, OutlineIsNeeded, OutlineSuffices, OutlinesAreNeeded, OutlinesSuffice, HasOneEach, CellStaysInSlot, StaysInSlot, AsManyCells, CellStandsInSlot, PutsBlock, PutsCell, with_row_in, KeepsRow, PlaceHasSlot, PlacesDiffer, PutsRow, ShowsInPlace, SlotHasPlace, StandsInPlace, MovesOn, MoveOn, UpdateIsLater, dropped, ArchiveStaysValid, StaysValidFor, StaysValid, ContentIsWithin, DatabaseIsWithin, EntryIsWithin, FirstTellsNoArchive, JournalIsWithin, cell_of_archive, readings_rise, undone_depth, All-map, All-replicate, length-keep_last, All-at, All-take, All-append, All-drop, keep_all, keep_last-append, All-weaker, keep_last_past, split_last, fold-with_each, base_of_valid, sound, length-accepted, rows_wide, is_archive, present, Limits, allows_archive_changes_of, max_journal_depth_of, limits_of, max_archives_of, max_cells_of, map_each, Settings, names, resolution, has_source, is_double, cells, IsValidArchiveWithin, IsValidWithin, weight, IsPart, AreParts, IsRow, IsSource, AreAccepted, IsValidArchive, IsValid, FitsArchive, FitEach, FitsRemoved, FitsTune, Rise, Fits, IsValidJournal, IsValidDatabase, IsSourceWithin, SavedSource, Outline, Refusal, CreateSpec, Change, Grow, Shrink, ArchiveTune, Add, Remove, Tuning, Given, Sample, Update, DsDef, RraDef, Version, One, Two}
unfoldable pub use Rattle.rrd_spec.proofs.Names.{choice_within, create_verdict_within, verdict_within, seconds_of, finished, unfinished, rows_of, row_parts_of, row_parts, steps_of, parts_of, kept_rows, content_listed, content_lived, kept_for, rows_for, archive_passed, passed}
pub use Rattle.rrd_spec.proofs.Accepted.{tune_passes, accepted_history}
pub use Rattle.rrd_spec.proofs.ArchiveTunes.{tune_added, tune_removed}
pub use Rattle.rrd_spec.proofs.CellLemmas.{is_lived, shows_by_time}
pub use Rattle.rrd_spec.proofs.LivesCut.{lived-cut}
pub use Rattle.rrd_spec.proofs.LivesPlain.{add_changes, remove_changes, is_listed, blank_at_first}
pub use Rattle.rrd_spec.proofs.Moving.{moved_is}
pub use Rattle.rrd_spec.proofs.ShownLemmas.{shows_cells}
