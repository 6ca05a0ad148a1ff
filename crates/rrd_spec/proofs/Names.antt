-- The names from outside that the proofs import here and in the crates above, passed on from one place. Declares nothing.
pub use Rattle.rrd_spec.specs.Names.{refl, sym, ◌∙◌, ap, subst, eqb, get_or, length-append, append-nil, append_assoc, take_all, set, in_range, is_whole, is_good, same_name, near_limit, top, IsBounded, IsAccepted, rise, raised_if_negative, plain_rate, is_under, is_over, cell_within, rate, near, floor_of, Cell, Known, Kind, Gauge, Counter, Derive, Absolute, Name, Raw, Part, nothing, with_value, with_cell, with_each, step_cell, consolidated, row_cell, Function, Average, Min, Max, Last, leb-false, length-drop, drop_all, drop_at, take-append-drop, int_min, int_max, int_div_euclid, int_rem_euclid, fold, AllByRecursion, insert, remove, range_with_len, enumerate_from, list_any, flat_map, find, unwrap_or, option_map_or, T, le_z_yes, add-one, FitsSigned, list_all, Consolidating, drop-drop, w128, filter, option_or, to_z, of_z, writes_stop, writes_then, AppendsFront, Writes, WriteFault, Consumes, Keeps, drop-cons, array_vec_len, Global, abs_diff, refill, option_copied, with_items, with_item, w64, is_letter, fits, Unknown, pointwise, w16, w32, from_be_bytes, to_be_bytes, prepend_known, copy_within, All, sum_by, SFits, ap₂, Puts, whole_of, cell_text, time_text, raw_text, Appends-kept, box_value, Appends, is_err, result_map_both, result_ok, result_err, bytes_eq, chars, IsAscii, IsUtf8}
pub use Rattle.rrd_spec.specs.Words.{DatabaseChange, Updating, TuningBy, Resizing, archive_event, settings_of, sample_of, tuned, rows_changed, events, moved, rows_of_archives, Asked, samples_of, settings_after, events_of, asked, content_of, raw_of, value_for, is_bad_xff, is_bad_steps, create_checks, create_verdict, created, Check, archive_tune_checks, first_refusal, is_bad_rows, grows_too_far, shrinks_too_far, checks, verdict, is_bad_heartbeat, has_bad_bounds, no_sample, asks_nothing, names_no_source, is_accepted, sample_checks, Filed, Head, head_of, Source, sources_of, place_in, by_slot, cells_by_slot, slot_of, row_in, stands_in, Content, Sampled, Tuned, Moment, moment_after, moment_of, moment_at_end, raws_under, IsHistory, Rra, IsBase, Event, Resized, Added, Removed, rows_after, IsArchive, rates, Taken, samples, second, seconds, definitions, same_kind, content, row_of_age, row_at, row_then, reach, prefixes, greatest, reach_after, horizon, row_by_time, time_of, rows_by_time, archive_by_time, Rule, group_part, group_items, new_archive, Life, lives, life_of, life_added, with_event, change_at, lives_after, lives_from, steps_to_rows, steps_before, steps_for, row, row_ending, seconds_to_steps, rows_at, with_rows_at, Entry, AddedEntry, RemovedEntry, TuneEntry, archive_at, archive_entry, rows_between, saved, is_asked, is_named, saved_sources, entry, undone, put_back, put_back_each, IsSound, ResizeEntry, UpdateEntry, BeforeUpdate, SavedArchive, IsSavedSource, MaySave, MaySaveEach, MayUndo, outline_of, outline_undone, with_row_number, Action, Changed, Reverted, Stored, changed, reverted, stored_after, AllUndo, survived, AllAccepted, State, entries, with_change, without_last, after, Stands, CutsLives, AddChanges, BlankAtFirst, RemoveChanges, IsListed, IsMultiple, ShowsByTime, ListsByNumber, IsListedByNumber, ShowsCells, Passes, ResizeChanges, ResizeFits, TuneChanges, rows_then, Moves, CommandsGoOn, SecondsOver, StepsInPieces, StepsOver, StepsWithin, FiledOnce, RowsFiledOnce, GoesOn, GoesOnFromContent, StaysBase, DatabaseStays, RevertTakesBack, RunsStay, Begins, JournalLeavesValid, JournalParts, JournalsJoin, RunsAgree, ComesBack, rows_never_lost, keep_last, filled_up, archive_of, moved_listed, KeepsArchives, archive_for, FiledOutline, JournalTakes, JournalTook, MayUndoEach, OutlineFollows, OutlineIsNeeded, OutlineSuffices, OutlinesAreNeeded, OutlinesSuffice, HasOneEach, CellStaysInSlot, StaysInSlot, AsManyCells, CellStandsInSlot, PutsBlock, PutsCell, with_row_in, KeepsRow, PlaceHasSlot, PlacesDiffer, PutsRow, ShowsInPlace, SlotHasPlace, StandsInPlace, MovesOn, MoveOn, UpdateIsLater, dropped, ArchiveStaysValid, StaysValidFor, StaysValid, ContentIsWithin, DatabaseIsWithin, EntryIsWithin, FirstTellsNoArchive, JournalIsWithin, cell_of_archive, readings_rise, undone_depth, All-map, All-replicate, length-keep_last, All-at, All-take, All-append, All-drop, keep_all, keep_last-append, All-weaker, keep_last_past, split_last, fold-with_each, base_of_valid, sound, length-accepted, rows_wide, is_archive, present, Limits, allows_archive_changes_of, max_journal_depth_of, limits_of, max_archives_of, max_cells_of, map_each, Settings, names, resolution, has_source, is_double, cells, IsValidArchiveWithin, IsValidWithin, weight, IsPart, AreParts, IsRow, IsSource, AreAccepted, IsValidArchive, IsValid, FitsArchive, FitEach, FitsRemoved, FitsTune, Rise, Fits, IsValidJournal, IsValidDatabase, IsSourceWithin, SavedSource, Outline, Refusal, CreateSpec, Change, Grow, Shrink, ArchiveTune, Add, Remove, Tuning, Given, Sample, Update, DsDef, RraDef, Version, One, Two, same_function, candidate, candidates, best, covers, is_nearer, is_farther, taken, ◌refuses◌, filed, IsArchiveDef, IsRowPart, prep_or, unprepared, MayHead, heads_with_part, MaySource, rows_in_all, with_head, with_prep, outline_filed, with_entry, MayEntry, limits, MayPrep, cell_at, AreRemovedSettings, AreOldRows, max_tuned, parts_in, AllOf, IsValidDatabaseWithin, choice_of, raw_under, all_rows_after, first_checks, source_checks, archive_checks, size_checks, rows_shown, in_all, least_of_sample, most_of_sample, AreTurns, resize_checks, tune_checks, update_checks, archive_is_too_large, option_checks, is_admitted, after_heads, Reading, prep_at, cells_in, cells_saved, entry_cells, PassesAll, newest_of, AreKept, TuneAdds, TuneRemoves, GoesOnListed, RevertStays, PassesInPieces, SampledPasses, PassesWithin, PartsGrow, prep_of_archive, drop_here, All-take-set, map_more, map_next, map_each_more, map_each_next, map_each_all, map_all, map-same, parts_in-with_steps, parts_in-anew, AllOf-anew, AllOf-with_steps, accepted_at, rate_of, rates_more, with_steps, anew, row_of, IsValidJournalWithin, is_crossed, is_far, Header, header_of, MayCell, outline_left, IsHeader, begun, all_cells, cell_in, prep_in, MayRemove, MayResize, MayTune, MayUpdate, IsRemovedNumber, IsLater, choice, span, span_of, span_rows, unless_refused, oldest_time, ActsOn, CreatedIsValid}
pub use Rattle.std.proofs.Common.{ltb, arith, length-take, ⊎_elim, ◌*ℤ◌, ◌<ℤ◌, eq-eqb, inl, inr, neg_ℤ, rules, to_z-of_z, Vec, lit<, max, nat_eq}
pub use Rattle.std.proofs.Math.Nat.{div-div-eq-div-mul, add-mul-mod_self_right, mod-add-div', add-mul, suc-mul, div-mul-le_self, mul-add, mul_comm, mul-le-mul_left}
pub use Rattle.std.proofs.lemmas.Bool.{eqb-false, or_parts, cond_both, lt-ltb, ltb-false, eqb-true, cases_lt, cases_Bool, cond-false, cond-true, le-ltb, not-false, both_ways, le-leb, lt-leb, ne_eqb, or_from, and_cases, ltb-true, not-true, leb-true}
pub use Rattle.std.proofs.lemmas.Bool.Decides.{nat_tests, Decides-eqb}
pub use Rattle.std.proofs.lemmas.Int.{ints, clamps, int_rem_euclid_is, of_z-to_z, to_z_pos}
pub use Rattle.std.proofs.lemmas.List.{length-map, drop-map, length_push, map-append, take-map, take_at, length-replicate, get_or_append_left, get_or-append_right, ext_get_or, take-append-le, drop-append-le, replicate-append-replicate, reverse-append, get_or-set_other, get_or-set_same, length-set, drop-replicate, get_or-drop, get_or-replicate, get_or-append-add, get_or-take, reverse-reverse, set-append_left, set-append_right, get_or_default, set_at, take_more, length-take-le, take-replicate, take_rest, map-set, length-reverse, get_or-reverse, with_items_is, set-get_or, get_or_read, take-take, drop-take, get_or_past, take_more_set, drop_more, get_or-map}
pub use Rattle.std.proofs.lemmas.List.Edits.{length-remove, take-paste}
pub use Rattle.std.proofs.lemmas.List.FromFn.{length-map-range_with_len, get_or-map-range_with_len, length-enumerate_from, map-range_with_len_more, length-range_with_len}
pub use Rattle.std.proofs.lemmas.List.Sums.{sum_by-cons, sum_by-take-le, fold-append, sum-map, sum_by-append, sum_by_more}
pub use Rattle.std.proofs.lemmas.Nat.{mul-le, mul-lt, div-mul-add, mod-mul-add, div-add-mod', le-div, mod_below, be_bytes_2, be_bytes_4, be_bytes_8, from_be_bytes-to_be_bytes_8, from_be_bytes-to_be_bytes_2, from_be_bytes-to_be_bytes_4}
pub use Rattle.std.proofs.lemmas.Option.{slice_get_within, slice_get-get_or, slice_get-map, get_or_from_slice_get, IfSome_then, slice_get_read}
pub use Rattle.std.proofs.lemmas.Slice.Eq.{bytes_eq-Decides, slice_eq-Decides}
unfoldable pub use Rattle.rrd_spec.specs.Choice.{choice_within}
unfoldable pub use Rattle.rrd_spec.specs.Commands.Creating.{create_verdict_within}
unfoldable pub use Rattle.rrd_spec.specs.Commands.Verdict.{verdict_within}
unfoldable pub use Rattle.rrd_spec.specs.History.{seconds_of}
pub use Rattle.rrd_spec.specs.History.Cells.{newest}
unfoldable pub use Rattle.rrd_spec.specs.History.Groups.{finished, unfinished}
unfoldable pub use Rattle.rrd_spec.specs.History.Rows.{rows_of, row_parts_of, row_parts}
unfoldable pub use Rattle.rrd_spec.specs.History.Steps.{steps_of, parts_of}
pub use Rattle.rrd_spec.specs.Journal.Entries.{with_source}
pub use Rattle.rrd_spec.specs.Journal.Outlines.{with_sources}
unfoldable pub use Rattle.rrd_spec.specs.Laws.ListedContent.{kept_rows, content_listed}
unfoldable pub use Rattle.rrd_spec.specs.Laws.ListedLives.{content_lived, kept_for, rows_for}
unfoldable pub use Rattle.rrd_spec.specs.Laws.Passing.{archive_passed, passed}
pub use Rattle.std.proofs.Math.Seq.{take-add}
pub use Rattle.std.proofs.lemmas.Result.{err_from_is_err_and, IfOk-weaker}
unfoldable pub use Rattle.rrd_spec.specs.Files.Rebuilding.{due}
pub use Rattle.std.proofs.lemmas.Grind.{common_steps, flat_map-append}
pub use Rattle.std.proofs.lemmas.List.Concat.{flat_map-cons, length-flat_map}
pub use Rattle.std.proofs.KnownBytes.{Appends-trans, Consumes-trans, Consumes-nil}
pub use Rattle.std.proofs.lemmas.List.Elements.{filter-append, All-pop}
pub use Rattle.std.proofs.lemmas.List.Folds.{find-append, list_any-append, flat_map-map}
pub use Rattle.rrd_fixed.proofs.PutLemmas.{puts_before, puts_byte}
pub use Rattle.std.proofs.lemmas.Str.{IsUtf8-from_ascii}
pub use Rattle.std.proofs.lemmas.Str.Pattern.{IsSplitOnceResult, split_parts}
