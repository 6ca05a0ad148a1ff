-- Glue: the words of this crate that contracts and the crates above import, passed on from one place.
pub use Rattle.rrd_spec.specs.Choice.{best, candidate, candidates, choice, choice_of, covers, is_farther, is_nearer, same_function, span, span_of, span_rows, taken, unless_refused}
pub use Rattle.rrd_spec.specs.Commands.{Asked, DatabaseChange, Resizing, TuningBy, Updating, all_rows_after, archive_event, asked, content_of, events, events_of, is_addition, moved, raw_of, raw_under, rows_changed, rows_of_archives, sample_of, samples_of, settings_after, settings_of, tuned, value_for}
pub use Rattle.rrd_spec.specs.Commands.Answers.{IsAnswer}
pub use Rattle.rrd_spec.specs.Commands.Creating.{archive_checks, create_checks, create_verdict, created, first_checks, is_bad_steps, is_bad_xff, size_checks, source_checks}
pub use Rattle.rrd_spec.specs.Commands.RefusalTexts.{refusal_text}
pub use Rattle.rrd_spec.specs.Commands.Turns.{AreTurns, in_all, least_of_sample, most_of_sample, rows_shown}
pub use Rattle.rrd_spec.specs.Commands.Verdict.{Check, archive_is_too_large, archive_tune_checks, asks_nothing, checks, first_refusal, grows_too_far, has_bad_bounds, is_accepted, is_admitted, is_bad_heartbeat, is_bad_rows, is_crossed, is_far, names_no_source, no_sample, option_checks, resize_checks, sample_checks, shrinks_too_far, tune_checks, update_checks, verdict, ◌refuses◌}
pub use Rattle.rrd_spec.specs.Examples.{archive}
pub use Rattle.rrd_spec.specs.Files.Filed.{Filed, Head, Header, Source, filed, head_of, header_of, sources_of}
pub use Rattle.rrd_spec.specs.Files.Places.{place_in}
pub use Rattle.rrd_spec.specs.Files.Rebuilding.{IsArchiveDef, IsHeader, IsRowPart, MayCell, MayEntry, MayHead, MayPrep, MaySource, after_heads, begun, due, heads_with_part, limits, outline_filed, outline_left, prep_or, rows_in_all, unprepared, with_cell, with_entry, with_head, with_prep, with_source}
pub use Rattle.rrd_spec.specs.Files.Slots.{all_cells, by_slot, cells_by_slot, row_in, slot_of, stands_in}
pub use Rattle.rrd_spec.specs.History.{Added, Content, Event, IsArchive, IsBase, IsHistory, Moment, Reading, Removed, Resized, Rra, Sampled, Taken, Tuned, definitions, moment_after, moment_at_end, moment_of, rates, raws_under, rows_after, same_kind, samples, second, seconds}
pub use Rattle.rrd_spec.specs.History.Cells.{archive_by_time, cell_at, cell_in, content, greatest, horizon, oldest, oldest_time, prefixes, prep_at, prep_in, reach, reach_after, row_at, row_by_time, row_of_age, row_then, rows_by_time, time_of}
pub use Rattle.rrd_spec.specs.History.Groups.{Rule, group_items, group_part}
pub use Rattle.rrd_spec.specs.History.Lives.{Life, change_at, life_added, life_of, lives, lives_after, lives_from, new_archive, with_event}
pub use Rattle.rrd_spec.specs.History.Rows.{row, row_ending, steps_before, steps_for, steps_to_rows}
pub use Rattle.rrd_spec.specs.History.Steps.{seconds_to_steps}
pub use Rattle.rrd_spec.specs.Journal.Entries.{AddedEntry, BeforeUpdate, Entry, IsSound, RemovedEntry, ResizeEntry, SavedArchive, TuneEntry, UpdateEntry, archive_at, archive_entry, cells_in, cells_saved, entry, entry_cells, is_asked, is_named, put_back, put_back_each, rows_at, rows_between, saved, saved_sources, undone, with_rows_at}
pub use Rattle.rrd_spec.specs.Journal.Fitting.{AreOldRows, AreRemovedSettings, IsRemovedNumber, IsSavedSource, MayRemove, MayResize, MaySave, MaySaveEach, MayTune, MayUndo, MayUpdate}
pub use Rattle.rrd_spec.specs.Journal.Outlines.{outline_of, outline_undone, rows_of, with_row_number, with_sources}
pub use Rattle.rrd_spec.specs.Journal.Survivors.{Action, AllAccepted, AllUndo, Changed, Reverted, Stands, State, Stored, after, changed, entries, journal_of, reverted, stored_after, survived, with_change, without_last}
pub use Rattle.rrd_spec.specs.Laws.Archives.{AddChanges, BlankAtFirst, CutsLives, RemoveChanges}
pub use Rattle.rrd_spec.specs.Laws.Cells.{IsListed, IsListedByNumber, IsMultiple, ListsByNumber, RowsComeBack, ShowsByAge, ShowsByTime, ShowsCells}
pub use Rattle.rrd_spec.specs.Laws.Commands.{AreKept, CommandsGoOn, Moves, MovesListed, MovesListedByNumber, Passes, PassesAll, ResizeChanges, ResizeFits, TuneAdds, TuneChanges, TuneRemoves, newest_of, rows_then}
pub use Rattle.rrd_spec.specs.Laws.EqualSteps.{SecondsOver, StepsInPieces, StepsOver, StepsWithin}
pub use Rattle.rrd_spec.specs.Laws.FiledOnce.{FiledOnce, RowsFiledOnce}
pub use Rattle.rrd_spec.specs.Laws.History.{GoesOn, GoesOnFromContent, GoesOnListed, StaysAsItIs, StaysBase}
pub use Rattle.rrd_spec.specs.Laws.Journal.{ActsOn, Begins, ComesBack, DatabaseStays, EntryFits, JournalLeavesValid, JournalParts, JournalsJoin, RevertStays, RevertTakesBack, RunsAgree, RunsStay}
pub use Rattle.rrd_spec.specs.Laws.ListedContent.{KeepsArchives, archive_of, content_listed, filled_up, keep_last, moved_listed, rows_never_lost}
pub use Rattle.rrd_spec.specs.Laws.ListedLives.{archive_for}
pub use Rattle.rrd_spec.specs.Laws.Outlines.{FiledOutline, JournalTakes, JournalTook, MayUndoEach, OutlineFollows, OutlineIsNeeded, OutlineSuffices, OutlinesAreNeeded, OutlinesSuffice}
pub use Rattle.rrd_spec.specs.Laws.Passing.{PassesInPieces, PassesWithin, SampledPasses, archive_passed, passed}
pub use Rattle.rrd_spec.specs.Laws.Slots.{AsManyCells, CellStandsInSlot, CellStaysInSlot, HasOneEach, KeepsRow, PlaceHasSlot, PlacesDiffer, PutsBlock, PutsCell, PutsRow, ShowsInPlace, SlotHasPlace, StandsInPlace, StaysInSlot, with_row_in}
pub use Rattle.rrd_spec.specs.Laws.Updates.{AddsEntries, IsLater, MoveOn, MovesOn, UpdateIsLater, dropped}
pub use Rattle.rrd_spec.specs.Laws.Validity.{ArchiveStaysValid, CreatedIsValid, PartsGrow, StaysValid, StaysValidFor}
pub use Rattle.rrd_spec.specs.Laws.Versions.{ContentIsWithin, DatabaseIsWithin, EntryIsWithin, FirstTellsNoArchive, JournalIsWithin}
pub use Rattle.rrd_spec.specs.Lemmas.Cells.{cell_of_archive, prep_of_archive}
pub use Rattle.rrd_spec.specs.Lemmas.Commands.{readings_rise}
pub use Rattle.rrd_spec.specs.Lemmas.Journal.{undone_depth}
pub use Rattle.rrd_spec.specs.Lemmas.Lists.{All-append, All-at, All-drop, All-map, All-replicate, All-take, All-take-set, All-weaker, drop_here, keep_all, keep_last-append, keep_last_past, length-keep_last, map-same, map_all, map_each_all, map_each_more, map_each_next, map_more, map_next, split_last}
pub use Rattle.rrd_spec.specs.Lemmas.Preparations.{AllOf-anew, AllOf-with_steps, fold-with_each, parts_in-anew, parts_in-with_steps}
pub use Rattle.rrd_spec.specs.Lemmas.Rates.{accepted_at, rate_of, rates_more}
pub use Rattle.rrd_spec.specs.Lemmas.Validity.{base_of_valid, is_archive, length-accepted, rows_wide, sound}
pub use Rattle.rrd_spec.specs.Limits.{Limits, allows_archive_changes_of, limits_of, max_archives_of, max_cells_of, max_journal_depth_of, max_tuned, newest, present}
pub use Rattle.rrd_spec.specs.Preparations.{AllOf, anew, map_each, parts_in, row_of, with_steps}
pub use Rattle.rrd_spec.specs.Settings.{Settings, cells, has_source, is_double, names, resolution}
pub use Rattle.rrd_spec.specs.Validity.{AreAccepted, AreParts, FitEach, Fits, FitsArchive, FitsRemoved, FitsTune, IsPart, IsRow, IsSource, IsSourceWithin, IsValid, IsValidArchive, IsValidArchiveWithin, IsValidDatabase, IsValidDatabaseWithin, IsValidJournal, IsValidJournalWithin, IsValidWithin, Rise, weight}
pub use Rattle.rrd_spec.specs.declared.entry.SavedSource.{SavedSource}
pub use Rattle.rrd_spec.specs.declared.outline.Outline.{Outline}
pub use Rattle.rrd_spec.specs.declared.refusal.Refusal.{Refusal}
pub use Rattle.rrd_spec.specs.declared.refusal.Refusal.TheVariants.{OutOfMemory}
pub use Rattle.rrd_spec.specs.declared.requests.create.CreateSpec.{CreateSpec}
pub use Rattle.rrd_spec.specs.declared.requests.resize.Change.{Change}
pub use Rattle.rrd_spec.specs.declared.requests.resize.Change.TheVariants.{Grow, Shrink}
pub use Rattle.rrd_spec.specs.declared.requests.tune.ArchiveTune.{ArchiveTune}
pub use Rattle.rrd_spec.specs.declared.requests.tune.ArchiveTune.TheVariants.{Add, Remove}
pub use Rattle.rrd_spec.specs.declared.requests.tune.Tuning.{Tuning}
pub use Rattle.rrd_spec.specs.declared.requests.update.Given.{Given}
pub use Rattle.rrd_spec.specs.declared.requests.update.Sample.{Sample}
pub use Rattle.rrd_spec.specs.declared.requests.update.Update.{Update}
pub use Rattle.rrd_spec.specs.declared.settings.DsDef.{DsDef}
pub use Rattle.rrd_spec.specs.declared.settings.RraDef.{RraDef}
pub use Rattle.rrd_spec.specs.declared.version.Version.{Version}
pub use Rattle.rrd_spec.specs.declared.version.Version.TheVariants.{One, Two}
