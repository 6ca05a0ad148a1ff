-- Glue: the names from outside that definitions and contracts import, passed on from one place.
pub use Rattle.rrd_ring.specs.Rows.{HasWidth, newest_rows, nth_row, unknown_rows, width, with_rows}
pub use Rattle.rrd_spec.specs.Names.{AllByRecursion, Average, Cell, Consolidating, Function, IsAccepted, IsBounded, Name, Part, Raw, Unknown, flat_map, fold, int_div_euclid, is_good, list_all, list_any, most_known, nothing, remove, result_err, row_cell, same_name, step_cell, weight, with_each}
pub use Rattle.rrd_spec.specs.Words.{AddedEntry, AllOf, AreAccepted, AreOldRows, AreParts, AreRemovedSettings, AreTurns, Content, Entry, Filed, Header, IsAnswer, IsArchiveDef, IsHeader, IsPart, IsRemovedNumber, IsRow, IsRowPart, IsSavedSource, IsSource, IsSourceWithin, IsValid, IsValidArchive, IsValidDatabase, IsValidDatabaseWithin, IsValidJournalWithin, IsValidWithin, MayCell, MayEntry, MayHead, MayPrep, MayRemove, MayResize, MaySource, MayTune, MayUndo, MayUpdate, RemovedEntry, ResizeEntry, Resized, Resizing, Rise, Rra, Sampled, SavedArchive, Settings, Source, Stored, TuneEntry, TuningBy, UpdateEntry, Updating, all_rows_after, allows_archive_changes_of, anew, archive_at, archive_passed, begun, candidates, cell_at, cells_by_slot, changed, choice, content_listed, covers, create_verdict, created, definitions, due, filed, first_refusal, has_source, head_of, is_addition, is_admitted, is_double, is_farther, is_nearer, keep_last, least_of_sample, limits, limits_of, map_each, max_tuned, most_of_sample, moved_listed, names, new_archive, oldest, oldest_time, outline_left, outline_of, outline_undone, parts_in, passed, place_in, prep_at, present, put_back_each, raw_of, raws_under, resolution, reverted, row_of, row_of_age, rows_at, rows_between, rows_changed, rows_of, rows_of_archives, sample_checks, saved, sources_of, taken, undone, unprepared, update_checks, value_for, verdict, with_cell, with_entry, with_head, with_prep, with_row_number, with_rows_at, with_source, with_sources, with_steps}
pub use Rattle.rrd_spec.specs.declared.due.Due.{Due}
pub use Rattle.rrd_spec.specs.declared.due.Due.TheVariants.{CellDue, EntryDue, HeadDue, NothingDue, PrepDue, SourceDue}
pub use Rattle.rrd_spec.specs.declared.entry.SavedSource.{SavedSource}
pub use Rattle.rrd_spec.specs.declared.outline.Outline.{Outline}
pub use Rattle.rrd_spec.specs.declared.refusal.Refusal.{Refusal}
pub use Rattle.rrd_spec.specs.declared.refusal.Refusal.TheVariants.{BadRows, BadSteps, BadXff, TooLarge}
pub use Rattle.rrd_spec.specs.declared.requests.fetch.Candidate.{Candidate}
pub use Rattle.rrd_spec.specs.declared.requests.fetch.FetchRequest.{FetchRequest}
pub use Rattle.rrd_spec.specs.declared.requests.resize.Change.{Change}
pub use Rattle.rrd_spec.specs.declared.requests.resize.Change.TheVariants.{Grow, Shrink}
pub use Rattle.rrd_spec.specs.declared.requests.tune.ArchiveTune.{ArchiveTune}
pub use Rattle.rrd_spec.specs.declared.requests.tune.ArchiveTune.TheVariants.{Add, Remove}
pub use Rattle.rrd_spec.specs.declared.requests.tune.Tuning.{Tuning}
pub use Rattle.rrd_spec.specs.declared.requests.update.Given.{Given}
pub use Rattle.rrd_spec.specs.declared.requests.update.Sample.{Sample}
pub use Rattle.rrd_spec.specs.declared.requests.update.Update.{Update}
pub use Rattle.rrd_spec.specs.declared.settings.DsDef.{DsDef}
pub use Rattle.rrd_spec.specs.declared.settings.RraDef.{RraDef}
pub use Rattle.rrd_spec.specs.declared.version.Version.{Version}
pub use Rattle.rrd_spec.specs.declared.version.Version.TheVariants.{One, Two}
