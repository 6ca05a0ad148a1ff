-- Glue: the names from outside that definitions and contracts import, passed on from one place.
pub use Rattle.rrd_base.specs.Words.{entry_of, header_said, update_of}
pub use Rattle.rrd_base.specs.declared.rebuild.PieceFault.{PieceFault}
pub use Rattle.rrd_ring.specs.Rows.{HasWidth, max_rows, max_sources}
pub use Rattle.rrd_spec.specs.Examples.{created}
pub use Rattle.rrd_spec.specs.Journal.Fitting.{IsArchiveDef}
pub use Rattle.rrd_spec.specs.Names.{Absolute, All, AllByRecursion, Appends, AppendsFront, Average, Cell, Consumes, Counter, Derive, FitsSigned, Function, Gauge, IsAccepted, IsAtEnd, IsBounded, Keeps, Kind, Last, Max, Min, Name, Part, Raw, Unknown, WriteFault, Writes, cast_unsigned, fits, flat_map, from_be_bytes, list_all, prepend_known, sum_by, to_be_bytes, w128, w16, w32, w64}
pub use Rattle.rrd_spec.specs.Words.{AddedEntry, AddsEntries, AllOf, AreAccepted, AreOldRows, AreParts, AreRemovedSettings, Content, DatabaseChange, Entry, Filed, Fits, HasOneEach, Head, Header, IsHeader, IsLater, IsPart, IsRemovedNumber, IsRow, IsRowPart, IsSavedSource, IsValid, IsValidDatabase, IsValidDatabaseWithin, Limits, MayCell, MayEntry, MayHead, MayPrep, MaySave, MaySaveEach, MaySource, MayUpdate, MovesOn, RemovedEntry, ResizeEntry, Rra, SavedArchive, Source, Stored, TuneEntry, UpdateEntry, Updating, all_cells, archive, begun, cells_by_slot, changed, due, filed, head_of, header_of, limits, limits_of, max_tuned, newest, outline_left, parts_in, present, reverted, rows_between, undone, verdict, with_cell, with_entry, with_head, with_prep, with_source}
pub use Rattle.rrd_spec.specs.declared.due.Due.{Due}
pub use Rattle.rrd_spec.specs.declared.due.Due.TheVariants.{CellDue, EntryDue, HeadDue, NothingDue, PrepDue, SourceDue}
pub use Rattle.rrd_spec.specs.declared.entry.SavedSource.{SavedSource}
pub use Rattle.rrd_spec.specs.declared.outline.Outline.{Outline}
pub use Rattle.rrd_spec.specs.declared.requests.update.Given.{Given}
pub use Rattle.rrd_spec.specs.declared.requests.update.Update.{Update}
pub use Rattle.rrd_spec.specs.declared.settings.DsDef.{DsDef}
pub use Rattle.rrd_spec.specs.declared.settings.RraDef.{RraDef}
pub use Rattle.rrd_spec.specs.declared.version.Version.{Version}
pub use Rattle.rrd_spec.specs.declared.version.Version.TheVariants.{One, Two}
pub use Rattle.smallvec.specs.SmallVec.{small_vec_len}
