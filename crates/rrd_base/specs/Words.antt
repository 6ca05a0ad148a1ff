-- Glue: the words of this crate that contracts and the crates above import, passed on from one place.
pub use Rattle.rrd_base.specs.Content.{content_of}
pub use Rattle.rrd_base.specs.Fetch.{Searched, is_preferred, searched}
pub use Rattle.rrd_base.specs.Journal.{CanUndo, before, entry_of, journal_of, update_of}
pub use Rattle.rrd_base.specs.Rebuild.{ArePrepared, Coming, HeadsCame, IsArchiveSoFar, IsCursor, IsRebuilding, cells_before, coming, content_so_far, filed_in, filed_of}
pub use Rattle.rrd_base.specs.Rebuild.Begins.{Begins, header_said}
pub use Rattle.rrd_base.specs.Rebuild.CellRun.{run_cells}
pub use Rattle.rrd_base.specs.Rebuild.Cursors.{Advances, AreFewer, KnowsPlace, KnowsPlaceIn, Passes, filled_by}
pub use Rattle.rrd_base.specs.Rebuild.EntryChecks.{HasPlace, IsChecked, IsOutline, IsValidOutline, with_names}
pub use Rattle.rrd_base.specs.Rebuild.Runs.{MayCells, with_cells}
pub use Rattle.rrd_base.specs.Rebuild.Validators.{EntryValidator, validator}
pub use Rattle.rrd_base.specs.Resize.{HasFewRows, settings}
pub use Rattle.rrd_base.specs.Rra.{CanPutBack, CanPutBackEach, IsStepped}
pub use Rattle.rrd_base.specs.Tune.{IsThere, with_archive_tuned, with_kept}
pub use Rattle.rrd_base.specs.Update.{AreColumns, end_time, last_time, template_checks, template_of, value_in}
pub use Rattle.rrd_base.specs.Walk.{AreSteps, HasPlaces, cells_of, count_of, sources_of}
pub use Rattle.rrd_base.specs.Walk.Turns.{least_of_all, least_of_ends, least_of_one, least_of_steps, least_to, most_of_all, most_of_ends, most_of_one, most_of_steps, most_to, rows_ended, rows_pushed}
pub use Rattle.rrd_base.specs.declared.journal.Entry.{Entry}
pub use Rattle.rrd_base.specs.declared.rebuild.PieceFault.TheVariants.{Bad, OutOfMemory}
pub use Rattle.rrd_base.specs.declared.rebuild.cursor.Cursor.{Cursor}
pub use Rattle.rrd_base.specs.declared.rra.Rra.TheInside.{Inside}
pub use Rattle.rrd_base.specs.declared.walk.Walk.{Walk}
