-- Law: undoing an entry keeps the depth of the journal.
use Rattle.std.specs.Prelude.{◌≡◌, List, [], ◌∷◌}
use Rattle.rrd_spec.specs.Names.{refl, fold}
use Rattle.rrd_spec.specs.declared.entry.SavedSource.{SavedSource}
use Rattle.rrd_spec.specs.History.{Content}
use Rattle.rrd_spec.specs.Journal.Entries.{Entry, AddedEntry, RemovedEntry, ResizeEntry, TuneEntry, UpdateEntry, undone, with_source}

sources_depth : (now : Content) (olds : List SavedSource) → (fold with_source now olds).depth ≡ now.depth
sources_depth now [] = refl
sources_depth now (old ∷ olds) = sources_depth (with_source now old) olds

pub undone_depth : (now : Content) (old : Entry) → (undone now old).depth ≡ now.depth
undone_depth now (UpdateEntry old) = refl
undone_depth now (TuneEntry olds) = sources_depth now olds
undone_depth now (ResizeEntry archive rows) = refl
undone_depth now AddedEntry = refl
undone_depth now (RemovedEntry number archive) = refl
