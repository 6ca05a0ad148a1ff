-- Definition: the entry that an entry of the program represents; and, as glue, the journal that the fields have.
use Rattle.std.specs.Prelude.{◌<◌, ◌≤◌, List, length, map, reverse}
use Rattle.rrd_base.specs.Names.{Rra}
use Rattle.rrd_spec.specs.Journal.Entries as entries
pub use Rattle.rrd_spec.specs.Journal.Entries.{before}
use Rattle.rrd_base.specs.Rra.{CanPutBackEach}
use Rattle.rrd_base.specs.declared.journal.Entry.{Entry}
use Rattle.rrd_base.specs.declared.journal.Entry.TheVariants as entry
use Rattle.rrd_base.specs.declared.journal.BeforeUpdate.{BeforeUpdate}

-- the entry of an update
abbrev pub update_of : BeforeUpdate → entries.BeforeUpdate
update_of b = record { last = b.last; raws = b.raws.items; parts = b.preps.items; archives = b.archives.items }

abbrev pub entry_of : Entry → entries.Entry
entry_of (entry.Update b) = entries.UpdateEntry (update_of b)
entry_of (entry.Tune olds) = entries.TuneEntry olds.items
entry_of (entry.Resize number old) = entries.ResizeEntry number old
entry_of entry.Added = entries.AddedEntry
entry_of (entry.Removed number old) = entries.RemovedEntry number old

-- the entry can be undone
abbrev pub CanUndo : List Rra → Entry → Type 0
CanUndo archives (entry.Update b) = CanPutBackEach archives b.archives.items
CanUndo archives (entry.Tune olds) = Unit {0}
CanUndo archives (entry.Resize number old) = number < length archives
CanUndo archives entry.Added = Unit {0}
CanUndo archives (entry.Removed number old) = number ≤ length archives

-- the journal, newest entry first
abbrev pub journal_of : List Entry → List entries.Entry
journal_of items = reverse (map entry_of items)
