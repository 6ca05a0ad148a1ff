-- Glue: the database and the journal that the fields have.
use Rattle.std.specs.Prelude.{◌≡◌}
use Rattle.rrd_base.specs.Names.{Stored, IsValidDatabase}
use Rattle.rrd_base.specs.Journal.{journal_of}
use Rattle.rrd_base.specs.declared.database.Database.TheInside.{Inside}

abbrev pub stored_of : Inside → Stored
stored_of d = record { content = d.content; journal = journal_of d.journal.items }

-- the database and its journal are valid, and the journal's buffer has as many items as the depth
pub record IsDatabase (d : Inside) : Type 0 where
  pub places : d.journal.capacity ≡ d.content.depth
  pub valid : IsValidDatabase d.content (journal_of d.journal.items)
