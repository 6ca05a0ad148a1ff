use Rattle.rrd_file.proofs.Common.{sym, entry_of_some}
use Rattle.rrd_file.proofs.length.newest_entry_length.Goals as goal

pub entry_length-requires : goal.entry_length-requires
entry_length-requires c = entry_of_some c.args.database.now.content c.args.database.now.journal 0 _ c.database_is_valid.ensures (sym c.entry.ensures)
