-- Definition: the value of a list of rows after a `&mut` to one of its rows has ended.
use Rattle.std.specs.Prelude.{ℕ, List}
use Rattle.std.specs.Borrow.{Fml, MutBor, Array, Lends}
use Rattle.rrd_fixed.specs.declared.cell.Cell.{Cell}
use Rattle.rrd_fixed.specs.contracts.stored.StoredCell.{the_row as cell_row}
use Rattle.rrd_ring.specs.Rows.{with_row}
use Rattle.rrd_ring.specs.contracts.archive.Archive.{the_row as archive_row}

-- row i of the archive ends as the cells that were last written through the loan
abbrev pub LendsRow : MutBor (List (List Cell)) → ℕ → MutBor (List Cell) → Fml
LendsRow archive i row = Lends archive_row (Array cell_row 0) archive row (with_row archive.now i)
