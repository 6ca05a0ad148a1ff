use Rattle.rrd_file.proofs.Common.{◌≡◌, ◌++◌, ◌-◌, ℕ, List, length, map, replicate, AllByRecursion, IsBounded, OfCell, Piece, DueInEntry, RowCellDue, Comes}
use Rattle.rrd_file.proofs.journal.rows.read_saved_cells.Given as goal

abbrev pub invariant-loop : goal.invariant-loop
invariant-loop g l =
    (length l.cells.items ≡ l.counter)
    × AllByRecursion IsBounded l.cells.items
    × ((bytes : List ℕ) (pieces : List Piece) (later : List DueInEntry) → Comes bytes l.build pieces (replicate l.count RowCellDue ++ later) l.fn.input
    → Comes bytes l.build (pieces ++ map OfCell l.cells.items) (replicate (l.count - l.counter) RowCellDue ++ later) l.input)
