use Rattle.rrd_file.proofs.Common.{◌≡◌, ◌++◌, ◌-◌, ℕ, List, length, map, replicate, take, OfCell, Piece, DueInEntry, RowCellDue, Comes}
use Rattle.rrd_file.proofs.journal.rows.read_row.Given as goal

abbrev pub invariant-loop-i : goal.invariant-loop-i
invariant-loop-i g l =
    (length l.row ≡ length l.fn.row)
    × ((bytes : List ℕ) (pieces : List Piece) (later : List DueInEntry) → Comes bytes l.build pieces (replicate (length l.fn.row) RowCellDue ++ later) l.fn.input
    → Comes bytes l.build (pieces ++ map OfCell (take l.i l.row)) (replicate (length l.fn.row - l.i) RowCellDue ++ later) l.input)
