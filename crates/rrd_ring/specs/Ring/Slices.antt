-- Glue: the value of a vector of cells after a `&mut` to a slice of it has ended.
use Rattle.std.specs.Prelude.{ℕ, List, Vec, length, slice_range}
use Rattle.std.specs.Global.{Global}
use Rattle.std.specs.Borrow.{Fml, RattleType, MutBor, Array, Lends}
use Rattle.std.specs.List.{refill}
use Rattle.std.specs.Vec.{with_items_from}
use Rattle.std.specs.contracts.alloc.Global.{the_row as heap_row}
use Rattle.std.specs.contracts.impls.GlobalAllocator.TheImpl.{ghosts}
use Rattle.std.specs.contracts.vec.Vec.{the_row as vec_row}
use Rattle.rrd_fixed.specs.declared.cell.Cell.{Cell}
use Rattle.rrd_fixed.specs.contracts.stored.StoredCell.{the_row as cell_row}

-- the logic's name for the type of a vector of cells
abbrev pub cells_row : RattleType
cells_row = vec_row cell_row heap_row ghosts

-- the vector ends with the cells that were last written through the loan, from cell `start` on
abbrev pub LendsPart : MutBor (Vec Cell Global) → ℕ → MutBor (List Cell) → Fml
LendsPart cells start part = Lends cells_row (Array cell_row 0) cells part (with_items_from cells.now start)

-- the same loan, if it returns as many cells as it took
abbrev pub LendsAsMany : MutBor (Vec Cell Global) → ℕ → ℕ → MutBor (List Cell) → Fml
LendsAsMany cells start end part =
    Lends cells_row (Array cell_row 0) cells part
    (λ written. with_items_from cells.now start
    (refill (length (slice_range cells.now.items start end)) (slice_range cells.now.items start end) written))
