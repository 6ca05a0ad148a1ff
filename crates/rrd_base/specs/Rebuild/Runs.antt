-- Definition: cells that are read one after another.
use Rattle.std.specs.Prelude.{List, [], ◌∷◌}
use Rattle.rrd_base.specs.Names.{Cell, Filed, MayCell, with_cell}

-- each cell may come after those before it
abbrev pub MayCells : Filed → List Cell → Type 0
MayCells f [] = Unit {0}
MayCells f (cell ∷ cells) = MayCell f cell × MayCells (with_cell f cell) cells

-- the records with these cells added
abbrev pub with_cells : Filed → List Cell → Filed
with_cells f [] = f
with_cells f (cell ∷ cells) = with_cells (with_cell f cell) cells
