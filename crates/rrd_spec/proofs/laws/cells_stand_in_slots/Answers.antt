use Rattle.rrd_spec.proofs.SlotCells.{as_many_cells, cell_stands_in_slot, puts_block, puts_cell}
use Rattle.rrd_spec.proofs.laws.cells_stand_in_slots.Goals as goal

pub returns : goal.returns
returns c = record {
  as_many = as_many_cells;
  cell = cell_stands_in_slot;
  row_put = puts_block;
  cell_put = puts_cell;
}
