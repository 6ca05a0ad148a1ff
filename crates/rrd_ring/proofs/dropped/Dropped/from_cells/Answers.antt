use Rattle.rrd_ring.proofs.RingLemmas.{length-rows_of, row_cells-rows_of, HasWidth-rows_of}
use Rattle.rrd_ring.proofs.dropped.Dropped.from_cells.Goals as goal

pub returns-clause-count : goal.returns-clause-count
returns-clause-count c = length-rows_of c.args.rows c.args.sources c.args.cells.items

pub returns-clause-each_row : goal.returns-clause-each_row
returns-clause-each_row c = HasWidth-rows_of c.args.rows c.args.sources c.args.cells.items c.requires.one_each

pub returns-clause-cells : goal.returns-clause-cells
returns-clause-cells c = row_cells-rows_of c.args.rows c.args.sources c.args.cells.items c.requires.one_each
