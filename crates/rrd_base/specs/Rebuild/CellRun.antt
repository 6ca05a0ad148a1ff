-- Glue: runs of consecutive cells.
use Rattle.std.specs.Prelude.{List, replicate}
use Rattle.rrd_base.specs.Names.{Cell, Unknown}
use Rattle.rrd_base.specs.declared.cell_run.CellRun.{CellRun}
use Rattle.rrd_base.specs.declared.cell_run.CellRun.TheVariants as run

-- the cells of a run, one after another
abbrev pub run_cells : CellRun → List Cell
run_cells (run.Given cells) = cells.now
run_cells (run.Unknown count) = replicate count Unknown
