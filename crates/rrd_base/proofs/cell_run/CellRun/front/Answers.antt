use Rattle.rrd_base.proofs.Common.{◌∙◌, sym, ap, arith, length, take, length-replicate, take-replicate, run_cells}
use Rattle.rrd_fixed.specs.declared.cell.Cell.TheVariants.{Unknown}
use Rattle.rrd_base.proofs.cell_run.CellRun.front.Goals as goal

pub returns-in-Unknown : goal.returns-in-Unknown
returns-in-Unknown c =
    let n = c.in-Unknown.field-0 in
    let cells = ap run_cells c.in-Unknown.is in
    sym (ap (take c.args.count) cells ∙ take-replicate c.args.count n Unknown (omega (arith, c.requires, ap length cells, length-replicate n Unknown)))
