use Rattle.rrd_base.proofs.Common.{◌≤◌, ◌∙◌, ap, subst, arith, length-replicate, take-replicate, MayCells, with_cells}
use Rattle.rrd_fixed.specs.declared.cell.Cell.TheVariants.{Unknown}
use Rattle.rrd_base.proofs.rebuild.Rebuild.unknown_rows.Goals as goal

pub returns : goal.returns
returns c =
    let few : c.whole_rows.result ≤ c.args.most = omega (arith, c.whole_rows.ensures.few, length-replicate c.args.most Unknown) in
    assumption (subst (MayCells c.args.self.now) (take-replicate c.whole_rows.result c.args.most Unknown few) c.whole_rows.ensures.may, c.whole_rows.ensures.came ∙ ap (with_cells c.args.self.now) (take-replicate c.whole_rows.result c.args.most Unknown few))
