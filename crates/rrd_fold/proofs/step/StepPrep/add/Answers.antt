use Rattle.std.proofs.lemmas.Grind.{common_steps}
use Rattle.rrd_fold.proofs.Common.{sym, arith, to_z-of_z, fold_unknown, added, IsSum_more, part, Average}
use Rattle.rrd_fold.proofs.step.StepPrep.add.Goals as goal

pub invariant_of-self : goal.invariant_of-self
invariant_of-self c = grind (arith, common_steps, IsSum_more, to_z-of_z)

pub returns-in-Known-clause-added : goal.returns-in-Known-clause-added
unfolding part
returns-in-Known-clause-added c =
    let sum = c.self.inside.sum in
    let more = c.times.result in
    grind (arith, common_steps, to_z-of_z, added c.args.self.now c.args.rate c.in-Known.rate more c.self.inside.known c.args.seconds sum c.self.view_is c.in-Known.is)

pub returns-in_default-clause-added : goal.returns-in_default-clause-added
returns-in_default-clause-added c = rw c.in_default.is (sym (fold_unknown Average c.args.self.now c.args.seconds))
