use Rattle.rrd_base.proofs.Common.{◌≡◌, ◌∙◌, sym, ap, subst, HeadDue, MayHead, due, coming, filed_in, fits_at_head, head_fits}
use Rattle.rrd_base.proofs.rebuild.Rebuild.may_head.Goals as goal

pub returns-clause-good : goal.returns-clause-good
returns-clause-good c = λ holds.
    let d = coming c.self.inside in
    let is_due : due (filed_in d) ≡ HeadDue = ap due c.self.view_is ∙ (sym c.due.ensures ∙ c.in-HeadDue.is) in
    subst (λ f. MayHead f c.args.def.now) c.self.view_is (fits_at_head d c.args.def.now c.self.invariant.came is_due (c.accepts_archive.ensures.good holds))

pub returns-clause-bad : goal.returns-clause-bad
returns-clause-bad c = λ may.
    let d = coming c.self.inside in
    c.accepts_archive.ensures.bad (head_fits d c.args.def.now c.self.invariant.came (subst (λ f. MayHead f c.args.def.now) (sym c.self.view_is) may))
