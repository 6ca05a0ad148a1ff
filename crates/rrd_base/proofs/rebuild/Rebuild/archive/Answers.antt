use Rattle.rrd_base.proofs.Common.{◌≡◌, ◌∙◌, ◌++◌, ◌∷◌, [], refl, replicate, sym, ap, subst, arith, Cell, Rra, MayHead, with_head, coming, filed_in, IsRebuilding, archive_came, at_head, cursor_stays, head_keeps, head_is, none_later, outlines_lengths, plain_good, few_archives}
use Rattle.rrd_base.proofs.rebuild.Rebuild.archive.Goals as goal

pub push-requires : goal.push-requires
push-requires c =
    let d = coming c.self.inside in
    let is = c.self.invariant.came in
    let may : MayHead (filed_in d) c.args.def = subst (λ f. MayHead f c.args.def) (sym c.self.view_is) (c.may_head.ensures.good c.if-not-may_head.false) in
    omega (arith, (at_head d is may.is_due).few, is.header_is.few_archives, few_archives d.version)

pub push_archive-requires-clause-few : goal.push_archive-requires-clause-few
push_archive-requires-clause-few c =
    let d = coming c.self.inside in
    let is = c.self.invariant.came in
    let may : MayHead (filed_in d) c.args.def = subst (λ f. MayHead f c.args.def) (sym c.self.view_is) (c.may_head.ensures.good c.if-not-may_head.false) in
    let few = (at_head d is may.is_due).few in
    omega (arith, few, is.header_is.few_archives, few_archives d.version, outlines_lengths d is (none_later d is few).journal)

pub push_archive-requires-clause-good : goal.push_archive-requires-clause-good
push_archive-requires-clause-good c =
    let d = coming c.self.inside in
    let a : Rra = record { def = c.args.def; parts = []; rows = replicate c.args.def.rows (replicate d.sources_due Cell.Unknown) } in
    let may : MayHead (filed_in d) a.def = subst (λ f. MayHead f a.def) (sym c.self.view_is) (c.may_head.ensures.good c.if-not-may_head.false) in
    plain_good (archive_came d a) (head_keeps d a c.self.invariant.came refl refl may) (none_later d c.self.invariant.came (at_head d c.self.invariant.came may.is_due).few).journal

pub invariant_of-self : goal.invariant_of-self
invariant_of-self c =
    let d = coming c.self.inside in
    let a : Rra = record { def = c.args.def; parts = []; rows = replicate c.args.def.rows (replicate d.sources_due Cell.Unknown) } in
    let may : MayHead (filed_in d) a.def = subst (λ f. MayHead f a.def) (sym c.self.view_is) (c.may_head.ensures.good c.if-not-may_head.false) in
    let path : archive_came d a ≡ record d { archives = c.push.new.self; validator = c.push_archive.new.self } =
    λ i. record d { archives = sym (c.push.ensures ∙ ap (λ s. d.archives ++ s ∷ []) c.in_ok-rra.ensures) i; validator = sym c.push_archive.ensures i } in
    record {
      came = subst IsRebuilding path (head_keeps d a c.self.invariant.came refl refl may);
      cursor_is = cursor_stays d (record d { archives = c.push.new.self; validator = c.push_archive.new.self }) c.self.inside.cursor refl (none_later d c.self.invariant.came (at_head d c.self.invariant.came may.is_due).few).filled c.self.invariant.cursor_is;
    }

pub returns-clause-ok : goal.returns-clause-ok
returns-clause-ok c =
    let d = coming c.self.inside in
    let a : Rra = record { def = c.args.def; parts = []; rows = replicate c.args.def.rows (replicate d.sources_due Cell.Unknown) } in
    let may : MayHead (filed_in d) a.def = subst (λ f. MayHead f a.def) (sym c.self.view_is) (c.may_head.ensures.good c.if-not-may_head.false) in
    let path : archive_came d a ≡ record d { archives = c.push.new.self; validator = c.push_archive.new.self } =
    λ i. record d { archives = sym (c.push.ensures ∙ ap (λ s. d.archives ++ s ∷ []) c.in_ok-rra.ensures) i; validator = sym c.push_archive.ensures i } in
    (c.may_head.ensures.good c.if-not-may_head.false, ap filed_in (sym path) ∙ (head_is d a c.self.invariant.came refl may.is_due ∙ ap (λ f. with_head f a.def) c.self.view_is))
