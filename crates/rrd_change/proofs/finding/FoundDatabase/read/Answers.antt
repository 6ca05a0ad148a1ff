use Rattle.rrd_change.proofs.Common.{◌≡◌, List, ℕ, false, sym, ◌∙◌, ap, subst, inl, IfOk-weaker, begins_with, IsMarkOf, Mark, cut_mark, log_mark, spelled_tail, by_log_mark, settled_cut, settled_log, settled_plain, arith, common_steps}
use Rattle.rrd_change.proofs.finding.FoundDatabase.read.Goals as goal

pub returns-then-starts_with : goal.returns-then-starts_with
returns-then-starts_with g c = grind (arith, common_steps, IfOk-weaker, settled_cut)

pub returns-in-Some : goal.returns-in-Some
returns-in-Some g c = grind (arith, common_steps, settled_log, IfOk-weaker, by_log_mark)

pub returns-in-None : goal.returns-in-None
returns-in-None g c =
    let file = c.args.bytes.items in
    let begins : begins_with file cut_mark ≡ false = ap (λ xs. begins_with xs cut_mark) (sym c.deref.ensures.value) ∙ sym c.starts_with.ensures.value ∙ c.if-starts_with.false in
    let P : List ℕ → Type 0 = λ xs. begins_with xs (log_mark (spelled_tail xs)) ≡ false in
    let is : begins_with c.deref-2.result.now (log_mark (spelled_tail c.deref-2.result.now)) ≡ false = c.in-None.ensures in
    record {
      database = c.unmarked.ensures.same ∙ sym (settled_plain g.L.Layout.end_of file begins (subst P c.deref-2.ensures.value is));
      mark = subst (λ (m : Mark). IsMarkOf m file) (sym c.unmarked.ensures.missing) (begins, inl (subst P c.deref-2.ensures.value is));
    }
