use Rattle.rrd_base.proofs.Common.{◌≡◌, ◌∙◌, ℕ, sym, ap, subst, to_z-of_z, w128, IfSome_then, Consolidating, Part, RraDef, Filed, IsRowPart, MayPrep, due, coming, EntryValidator, at_prep}
use Rattle.rrd_base.proofs.rebuild.Rebuild.next_row_part.Goals as goal

-- the rule of a part, at the same step, time and values
row_part_is : (step other last time : ℕ) (def : RraDef) (p q : Part) → step ≡ other → last ≡ time → p ≡ q → IsRowPart step last def p → IsRowPart other time def q
row_part_is step other last time def p q same_step same_time same is =
    subst (λ s. IsRowPart s time def q) same_step (subst (λ t. IsRowPart step t def q) same_time (subst (IsRowPart step last def) same is))

pub row_part-requires-clause-some_steps : goal.row_part-requires-clause-some_steps
row_part-requires-clause-some_steps c = (at_prep (coming c.self.inside) c.in-PrepDue.def c.self.invariant.came (ap due c.self.view_is ∙ (sym c.due.ensures ∙ c.in-PrepDue.is))).def_is.some_steps

pub row_part-requires-clause-few_steps : goal.row_part-requires-clause-few_steps
row_part-requires-clause-few_steps c = (at_prep (coming c.self.inside) c.in-PrepDue.def c.self.invariant.came (ap due c.self.view_is ∙ (sym c.due.ensures ∙ c.in-PrepDue.is))).def_is.few_steps

pub returns-clause-some : goal.returns-clause-some
returns-clause-some c =
    let j = c.self.inside.validator in
    let last = c.self.inside.header.last in
    let f = c.args.self.now in
    let def = c.in-PrepDue.def in
    let part : Part = record { known = c.args.known; value = c.args.value } in
    let step : j.step ≡ f.header.step = ap (λ (j : EntryValidator). j.step) c.self.invariant.came.validator_is ∙ ap (λ (f : Filed). f.header.step) c.self.view_is in
    let time : last ≡ f.header.last = ap (λ (f : Filed). f.header.last) c.self.view_is in
    IfSome_then c.row_part.result (simp (to_z-of_z {w = w128} c.ranges.value) at c.row_part.ensures.some) (λ prep is.
    let may : MayPrep f part = record {
      def = def;
      is_due = sym c.due.ensures ∙ c.in-PrepDue.is;
      part_is = row_part_is j.step f.header.step last f.header.last def prep.part part step time (ap (λ (p : Consolidating). p.part) is.1) is.0;
    } in
    (may, is.1))
