use Rattle.rrd_base.proofs.Common.{has_source, ◌≡◌, ◌∙◌, sym, ap, subst, true, false, ◌%◌, to_z-of_z, w128, IfSome_then, Average, IsPart, Source, MaySource, due, coming, filed_in, EntryValidator, names_came, source_in, newest}
use Rattle.rrd_base.proofs.rebuild.Rebuild.next_step_part.Goals.{then-not-is_source-via-then-not-is_source, then-not-is_source-via-else-not-is_source+then-not-accepts, then-not-is_source-via-else-not-is_source+else-not-accepts+then-has_source}
use Rattle.rrd_base.proofs.rebuild.Rebuild.next_step_part.Goals as goal

pub returns-then-not-is_source-clause-none : goal.returns-then-not-is_source-clause-none
returns-then-not-is_source-clause-none c = λ none may.
    let d = coming c.self.inside in
    let def = c.args.def.now in
    let source : Source = record { def = def; raw = c.args.raw; part = record { known = c.args.known; value = c.args.sum } } in
    let here : MaySource (filed_in d) source = subst (λ f. MaySource f source) (sym c.self.view_is) may in
    elim c.then-not-is_source.branch [
      | then-not-is_source-via-then-not-is_source w ↦
          let bad : false ≡ true = sym w.if-not-is_source.true ∙ c.is_source.ensures.bad (source_in d.version newest def here.source_is) in absurd cc
      | then-not-is_source-via-else-not-is_source+then-not-accepts w ↦
          let bad : false ≡ true = sym w.if-not-accepts.true ∙ w.accepts.ensures.bad here.raw_is in absurd cc
      | then-not-is_source-via-else-not-is_source+else-not-accepts+then-has_source w ↦
          let same = names_came d def.name c.self.invariant.came ∙ (ap (λ xs. has_source xs def.name) (sym w.deref.ensures.value) ∙ sym w.has_source.ensures) in
          let bad : false ≡ true = sym here.name_differs ∙ (same ∙ w.if-has_source.true) in absurd cc
    ]

pub returns-clause-some : goal.returns-clause-some
returns-clause-some c =
    let d = coming c.self.inside in
    let def = c.args.def.now in
    let source : Source = record { def = def; raw = c.args.raw; part = record { known = c.args.known; value = c.args.sum } } in
    let step : c.self.inside.validator.step ≡ d.step = ap (λ (j : EntryValidator). j.step) c.self.invariant.came.validator_is in
    IfSome_then c.step_part.result (simp (to_z-of_z {w = w128} c.ranges.sum) at c.step_part.ensures.some) (λ prep is.
    let may : MaySource (filed_in d) source = record {
      is_due = ap due c.self.view_is ∙ (sym c.due.ensures ∙ c.in-SourceDue.is);
      source_is = source_in newest d.version def (c.is_source.ensures.good c.if-not-is_source.false);
      raw_is = c.accepts.ensures.good c.if-not-accepts.false;
      part_is = subst (λ s. IsPart Average (d.last % s) source.part) step (subst (IsPart Average (d.last % c.self.inside.validator.step)) is.1 is.0);
      name_differs = names_came d def.name c.self.invariant.came ∙ (ap (λ xs. has_source xs def.name) (sym c.deref.ensures.value) ∙ (sym c.has_source.ensures ∙ c.if-has_source.false));
    } in
    (subst (λ f. MaySource f source) c.self.view_is may, is.1))
