use Rattle.rrd_base.proofs.Common.{◌≡◌, ◌∙◌, ◌++◌, ◌∷◌, [], sym, ap, subst, to_z-of_z, w128, Source, MaySource, due, coming, filed_in, IsRebuilding, room_for_source, source_came, source_keeps, source_is}
use Rattle.rrd_spec.specs.Files.Rebuilding.{with_source}
use Rattle.rrd_base.proofs.rebuild.Rebuild.source.Goals as goal

pub push_source-requires : goal.push_source-requires
push_source-requires c = room_for_source (coming c.self.inside) c.self.invariant.came (ap due c.self.view_is ∙ c.in-Some.ensures.some.0.is_due)

pub invariant_of-self : goal.invariant_of-self
invariant_of-self c =
    let d = coming c.self.inside in
    let e = c.in_err-push_source.ensures.err in
    let path : d ≡ record d { sources = c.push_source.new.sources.items; raws = c.push_source.new.raws.items; preps = c.push_source.new.preps.items; validator = c.push_source.new.validator } =
    λ i. record d { sources = sym e.0 i; raws = sym e.1 i; preps = sym e.2 i; validator = sym e.3 i } in
    record {
      came = subst IsRebuilding path c.self.invariant.came;
      cursor_is = record { source_there = c.self.invariant.cursor_is.source_there; knows_place = c.self.invariant.cursor_is.knows_place };
    }

pub invariant_of-self-2 : goal.invariant_of-self-2
invariant_of-self-2 c =
    let d = coming c.self.inside in
    let e = c.in_ok-push_source.ensures.ok in
    let source : Source = record { def = c.args.def; raw = c.args.raw; part = record { known = c.args.known; value = c.args.sum } } in
    let both = simp (to_z-of_z {w = w128} c.ranges.sum) at c.in-Some.ensures.some in
    let may : MaySource (filed_in d) source = subst (λ f. MaySource f source) (sym c.self.view_is) both.0 in
    let path : source_came d source.def source.raw source.part ≡ record d { sources = c.push_source.new.sources.items; raws = c.push_source.new.raws.items; preps = c.push_source.new.preps.items; validator = c.push_source.new.validator } =
    λ i. record d { sources = sym e.0 i; raws = sym e.1 i; preps = sym (e.2 ∙ ap (λ p. d.preps ++ p ∷ []) both.1) i; validator = sym e.3 i } in
    record {
      came = subst IsRebuilding path (source_keeps d source.def source.raw source.part c.self.invariant.came may);
      cursor_is = record { source_there = c.self.invariant.cursor_is.source_there; knows_place = c.self.invariant.cursor_is.knows_place };
    }

pub returns-clause-ok : goal.returns-clause-ok
returns-clause-ok c =
    let d = coming c.self.inside in
    let e = c.in_ok-push_source.ensures.ok in
    let source : Source = record { def = c.args.def; raw = c.args.raw; part = record { known = c.args.known; value = c.args.sum } } in
    let both = simp (to_z-of_z {w = w128} c.ranges.sum) at c.in-Some.ensures.some in
    let path : source_came d source.def source.raw source.part ≡ record d { sources = c.push_source.new.sources.items; raws = c.push_source.new.raws.items; preps = c.push_source.new.preps.items; validator = c.push_source.new.validator } =
    λ i. record d { sources = sym e.0 i; raws = sym e.1 i; preps = sym (e.2 ∙ ap (λ p. d.preps ++ p ∷ []) both.1) i; validator = sym e.3 i } in
    (both.0, ap filed_in (sym path) ∙ (source_is d source.def source.raw source.part c.self.invariant.came ∙ ap (λ f. with_source f source) c.self.view_is))
