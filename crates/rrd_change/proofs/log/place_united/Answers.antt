use Rattle.rrd_change.proofs.Common.{List, subst, sym, Span, does_as, AreSame, fails_in_same, stores_in_same}
use Rattle.rrd_change.proofs.log.place_united.Goals as goal

pub returns-in-Ok : goal.returns-in-Ok
returns-in-Ok g c =
    let spans = c.args.spans.now in
    let new = c.args.new.now in
    let all = c.deref.result.now in
    let same : AreSame all spans = let P : List Span → Type 0 = λ xs. AreSame xs spans in subst P (sym c.deref.ensures.value) c.in-Ok.ensures in
    does_as _ _ _ _ c.place.result _ _ (λ x u v s. stores_in_same all spans new u v same s) (λ u v f. fails_in_same all spans new u v same f) c.place.ensures
