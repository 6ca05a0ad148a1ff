use Rattle.rrd_base.proofs.Common.{◌≡◌, sym, ◌∙◌, ap, Option, Some, both_ways, Candidate, Searched, candidate, instead, other_function, one_compared, first_taken, next_taken, old_stays}
use Rattle.rrd_base.proofs.fetch.Search.offer.Goals as goal
use Rattle.rrd_base.proofs.fetch.Search.offer.Goals.{in-Some, in-None}

pub returns-then-not-is_same_function : goal.returns-then-not-is_same_function
returns-then-not-is_same_function c = λ step last request defs count is.
    let s = c.self.inside in
    let old : Searched = record { step = s.step; last = s.last; request = s.request; best = s.best } in
    sym c.self.view_is ∙ other_function old step last request defs c.args.def.now (c.self.view_is ∙ is) (sym c.is_same_function.ensures ∙ c.if-not-is_same_function.true)

pub returns-then-is_taken : goal.returns-then-is_taken
returns-then-is_taken c = λ step last request defs count is.
    let s = c.self.inside in
    let old : Searched = record { step = s.step; last = s.last; request = s.request; best = s.best } in
    let next = c.candidate-next.result in
    let this = candidate s.step s.last (c.args.archive, c.args.def.now) in
    let all = one_compared old c.args.archive step last request defs c.args.def.now count (c.self.view_is ∙ is) (sym c.is_same_function.ensures ∙ c.if-not-is_same_function.false) in
    let found : Some next ≡ instead s.request.asked s.request.start s.best this = elim c.match-self.branch [
      | in-Some w ↦ next_taken s.request.asked s.request.start s.best next this w.in-Some.best w.in-Some.is c.candidate-next.ensures.value (sym w.is_preferred-is_taken.ensures ∙ sym w.is_taken-is ∙ c.if-is_taken.true)
      | in-None w ↦ first_taken s.request.asked s.request.start s.best next this w.in-None.is c.candidate-next.ensures.value
    ] in
    ap (λ (o : Option Candidate). let new : Searched = record { step = s.step; last = s.last; request = s.request; best = o } in new) found ∙ all

pub returns-else-is_taken : goal.returns-else-is_taken
returns-else-is_taken c = λ step last request defs count is.
    let s = c.self.inside in
    let old : Searched = record { step = s.step; last = s.last; request = s.request; best = s.best } in
    let next = c.candidate-next.result in
    let this = candidate s.step s.last (c.args.archive, c.args.def.now) in
    let all = one_compared old c.args.archive step last request defs c.args.def.now count (c.self.view_is ∙ is) (sym c.is_same_function.ensures ∙ c.if-not-is_same_function.false) in
    let stays : s.best ≡ instead s.request.asked s.request.start s.best this = elim c.match-self.branch [
      | in-Some w ↦ old_stays s.request.asked s.request.start s.best next this w.in-Some.best w.in-Some.is c.candidate-next.ensures.value (sym w.is_preferred-is_taken.ensures ∙ sym w.is_taken-is ∙ c.if-is_taken.false)
      | in-None w ↦ absurd (both_ways c.match-self.is_taken c.if-is_taken.false w.is_taken-is)
    ] in
    sym c.self.view_is ∙ ap (λ (o : Option Candidate). let new : Searched = record { step = s.step; last = s.last; request = s.request; best = o } in new) stays ∙ all
