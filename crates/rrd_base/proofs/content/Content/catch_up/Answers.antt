use Rattle.rrd_base.proofs.Common.{◌≡◌, sym, ◌∙◌, ap, subst, ℕ, ◌+◌, ◌-◌, ◌*◌, ◌%◌, ◌^◌, ◌<◌, ◌≤◌, replicate, length, arith, Vec, Content, passed, IsRow, content_of, least_of_ends, least_to, most_of_ends, most_to, at_last, caught_up, end_of_step, least_caught, least_within, most_caught, most_within, seconds_to_steps, steps_after, Global, Cell, Walk, rules}
use Rattle.rrd_base.proofs.content.Content.catch_up.Goals as goal

pub end_steps-requires-clause-turns : goal.end_steps-requires-clause-turns
end_steps-requires-clause-turns c =
    let V = content_of c.self.inside in
    let time : ℕ = c.args.time in
    let most = subst (λ (z : Content). c.args.walk.now.meter + most_to z time < 2 ^ 64) (sym c.self.view_is) c.requires.turns in
    let all = most_caught V time c.self.invariant c.if-time-end.false in
    subst (λ (z : Content). c.args.walk.now.meter + most_of_ends z (steps_after V time) < 2 ^ 64) c.self.view_is (omega (arith, most, all))

pub pass_within_step-requires-else-time-end : goal.pass_within_step-requires-else-time-end
pass_within_step-requires-else-time-end c =
    let is = c.self.invariant in
    let V = content_of c.self.inside in
    let rates = c.args.walk.now.rates.items in
    let time : ℕ = c.args.time in
    let row = subst (λ (z : Content). IsRow (length z.sources) rates) (sym c.self.view_is) c.requires.rates_are in
    let h = c.if-time-end.false in
    let late = c.end_steps.new.self in
    let steps : late ≡ passed V (replicate (seconds_to_steps V time) rates) = c.end_steps.ensures.value ∙ ap (λ (x : Content). passed x (replicate (end_of_step V - V.last + steps_after V time * x.step) rates)) (sym c.self.view_is) in
    let last = at_last V late time rates is row h steps in
    let high = subst (λ (z : Content). c.end_steps.new.walk.meter ≤ c.args.walk.now.meter + most_of_ends z (steps_after V time)) (sym c.self.view_is) c.end_steps.ensures.most in
    let all = most_caught V time is h in
    let sources = ap length last.same.sources in
    let most = subst (λ (z : Content). c.args.walk.now.meter + most_to z time < 2 ^ 64) (sym c.self.view_is) c.requires.turns in
    grind (arith, last, subst (λ (walk : Vec Cell Global). IsRow (length late.sources) walk.items) (sym c.end_steps.ensures.keeps.rates) last.row_is)

pub returns-then-time-end : goal.returns-then-time-end
returns-then-time-end c =
    let V = content_of c.self.inside in
    let time : ℕ = c.args.time in
    let later = subst (λ (z : Content). z.last < time) (sym c.self.view_is) c.requires.later in
    let none = least_within V time c.self.invariant later c.if-time-end.true in
    record {
      value = c.pass_within_step.ensures.value ∙ ap (λ m. passed c.args.self.now (replicate (time - m) c.args.walk.now.rates.items)) (ap (λ (x : Content). x.last) c.self.view_is);
      least =
          let ticked = ap (λ (w : Walk). w.meter) c.pass_within_step.ensures.ticked in
          subst (λ (z : Content). c.args.walk.now.meter + least_to z time ≤ c.pass_within_step.new.walk.meter) c.self.view_is (omega (arith, none, ticked));
      most =
          let ticked = ap (λ (w : Walk). w.meter) c.pass_within_step.ensures.ticked ∙ ap (λ (x : Content). c.args.walk.now.meter + length x.sources) (sym c.self.view_is) in
          subst (λ (z : Content). c.pass_within_step.new.walk.meter ≤ c.args.walk.now.meter + most_to z time) c.self.view_is (omega (arith, ticked, most_within V time));
      keeps = search rules;
    }

pub returns-else-time-end : goal.returns-else-time-end
returns-else-time-end c =
    let is = c.self.invariant in
    let V = content_of c.self.inside in
    let rates = c.args.walk.now.rates.items in
    let time : ℕ = c.args.time in
    let row = subst (λ (z : Content). IsRow (length z.sources) rates) (sym c.self.view_is) c.requires.rates_are in
    let h = c.if-time-end.false in
    let late = c.end_steps.new.self in
    let steps : late ≡ passed V (replicate (seconds_to_steps V time) rates) = c.end_steps.ensures.value ∙ ap (λ (x : Content). passed x (replicate (end_of_step V - V.last + steps_after V time * x.step) rates)) (sym c.self.view_is) in
    let low = subst (λ (z : Content). c.args.walk.now.meter + least_of_ends z (steps_after V time) ≤ c.end_steps.new.walk.meter) (sym c.self.view_is) c.end_steps.ensures.least in
    let ticked = ap (λ (w : Walk). w.meter) c.pass_within_step-else-time-end.ensures.ticked in
    let high = subst (λ (z : Content). c.end_steps.new.walk.meter ≤ c.args.walk.now.meter + most_of_ends z (steps_after V time)) (sym c.self.view_is) c.end_steps.ensures.most in
    let sources = ap length (at_last V late time rates is row h steps).same.sources in
    record {
      value =
          caught_up c.seconds_pass_in_pieces.ensures V late c.pass_within_step-else-time-end.new.self time rates is h steps
          (c.pass_within_step-else-time-end.ensures.value ∙ ap (λ (row : Vec Cell Global). passed late (replicate ((time - end_of_step V) % V.step) row.items)) c.end_steps.ensures.keeps.rates)
          ∙ ap (λ (x : Content). passed x (replicate (time - x.last) rates)) c.self.view_is;
      least =
          let all = least_caught V time is c.if-time-end.false in
          subst (λ (z : Content). c.args.walk.now.meter + least_to z time ≤ c.pass_within_step-else-time-end.new.walk.meter) c.self.view_is (omega (arith, all, low, ticked));
      most =
          let all = most_caught V time is h in
          subst (λ (z : Content). c.pass_within_step-else-time-end.new.walk.meter ≤ c.args.walk.now.meter + most_to z time) c.self.view_is (omega (arith, all, high, ticked, sources));
      keeps = search rules;
    }
