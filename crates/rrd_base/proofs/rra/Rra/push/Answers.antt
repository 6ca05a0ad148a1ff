use Rattle.rrd_base.proofs.Common.{◌≡◌, refl, sym, ◌∙◌, ap, subst, ◌+◌, ◌*◌, ◌<◌, ◌^◌, ◌∷◌, ◌++◌, ℕ, List, [], min, length, replicate, length-append, arith, length-drop, length-replicate, Cell, HasWidth, HasWidth-append, HasWidth-drop, Rra, keep_last, Inside, push_before, push_past, shown}
use Rattle.rrd_base.proofs.rra.Rra.push.Goals as goal
use Rattle.rrd_base.proofs.rra.Rra.push.Goals.{then-times-rows, else-times-rows}

pub push_times-requires : goal.push_times-requires
push_times-requires c =
    let rows = c.self.inside.rows in
    let row = c.args.row.now in
    let n = length row in
    let one : List (List Cell) = row ∷ [] in
    let wide = subst (λ (x : Rra). HasWidth n x.rows) (sym c.self.view_is) c.requires.wide in
    let now = c.if-times-rows.self-inside.rows in
    let r = length rows in
    let k : ℕ = c.args.times in
    let most = subst (λ (x : Rra). c.args.meter.now + n * min (1 + k) (length x.rows) < 2 ^ 64) (sym c.self.view_is) c.requires.turns in
    record {
      wide =
          subst (λ k. HasWidth k c.if-times-rows.self-inside.rows) (sym c.requires.same_width)
          (elim c.if-times-rows.branch [
            | then-times-rows w ↦ subst (HasWidth n) (sym (ap (λ (x : Inside). x.rows) w.self-inside-is ∙ w.push_row.ensures.rows)) (HasWidth-drop n 1 (rows ++ one) (HasWidth-append n rows one wide (refl, tt)))
            | else-times-rows w ↦ subst (HasWidth n) (sym (ap (λ (x : Inside). x.rows) w.self-inside-is)) wide
          ]);
      turns =
          subst (λ m. c.if-times-rows.meter + m * min k (length now) < 2 ^ 64) (sym c.requires.same_width)
          (elim c.if-times-rows.branch [
            | then-times-rows w ↦
                let count : length now ≡ r = ap (λ (x : Inside). length x.rows) w.self-inside-is ∙ ap length w.push_row.ensures.rows ∙ omega (arith, length-drop 1 (rows ++ one), length-append rows one) in
                let few : min k r ≡ k = omega (arith, w.if-times-rows.true, c.rows.ensures.count) in
                let more : min (1 + k) r ≡ 1 + k = omega (arith, w.if-times-rows.true, c.rows.ensures.count) in
                let all = subst (λ x. c.args.meter.now + n * x < 2 ^ 64) more most in
                subst (λ x. c.if-times-rows.meter + n * min k x < 2 ^ 64) (sym count)
                (subst (λ x. c.if-times-rows.meter + n * x < 2 ^ 64) (sym few) (omega (arith, all, w.meter-is, w.push_row.ensures.turns)))
            | else-times-rows w ↦
                let same : min (1 + k) r ≡ min k r = omega (arith, w.if-times-rows.false, c.rows.ensures.count) in
                let all = subst (λ x. c.args.meter.now + n * x < 2 ^ 64) same most in
                subst (λ x. c.if-times-rows.meter + n * min k x < 2 ^ 64) (sym (ap (λ (x : Inside). length x.rows) w.self-inside-is)) (omega (arith, all, w.meter-is))
          ]);
    }

pub returns-clause-value : goal.returns-clause-value
returns-clause-value c =
    let a = c.self.inside in
    let now = c.if-times-rows.self-inside in
    let row = c.args.row.now in
    let more = replicate c.args.times c.args.other.now in
    let kept = λ (x : Inside). keep_last (length x.rows) (x.rows ++ more) in
    let with_rows = shown a.def a.preps.items in
    ap (shown now.def now.preps.items) c.push_times.ensures.rows
    ∙ (elim c.if-times-rows.branch [
      | then-times-rows w ↦ ap (λ (x : Inside). shown x.def x.preps.items (kept x)) w.self-inside-is
          ∙ ap (λ z. with_rows (keep_last (length z) (z ++ more))) w.push_row.ensures.rows
          ∙ ap with_rows (push_before a.rows more row)
      | else-times-rows w ↦ ap (λ (x : Inside). shown x.def x.preps.items (kept x)) w.self-inside-is
          ∙ ap with_rows (push_past a.rows more row (omega (arith, w.if-times-rows.false, c.rows.ensures.count, length-replicate c.args.times c.args.other.now)))
    ])
    ∙ ap (λ (x : Rra). let y : Rra = record x { rows = keep_last (length x.rows) (x.rows ++ row ∷ more) } in y) c.self.view_is

pub returns-clause-ticked : goal.returns-clause-ticked
returns-clause-ticked c =
    let rows = c.self.inside.rows in
    let now = c.if-times-rows.self-inside.rows in
    let row = c.args.row.now in
    let n = length row in
    let r = length rows in
    let k : ℕ = c.args.times in
    let one : List (List Cell) = row ∷ [] in
    c.push_times.ensures.turns ∙ ap (λ m. c.if-times-rows.meter + m * min k (length now)) c.requires.same_width
    ∙ (elim c.if-times-rows.branch [
      | then-times-rows w ↦
          let count : length now ≡ r = ap (λ (x : Inside). length x.rows) w.self-inside-is ∙ ap length w.push_row.ensures.rows ∙ omega (arith, length-drop 1 (rows ++ one), length-append rows one) in
          let few : min k r ≡ k = omega (arith, w.if-times-rows.true, c.rows.ensures.count) in
          let more : min (1 + k) r ≡ 1 + k = omega (arith, w.if-times-rows.true, c.rows.ensures.count) in
          ap (λ x. c.if-times-rows.meter + n * min k x) count ∙ ap (λ x. c.if-times-rows.meter + n * x) few
          ∙ ap (λ m. m + n * k) (w.meter-is ∙ w.push_row.ensures.turns)
          ∙ omega arith
          ∙ ap (λ x. c.args.meter.now + n * x) (sym more)
      | else-times-rows w ↦
          let same : min k r ≡ min (1 + k) r = omega (arith, w.if-times-rows.false, c.rows.ensures.count) in
          ap (λ (x : Inside). c.if-times-rows.meter + n * min k (length x.rows)) w.self-inside-is ∙ ap (λ m. m + n * min k r) w.meter-is ∙ ap (λ x. c.args.meter.now + n * x) same
    ])
    ∙ ap (λ (x : Rra). c.args.meter.now + n * min (1 + k) (length x.rows)) c.self.view_is
