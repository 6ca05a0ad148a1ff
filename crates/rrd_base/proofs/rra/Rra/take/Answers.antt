use Rattle.rrd_base.proofs.Common.{◌≡◌, sym, ◌∙◌, ap, subst, ◌+◌, ◌-◌, ◌*◌, ◌/◌, ◌%◌, ◌≤◌, ◌<◌, ◌^◌, ◌∷◌, ◌++◌, ℕ, List, min, map, length, replicate, arith, length-replicate, mod_below, AllByRecursion, fold, Cell, Part, nothing, row_cell, with_each, HasWidth, RraDef, Rra, keep_last, ended_none, ended_some, still_fit, taken_valid, rows_wide, filled, full, left_of, rules}
use Rattle.rrd_base.proofs.rra.Rra.take.Goals as goal

-- ---- the row stays unfinished

pub returns-then-steps-left : goal.returns-then-steps-left
returns-then-steps-left c =
    let A = c.args.self.now in
    let before : ℕ = c.args.steps.now.before in
    let count : ℕ = c.args.steps.now.count in
    let then = c.args.steps.now.others.now in
    let short = subst (λ (d : RraDef). count < left_of before d) c.def-in_row.ensures c.if-steps-left.true in
    let n = length c.args.steps.now.first.now in
    let none = ended_none before count A.def.steps c.requires.valid.some_steps short in
    let value =
    c.go_on-then-steps-left.ensures.value
    ∙ ap (λ (x : Rra). let y : Rra = record x { parts = fold (with_each x.def.function) x.parts (replicate count then) } in y) c.go_on.ensures.value
    ∙ sym (c.steps_pass_at_once.ensures.within (length c.args.steps.now.first.now) before A (c.args.steps.now.first.now ∷ replicate count then) c.requires.valid.some_steps (omega (arith, short, length-replicate count then))) in
    record {
      value = value;
      valid = taken_valid c.seconds_stay_valid.ensures.archive c.args.steps.now.first.now then before count A _ c.requires.valid c.requires.steps_are.first c.requires.steps_are.others value;
      least =
          subst (λ k. c.args.meter.now + n * min k A.def.rows ≤ c.go_on-then-steps-left.new.meter) (sym none)
          (subst (λ k. c.args.meter.now + n * k ≤ c.go_on-then-steps-left.new.meter) {x = 0} {y = min 0 A.def.rows} (omega arith) (omega (arith, c.go_on.ensures.ticked, c.go_on-then-steps-left.ensures.ticked)));
      most = search rules;
      places = search rules;
    }

-- ---- it ends

pub close_row-requires : goal.close_row-requires
close_row-requires c =
    let A = c.args.self.now in
    let one = c.go_on.new.self in
    let two = c.go_on-else-steps-left.new.self in
    let then = c.args.steps.now.others.now in
    let v = subst (λ (d : RraDef). two ≡ record one { parts = fold (with_each one.def.function) one.parts (replicate (left_of c.args.steps.now.before d) then) }) c.def-in_row.ensures c.go_on-else-steps-left.ensures.value in
    let whole = full c.parts_stay_bounded.ensures.one_more c.args.steps.now.before A one two c.args.steps.now.first.now then c.requires.valid c.requires.steps_are.first c.requires.steps_are.others c.go_on.ensures.value v in
    grind (arith, c.requires.places ∙ sym whole.wide, whole)

pub push-requires : goal.push-requires
push-requires c =
    let A = c.args.self.now in
    let n = length c.args.steps.now.first.now in
    let places : length c.close_row.new.row ≡ n = omega (arith, c.requires.places) in
    let before : ℕ = c.args.steps.now.before in
    let count : ℕ = c.args.steps.now.count in
    let long = subst (λ (d : RraDef). left_of before d ≤ count) c.def-in_row.ensures c.if-steps-left.false in
    let k = 1 + (count - left_of before A.def) / A.def.steps in
    let ended : (before + (1 + count)) / A.def.steps - before / A.def.steps ≡ k = ended_some before count A.def.steps c.requires.valid.some_steps long in
    let turns = subst (λ x. c.args.meter.now + n * (4 + min x A.def.rows) < 2 ^ 64) ended c.requires.turns in
    record {
      wide =
          let rows : c.close_row.new.self.rows ≡ A.rows = ap (λ (x : Rra). x.rows) (c.close_row.ensures.value) ∙ ap (λ (x : Rra). x.rows) c.go_on-else-steps-left.ensures.value ∙ ap (λ (x : Rra). x.rows) c.go_on.ensures.value in
          subst (λ (rs : List (List Cell)). HasWidth (length c.close_row.new.row) rs) (sym rows)
          (subst (λ k. HasWidth k A.rows) (sym places) (rows_wide n A.rows c.requires.valid.each_row));
      turns =
          let rows : length c.close_row.new.self.rows ≡ A.def.rows = ap (λ (x : Rra). length x.rows) (c.close_row.ensures.value) ∙ ap (λ (x : Rra). length x.rows) c.go_on-else-steps-left.ensures.value ∙ ap (λ (x : Rra). length x.rows) c.go_on.ensures.value ∙ c.requires.valid.rows_are in
          subst (λ (d : RraDef). c.close_row.new.meter + length c.close_row.new.row * min (1 + (count - left_of before d) / d.steps) (length c.close_row.new.self.rows) < 2 ^ 64) (sym c.def-in_row.ensures)
          (subst (λ w. c.close_row.new.meter + w * min k (length c.close_row.new.self.rows) < 2 ^ 64) (sym places)
          (subst (λ r. c.close_row.new.meter + n * min k r < 2 ^ 64) (sym rows)
          (omega (arith, turns, c.requires.places, c.go_on.ensures.ticked, c.go_on-else-steps-left.ensures.ticked, c.close_row.ensures.ticked))));
      same_width = search rules;
    }

pub go_on-requires-else-steps-left-2-clause-fits : goal.go_on-requires-else-steps-left-2-clause-fits
go_on-requires-else-steps-left-2-clause-fits c =
    let A = c.args.self.now in
    let before : ℕ = c.args.steps.now.before in
    let count : ℕ = c.args.steps.now.count in
    let m = length c.args.row.now in
    let f = A.def.function in
    let parts : c.push.new.self.parts ≡ replicate m nothing = ap (λ (x : Rra). x.parts) c.push.ensures.value ∙ ap (λ (x : Rra). x.parts) c.close_row.ensures.value in
    subst (λ (d : RraDef). AllByRecursion (λ (p : Part). p.known + (count - left_of before d) % d.steps ≤ 1000000) c.push.new.self.parts) (sym c.def-in_row.ensures)
    (subst (λ ps. AllByRecursion (λ (p : Part). p.known + (count - left_of before A.def) % A.def.steps ≤ 1000000) ps) (sym parts)
    (still_fit f 0 ((count - left_of before A.def) % A.def.steps) 1000000 (replicate m nothing) (omega (arith, mod_below (count - left_of before A.def) A.def.steps c.requires.valid.some_steps, c.requires.valid.few_steps)) (let empty = c.parts_stay_bounded.ensures.none f m in empty.each)))

pub go_on-requires-else-steps-left-2-clause-turns : goal.go_on-requires-else-steps-left-2-clause-turns
go_on-requires-else-steps-left-2-clause-turns c =
    let A = c.args.self.now in
    let before : ℕ = c.args.steps.now.before in
    let count : ℕ = c.args.steps.now.count in
    let n = length c.args.steps.now.first.now in
    let long = subst (λ (d : RraDef). left_of before d ≤ count) c.def-in_row.ensures c.if-steps-left.false in
    let k = 1 + (count - left_of before A.def) / A.def.steps in
    let ended : (before + (1 + count)) / A.def.steps - before / A.def.steps ≡ k = ended_some before count A.def.steps c.requires.valid.some_steps long in
    let turns = subst (λ x. c.args.meter.now + n * (4 + min x A.def.rows) < 2 ^ 64) ended c.requires.turns in
    let rows : length c.close_row.new.self.rows ≡ A.def.rows = ap (λ (x : Rra). length x.rows) (c.close_row.ensures.value) ∙ ap (λ (x : Rra). length x.rows) c.go_on-else-steps-left.ensures.value ∙ ap (λ (x : Rra). length x.rows) c.go_on.ensures.value ∙ c.requires.valid.rows_are in
    let places : length c.close_row.new.row ≡ n = omega (arith, c.requires.places) in
    let pushed : c.push.new.meter ≡ c.close_row.new.meter + n * min k A.def.rows = cc (c.push.ensures.ticked, c.def-in_row.ensures, places, rows) in
    omega (arith, turns, c.requires.places, c.requires.steps_are.others.one_each, pushed, c.go_on.ensures.ticked, c.go_on-else-steps-left.ensures.ticked, c.close_row.ensures.ticked)

pub returns-else-steps-left : goal.returns-else-steps-left
returns-else-steps-left c =
    let A = c.args.self.now in
    let before : ℕ = c.args.steps.now.before in
    let count : ℕ = c.args.steps.now.count in
    let first = c.args.steps.now.first.now in
    let then = c.args.steps.now.others.now in
    let one = c.go_on.new.self in
    let two = c.go_on-else-steps-left.new.self in
    let three = c.close_row.new.self in
    let four = c.push.new.self in
    let is = c.requires.valid in
    let m = A.def.steps in
    let left = left_of before A.def in
    let long = subst (λ (d : RraDef). left_of before d ≤ count) c.def-in_row.ensures c.if-steps-left.false in
    let v2 = subst (λ (d : RraDef). two ≡ record one { parts = fold (with_each one.def.function) one.parts (replicate (left_of before d) then) }) c.def-in_row.ensures c.go_on-else-steps-left.ensures.value in
    let whole = full c.parts_stay_bounded.ensures.one_more before A one two first then is c.requires.steps_are.first c.requires.steps_are.others c.go_on.ensures.value v2 in
    let cells : c.close_row.new.row ≡ map (row_cell A.def.function A.def.xff m) (filled A first then left)
    = c.close_row.ensures.cells ∙ ap (λ (x : Rra). map (row_cell x.def.function x.def.xff x.def.steps) x.parts) whole.is in
    let rows : length c.close_row.new.self.rows ≡ A.def.rows = ap (λ (x : Rra). length x.rows) (c.close_row.ensures.value) ∙ ap (λ (x : Rra). length x.rows) c.go_on-else-steps-left.ensures.value ∙ ap (λ (x : Rra). length x.rows) c.go_on.ensures.value ∙ c.requires.valid.rows_are in
    let n = length first in
    let k = 1 + (count - left_of before A.def) / A.def.steps in
    let ended : (before + (1 + count)) / A.def.steps - before / A.def.steps ≡ k = ended_some before count A.def.steps c.requires.valid.some_steps long in
    let places : length c.close_row.new.row ≡ n = omega (arith, c.requires.places) in
    let pushed : c.push.new.meter ≡ c.close_row.new.meter + n * min k A.def.rows
    = c.push.ensures.ticked
    ∙ ap (λ (d : RraDef). c.close_row.new.meter + length c.close_row.new.row * min (1 + (count - left_of before d) / d.steps) (length c.close_row.new.self.rows)) c.def-in_row.ensures
    ∙ ap (λ w. c.close_row.new.meter + w * min k (length c.close_row.new.self.rows)) places
    ∙ ap (λ r. c.close_row.new.meter + n * min k r) rows in
    let v3 : three ≡ record A { parts = replicate n nothing }
    = c.close_row.ensures.value ∙ ap (λ (x : Rra). let y : Rra = record x { parts = replicate (length c.args.row.now) nothing } in y) whole.is ∙ ap (λ w. let y : Rra = record A { parts = replicate w nothing } in y) c.requires.places in
    let v4 : four ≡ record A { parts = replicate n nothing; rows = keep_last (length A.rows) (A.rows ++ map (row_cell A.def.function A.def.xff m) (filled A first then left) ∷ replicate ((count - left) / m) then) }
    = c.push.ensures.value
    ∙ ap (λ (d : RraDef). let y : Rra = record three { rows = keep_last (length three.rows) (three.rows ++ c.close_row.new.row ∷ replicate ((count - left_of before d) / d.steps) then) } in y) c.def-in_row.ensures
    ∙ ap (λ (x : Rra). let y : Rra = record x { rows = keep_last (length x.rows) (x.rows ++ c.close_row.new.row ∷ replicate ((count - left) / m) then) } in y) v3
    ∙ ap (λ (row : List Cell). let y : Rra = record A { parts = replicate n nothing; rows = keep_last (length A.rows) (A.rows ++ row ∷ replicate ((count - left) / m) then) } in y) cells in
    let value =
    c.go_on-else-steps-left-2.ensures.value
    ∙ ap (λ (d : RraDef). let y : Rra = record four { parts = fold (with_each four.def.function) four.parts (replicate ((count - left_of before d) % d.steps) then) } in y) c.def-in_row.ensures
    ∙ ap (λ (x : Rra). let y : Rra = record x { parts = fold (with_each x.def.function) x.parts (replicate ((count - left) % m) then) } in y) v4
    ∙ sym (c.steps_pass_at_once.ensures.over n before count A first then is.some_steps is.xff_low is.xff_high c.requires.steps_are.others.one_each long) in
    record {
      value = value;
      valid = taken_valid c.seconds_stay_valid.ensures.archive first then before count A _ is c.requires.steps_are.first c.requires.steps_are.others value;
      least =
          subst (λ x. c.args.meter.now + n * min x A.def.rows ≤ c.go_on-else-steps-left-2.new.meter) (sym ended)
          (omega (arith, pushed, c.go_on.ensures.ticked, c.go_on-else-steps-left.ensures.ticked, c.close_row.ensures.ticked, c.go_on-else-steps-left-2.ensures.ticked));
      most =
          subst (λ x. c.go_on-else-steps-left-2.new.meter ≤ c.args.meter.now + n * (4 + min x A.def.rows)) (sym ended)
          (omega (arith, pushed, c.requires.places, c.requires.steps_are.others.one_each, c.go_on.ensures.ticked, c.go_on-else-steps-left.ensures.ticked, c.close_row.ensures.ticked, c.go_on-else-steps-left-2.ensures.ticked));
      places = search rules;
    }
