use Rattle.rrd_base.proofs.Common.{refill, refilled, ◌≡◌, sym, ◌∙◌, ap, subst, ℕ, ◌+◌, ◌*◌, ◌/◌, ◌%◌, ◌≤◌, ◌∷◌, map, replicate, length, arith, fold, AllByRecursion, with_items, with_items_is, Average, Part, nothing, with_each, step_cell, Content, archive_passed, IsRow, content_of, parts_more, few_known, within_step, ends, stays}
use Rattle.rrd_base.proofs.content.Content.end_steps.Goals as goal

pub close_steps-requires-clause-fits : goal.close_steps-requires-clause-fits
close_steps-requires-clause-fits c =
    let d = c.self.inside in
    let is = c.self.invariant in
    let n : ℕ = c.args.seconds in
    let m : ℕ = c.args.count in
    let rates = c.args.walk.now.rates.items in
    let added_vec = with_items d.preps c.add_seconds.new.preps in
    let whole = fold (with_each Average) d.preps.items (replicate n rates) in
    let written : added_vec.items ≡ c.add_seconds.new.preps = with_items_is d.preps c.add_seconds.new.preps (omega (arith, d.preps.ok.0)) in
    let added : c.deref_mut-2.result.now ≡ whole = cc (c.deref_mut-2.ensures.value, written, c.add_seconds.ensures.added, c.deref_mut.ensures.value, c.deref.ensures.value) in
    let end = subst (λ (z : Content). z.last + n ≡ (z.last / z.step + 1) * z.step) (sym c.self.view_is) c.requires.fills in
    let row = subst (λ (z : Content). IsRow (length z.sources) rates) (sym c.self.view_is) c.requires.rates_are in
    let parts = parts_more c.parts_stay_bounded.ensures.one_more Average (length d.sources.items) (d.last % d.step) n d.preps.items rates is.parts_are row in
    subst (λ ps. AllByRecursion (λ (p : Part). p.known ≤ d.step) ps) (sym added) (few_known Average (d.last % d.step + n) d.step whole (within_step d.last n d.step is.some_step (omega arith)) parts.each)

pub invariant_of-self : goal.invariant_of-self
invariant_of-self c =
    let d = c.self.inside in
    let is = c.self.invariant in
    let n : ℕ = c.args.seconds in
    let m : ℕ = c.args.count in
    let k = length d.sources.items in
    let rates = c.args.walk.now.rates.items in
    let added_vec = with_items d.preps c.add_seconds.new.preps in
    let whole = fold (with_each Average) d.preps.items (replicate n rates) in
    let written : added_vec.items ≡ c.add_seconds.new.preps = with_items_is d.preps c.add_seconds.new.preps (omega (arith, d.preps.ok.0)) in
    let added : c.deref_mut-2.result.now ≡ whole = cc (c.deref_mut-2.ensures.value, written, c.add_seconds.ensures.added, c.deref_mut.ensures.value, c.deref.ensures.value) in
    let end = subst (λ (z : Content). z.last + n ≡ (z.last / z.step + 1) * z.step) (sym c.self.view_is) c.requires.fills in
    let row = subst (λ (z : Content). IsRow (length z.sources) rates) (sym c.self.view_is) c.requires.rates_are in
    let in_time = subst (λ (z : Content). z.last + (n + m * z.step) ≤ 9999999999) (sym c.self.view_is) c.requires.in_time in
    let count2 : length c.deref_mut-2.result.now ≡ k = ap length (c.deref_mut-2.ensures.value ∙ written) ∙ omega (arith, ap length c.deref_mut.ensures.value, is.parts_are.one_each) in
    let parts : (with_items added_vec c.close_steps.new.preps).items ≡ replicate k nothing = cc (with_items_is added_vec c.close_steps.new.preps (omega (arith, added_vec.ok.0, ap length c.deref_mut-2.ensures.value)), c.close_steps.ensures.anew, count2) in
    let cells = c.deref-2.result.now in
    let cells_are : cells ≡ c.close_steps.new.cells = c.deref-2.ensures.value ∙ with_items_is c.args.walk.now.step c.close_steps.new.cells (omega (arith, c.args.walk.now.step.ok.0, ap length c.deref_mut-3.ensures.value)) in
    let wide : length cells ≡ k = ap length cells_are ∙ omega (arith, c.close_steps.ensures.row.one_each, count2) in
    let q = d.last / d.step in
    let stored : refill (length d.archives) d.archives c.take_all.new.archives ≡ c.take_all.new.archives = refilled d.archives c.take_all.new.archives (omega (arith, ap length c.as_mut_slice-archives.ensures.value)) in
    let archives : refill (length d.archives) d.archives c.take_all.new.archives ≡ map (archive_passed k q (cells ∷ replicate m rates)) d.archives = cc (stored, c.take_all.ensures.value, c.as_mut_slice-archives.ensures.value, wide, c.deref-3.ensures.value) in
    let made : cells ≡ map (step_cell d.step) whole = cells_are ∙ c.close_steps.ensures.cells ∙ ap (map (step_cell d.step)) added in
    let now = ends c.seconds_pass_at_once.ensures (content_of d) n m rates cells (with_items added_vec c.close_steps.new.preps).items (refill (length d.archives) d.archives c.take_all.new.archives) is row end made parts archives in
    stays c.seconds_stay_valid.ensures.content (content_of d) _ (n + m * d.step) rates is row in_time now

pub returns-clause-value : goal.returns-clause-value
returns-clause-value c =
    let d = c.self.inside in
    let is = c.self.invariant in
    let n : ℕ = c.args.seconds in
    let m : ℕ = c.args.count in
    let k = length d.sources.items in
    let rates = c.args.walk.now.rates.items in
    let added_vec = with_items d.preps c.add_seconds.new.preps in
    let whole = fold (with_each Average) d.preps.items (replicate n rates) in
    let written : added_vec.items ≡ c.add_seconds.new.preps = with_items_is d.preps c.add_seconds.new.preps (omega (arith, d.preps.ok.0)) in
    let added : c.deref_mut-2.result.now ≡ whole = cc (c.deref_mut-2.ensures.value, written, c.add_seconds.ensures.added, c.deref_mut.ensures.value, c.deref.ensures.value) in
    let end = subst (λ (z : Content). z.last + n ≡ (z.last / z.step + 1) * z.step) (sym c.self.view_is) c.requires.fills in
    let row = subst (λ (z : Content). IsRow (length z.sources) rates) (sym c.self.view_is) c.requires.rates_are in
    let count2 : length c.deref_mut-2.result.now ≡ k = ap length (c.deref_mut-2.ensures.value ∙ written) ∙ omega (arith, ap length c.deref_mut.ensures.value, is.parts_are.one_each) in
    let parts : (with_items added_vec c.close_steps.new.preps).items ≡ replicate k nothing = cc (with_items_is added_vec c.close_steps.new.preps (omega (arith, added_vec.ok.0, ap length c.deref_mut-2.ensures.value)), c.close_steps.ensures.anew, count2) in
    let cells = c.deref-2.result.now in
    let cells_are : cells ≡ c.close_steps.new.cells = c.deref-2.ensures.value ∙ with_items_is c.args.walk.now.step c.close_steps.new.cells (omega (arith, c.args.walk.now.step.ok.0, ap length c.deref_mut-3.ensures.value)) in
    let wide : length cells ≡ k = ap length cells_are ∙ omega (arith, c.close_steps.ensures.row.one_each, count2) in
    let q = d.last / d.step in
    let stored : refill (length d.archives) d.archives c.take_all.new.archives ≡ c.take_all.new.archives = refilled d.archives c.take_all.new.archives (omega (arith, ap length c.as_mut_slice-archives.ensures.value)) in
    let archives : refill (length d.archives) d.archives c.take_all.new.archives ≡ map (archive_passed k q (cells ∷ replicate m rates)) d.archives = cc (stored, c.take_all.ensures.value, c.as_mut_slice-archives.ensures.value, wide, c.deref-3.ensures.value) in
    let made : cells ≡ map (step_cell d.step) whole = cells_are ∙ c.close_steps.ensures.cells ∙ ap (map (step_cell d.step)) added in
    cc (ends c.seconds_pass_at_once.ensures (content_of d) n m rates cells (with_items added_vec c.close_steps.new.preps).items (refill (length d.archives) d.archives c.take_all.new.archives) is row end made parts archives, c.self.view_is)
