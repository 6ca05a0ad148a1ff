use Rattle.rrd_tool.proofs.Common.{◌≡◌, ◌∙◌, ◌<◌, ◌+◌, ◌++◌, ◌∷◌, [], map, get_or, length, ap, Err, arith, get_or-map, length-map, err_from_is_err_and, sample_of, Sample, word_more, word_fails}
use Rattle.rrd_tool.proofs.commands.update.samples.Goals as goal

pub returns-in_err-sample : goal.returns-in_err-sample
returns-in_err-sample c =
    let p = err_from_is_err_and c.from_residual.result c.from_residual.ensures.1 in
    let ws = map (λ w. w.now) c.args.words.now in
    let inside : c.loop-index.index < length c.args.words.now = omega arith in
    let here : c.loop-index.index < length ws = simp length-map (omega arith) in
    let word : get_or ws c.loop-index.index [] ≡ (get_or c.args.words.now c.loop-index.index (record { ref_ptr = (0, 0); now = [] })).now =
    get_or-map _ c.args.words.now c.loop-index.index _ [] inside in
    word_fails (sample_of c.args.now) Sample (c.loop-index.index + 1) ws c.loop-index.index _ c.loop-index.samples _ c.from_residual.result c.in_err-sample.field-0.0
    here word c.loop-index.invariant (p.1 ∙ ap (λ e. Err e) p.2) c.in_err-sample.ensures

pub loop-index-preserved : goal.loop-index-preserved
loop-index-preserved c =
    let ws = map (λ w. w.now) c.args.words.now in
    let inside : c.loop-index.index < length c.args.words.now = omega arith in
    let here : c.loop-index.index < length ws = simp length-map (omega arith) in
    let word : get_or ws c.loop-index.index [] ≡ (get_or c.args.words.now c.loop-index.index (record { ref_ptr = (0, 0); now = [] })).now =
    get_or-map _ c.args.words.now c.loop-index.index _ [] inside in
    let pushed : c.push.new.self ≡ c.loop-index.samples ++ c.in_ok-sample.sample ∷ [] = c.in_ok-push.ensures in
    c.loop-index.invariant ∙ rw pushed (word_more (sample_of c.args.now) Sample (c.loop-index.index + 1) ws c.loop-index.index _ c.loop-index.samples c.in_ok-sample.sample here word c.in_ok-sample.ensures)
