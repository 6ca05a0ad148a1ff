use Rattle.rrd_file.proofs.Common.{◌∙◌, ◌-◌, ◌+◌, ap, sym, after_all_saved, saved_done, saved_more}
use Rattle.rrd_file.proofs.end.after_all_saved.Goals as goal

pub loop-preserved : goal.loop-preserved
loop-preserved c =
    let n = c.args.sources in
    let left = c.args.archives - (c.loop.counter + 1) in
    ap (after_all_saved n left) c.after_rows-rest.ensures ∙ saved_more n c.args.archives c.loop.counter c.loop.rest.now c.loop-test.true ∙ c.loop.invariant

pub returns : goal.returns
returns c = sym (saved_done c.args.sources c.args.archives c.loop.counter c.loop.rest.now c.loop-test.false) ∙ c.loop.invariant
