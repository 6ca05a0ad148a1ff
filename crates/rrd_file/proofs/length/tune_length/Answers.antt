use Rattle.rrd_file.proofs.Common.{arith, TuneEntry, present, tune_has}
use Rattle.rrd_file.proofs.length.tune_length.Goals as goal

pub returns-clause-count : goal.returns-clause-count
returns-clause-count c =
    let olds = c.args.olds.now in
    let may = c.outlines_judge_entries.ensures.needed present c.requires.now (TuneEntry olds) c.requires.valid c.requires.fits c.requires.before in
    omega (arith, tune_has olds may.each)
