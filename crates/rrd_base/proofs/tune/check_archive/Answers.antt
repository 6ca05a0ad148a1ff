use Rattle.rrd_base.proofs.Common.{length-map, Rra, settings}
use Rattle.rrd_base.proofs.tune.check_archive.Goals as goal

pub returns-in-Remove : goal.returns-in-Remove
returns-in-Remove c =
    cc (c.check_removed.ensures (settings c.args.sources.now c.args.archives.now) (length-map c.args.archives.now (λ (a : Rra). a.def.rows)), c.in-Remove.is)
