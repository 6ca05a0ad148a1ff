use Rattle.rrd_base.proofs.Common.{own_value}
use Rattle.rrd_base.proofs.columns.index_of.Goals as goal

pub returns-in-None : goal.returns-in-None
returns-in-None c = λ values d.
    cc (own_value c.args.sources.now values c.args.source d c.requires.names_differ c.requires.there, c.in-None.is)
