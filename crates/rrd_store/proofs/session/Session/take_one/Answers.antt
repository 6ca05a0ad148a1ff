use Rattle.rrd_store.proofs.Common.{◌∙◌}
use Rattle.rrd_store.proofs.session.Session.take_one.Goals as goal

pub returns-in-Some-clause-encoded : goal.returns-in-Some-clause-encoded
returns-in-Some-clause-encoded g c e d some_e some_d = c.in_ok-database.ensures.encoded e d some_e (c.in-Some.is ∙ some_d)
