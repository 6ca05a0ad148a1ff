use Rattle.rrd_store.proofs.Common.{◌∙◌, sym}
use Rattle.rrd_store.proofs.session.Session.take.Goals as goal

pub returns-in-Some-clause-encoded : goal.returns-in-Some-clause-encoded
returns-in-Some-clause-encoded g c e d some_e some_d = c.args.self.now.encoded_is e d some_e (sym c.take.ensures.value ∙ c.in-Some.is ∙ some_d)
