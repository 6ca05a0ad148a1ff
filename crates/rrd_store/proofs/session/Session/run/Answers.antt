use Rattle.rrd_store.proofs.Common.{Ok}
use Rattle.rrd_store.proofs.session.Session.run.Goals as goal

pub returns-clause-run : goal.returns-clause-run
returns-clause-run g c s honest sound read = (Ok c.in_ok-parsed.parsed, c.in_ok-parsed.ensures, c.run_command.ensures.run s honest sound read)

pub returns-clause-on : goal.returns-clause-on
returns-clause-on g c d same s honest sound memory = (Ok c.in_ok-parsed.parsed, c.in_ok-parsed.ensures, c.run_command.ensures.on d same s honest sound memory)

pub returns-clause-safe : goal.returns-clause-safe
returns-clause-safe g c s d q honest sound memory holds safe =
    c.run_command.ensures.safe s d q honest sound memory (λ b runs. holds b (Ok c.in_ok-parsed.parsed, c.in_ok-parsed.ensures, runs)) safe

pub returns-clause-stored : goal.returns-clause-stored
returns-clause-stored g c s d q t ok honest sound memory holds stays safe =
    c.run_command.ensures.stored s d q t ok honest sound memory (λ b runs. holds b (Ok c.in_ok-parsed.parsed, c.in_ok-parsed.ensures, runs)) stays safe
