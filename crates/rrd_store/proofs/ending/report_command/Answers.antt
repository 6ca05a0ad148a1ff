use Rattle.rrd_store.proofs.ending.report_command.Goals as goal

pub returns-clause-told : goal.returns-clause-told
returns-clause-told g c = (c.write_if-written.result, rw c.err.ensures.value at c.write_if-written.ensures)
