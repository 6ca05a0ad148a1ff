use Rattle.rrd_store.proofs.ending.report_batch.Goals as goal

pub returns-clause-told : goal.returns-clause-told
returns-clause-told g c = (c.write_batch_faults-written.result, c.write_batch_faults-written.ensures)
