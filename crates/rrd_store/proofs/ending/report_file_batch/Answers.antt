use Rattle.rrd_store.proofs.ending.report_file_batch.Goals as goal

pub returns-in-Ok-clause-told : goal.returns-in-Ok-clause-told
returns-in-Ok-clause-told g c = rw c.in-Ok.is c.report_batch.ensures.told

pub returns-in-Err-clause-told : goal.returns-in-Err-clause-told
returns-in-Err-clause-told g c = rw c.in-Err.is c.report_command.ensures.told
