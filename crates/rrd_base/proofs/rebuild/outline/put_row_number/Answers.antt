use Rattle.rrd_base.proofs.Common.{arith, row_number_past, row_number_set}
use Rattle.rrd_base.proofs.rebuild.outline.put_row_number.Goals as goal

pub returns-then-archive-len : goal.returns-then-archive-len
returns-then-archive-len c = row_number_set c.args.archives.now c.args.archive c.args.rows c.get_mut.result.now (omega arith) c.get_mut.ensures.value

pub returns-else-archive-len : goal.returns-else-archive-len
returns-else-archive-len c = row_number_past c.args.archives.now c.args.archive c.args.rows (omega arith)
