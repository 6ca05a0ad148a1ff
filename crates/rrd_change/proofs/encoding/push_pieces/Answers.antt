use Rattle.rrd_change.proofs.Common.{length, arith, pushed_more, within_more, common_steps}
use Rattle.rrd_change.proofs.encoding.push_pieces.Goals as goal

pub loop-number-preserved : goal.loop-number-preserved
loop-number-preserved c = grind (arith, common_steps, pushed_more c.args.bytes.now c.args.buffer.now.items c.loop-number.buffer.items c.push_piece.new.buffer.items c.args.spans.now c.loop-number.number, within_more (length c.args.bytes.now) c.args.spans.now c.loop-number.number)
