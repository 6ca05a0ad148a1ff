use Rattle.rrd_file.proofs.Common.{◌∙◌, ◌≡◌, ◌-◌, sym, ap, take, drop, length, arith, take_all, length-drop, flat_map, replicate, ◌+◌, ◌++◌, Unknown, cell_bytes, unknown_block_read}
use Rattle.rrd_file.proofs.cells.unknown_blocks.Goals as goal

pub loop-rest-preserved : goal.loop-rest-preserved
loop-rest-preserved c =
    let rest = c.loop-rest.rest.now in
    let block = c.unknown_bytes-block.result.now in
    let more = drop (length block) rest in
    let all : take (length rest - length block) more ≡ more = take_all _ _ (omega (arith, length-drop (length block) rest)) in
    let read = unknown_block_read c.loop-rest.count c.args.size c.args.bytes.now rest block c.loop-rest.invariant.spelled c.unknown_bytes-block.ensures.bytes (c.are_same.ensures c.if-are_same.true) in
    record {
      spelled = read ∙ ap (λ xs. flat_map cell_bytes (replicate (c.loop-rest.count + c.args.size) Unknown) ++ xs) (sym all);
      room = omega (arith, ap length all, length-drop (length block) rest, c.loop-rest.invariant.room, c.unknown_bytes-block.ensures.size, c.loop-rest-test.true);
    }
