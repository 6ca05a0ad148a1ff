use Rattle.rrd_file.proofs.Common.{ap, length, arith, take_all, sum_by, SavedArchive, saved_pieces, spelled, items_have}
use Rattle.rrd_file.proofs.length.all_saved_length.Goals as goal

pub returns-clause-count : goal.returns-clause-count
returns-clause-count c =
    let saved = c.args.saved.now in
    let all = ap (sum_by (λ (old : SavedArchive). length (spelled (saved_pieces old)))) (take_all c.loop-archive.archive-index saved (omega (arith, c.loop-archive-test.false, c.loop-archive.auto.archive-index-end))) in
    omega (arith, items_have saved_pieces saved, all, c.loop-archive.invariant.counted)
