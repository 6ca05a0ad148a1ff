use Rattle.rrd_file.proofs.Common.{ap, drop, length, sym, arith, sum_by, sum_split, take_all, Entry, entry_pieces, spelled, entry_of_some, sum_next, items_have}
use Rattle.rrd_file.proofs.length.entries_length.Goals as goal

pub entry_length-length-requires : goal.entry_length-length-requires
entry_length-length-requires c = entry_of_some c.args.database.now.content c.args.database.now.journal c.loop-number.number _ c.database_is_valid.ensures (sym c.entry.ensures)

pub loop-number-preserved : goal.loop-number-preserved
loop-number-preserved c = record {
  counted = omega (arith, sum_next (λ (entry : Entry). length (spelled (entry_pieces entry))) c.args.database.now.journal c.loop-number.number _ (sym c.entry.ensures), c.entry_length-length.ensures.count, c.loop-number.invariant.counted);
  few = omega (arith, c.entry_length-length.ensures.few, c.loop-number.invariant.few);
}

pub returns-clause-count : goal.returns-clause-count
returns-clause-count c =
    let journal = c.args.database.now.journal in
    let size = λ (entry : Entry). length (spelled (entry_pieces entry)) in
    let all = ap (sum_by size) (take_all c.loop-number.number journal (omega (arith, c.undoable-number-end.ensures.count, c.loop-number-test.false))) in
    omega (arith, items_have entry_pieces (drop c.args.from journal), sum_split size c.args.from journal, all, c.loop-number.invariant.counted)
