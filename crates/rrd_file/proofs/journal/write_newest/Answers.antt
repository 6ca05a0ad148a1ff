use Rattle.rrd_file.proofs.Common.{sym, subst, arith, length-take, take, Entry, entry_pieces, spelled, spell, Adds, entry_of_some, err_from_is_err_and, all_added, flat_flat, item_added, item_broken, taken_at}
use Rattle.rrd_file.proofs.journal.write_newest.Goals as goal

pub write_entry-requires : goal.write_entry-requires
write_entry-requires g c = entry_of_some c.args.database.now.content c.args.database.now.journal c.loop-number.number _ c.database_is_valid.ensures (sym c.entry.ensures)

pub returns-in_err-write_entry : goal.returns-in_err-write_entry
returns-in_err-write_entry g c =
    let p = err_from_is_err_and c.from_residual.result c.from_residual.ensures.1 in
    let first = take c.args.count c.args.database.now.journal in
    rw (p.1, flat_flat spell entry_pieces first) (item_broken (λ (entry : Entry). spelled (entry_pieces entry)) first c.loop-number.number (_) (taken_at c.args.count c.args.database.now.journal c.loop-number.number _ (omega (arith, c.loop-number-test.true)) (sym c.entry.ensures)) (c.loop-number.invariant) c.in_err-write_entry.ensures)

pub loop-number-preserved : goal.loop-number-preserved
loop-number-preserved g c =
    let first = take c.args.count c.args.database.now.journal in
    item_added (λ (entry : Entry). spelled (entry_pieces entry)) first c.loop-number.number (_) (taken_at c.args.count c.args.database.now.journal c.loop-number.number _ (omega (arith, c.loop-number-test.true)) (sym c.entry.ensures)) (c.loop-number.invariant) c.in_ok-write_entry.ensures

pub returns : goal.returns
returns g c =
    let first = take c.args.count c.args.database.now.journal in
    subst (Adds _ _ _) (sym (flat_flat spell entry_pieces first)) (all_added (λ (entry : Entry). spelled (entry_pieces entry)) first c.loop-number.number (omega (arith, length-take c.args.count c.args.database.now.journal, c.loop-number-test.false)) (c.loop-number.invariant))
