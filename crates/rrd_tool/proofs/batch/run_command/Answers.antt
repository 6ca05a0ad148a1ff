use Rattle.rrd_tool.proofs.Common.{◌≡◌, Some, false, true, refl, IsUpdated, changed_once, keeps, updates, option_map, err_from_is_err_and, effect, stored_of, done_performs, flushed_performs, refused_performs, unflushed_performs, unwritten_performs, shown_says}
use Rattle.rrd_tool.specs.declared.execution.Outcome.TheVariants as outcome
use Rattle.rrd_tool.proofs.batch.run_command.Goals as goal

pub returns-in-Changed-clause-moved : goal.returns-in-Changed-clause-moved
returns-in-Changed-clause-moved g c s0 s =
    let done = rw c.in-Changed.is at (c.execute.ensures.run s0 (rw c.take.ensures.value s)) in
    done_performs s0 (effect c.args.command) (Some c.in-Changed.changed) (g.W.Write.contents c.args.out.now) (g.W.Write.contents c.execute.new.out) true done

pub returns-in_err-flush-in-Printed-clause-moved : goal.returns-in_err-flush-in-Printed-clause-moved
returns-in_err-flush-in-Printed-clause-moved g c s0 s =
    let p = err_from_is_err_and c.from_residual.result c.from_residual.ensures.1 in
    let done = rw c.in-Printed.is at (c.execute.ensures.run s0 (rw c.take.ensures.value s)) in
    let says = shown_says (option_map stored_of s0) c.args.command done.0 done.2 in
    rw p.1 (unflushed_performs s0 (effect c.args.command) (Some c.in-Printed.kept) (g.W.Write.contents c.args.out.now) (g.W.Write.contents c.execute.new.out) false (g.W.Write.contents c.flush.new.out) p.0 done says c.flush.ensures)

pub returns-in_ok-flush-in-Printed-clause-moved : goal.returns-in_ok-flush-in-Printed-clause-moved
returns-in_ok-flush-in-Printed-clause-moved g c s0 s =
    let done = rw c.in-Printed.is at (c.execute.ensures.run s0 (rw c.take.ensures.value s)) in
    flushed_performs s0 (effect c.args.command) (Some c.in-Printed.kept) (g.W.Write.contents c.args.out.now) (g.W.Write.contents c.execute.new.out) false (g.W.Write.contents c.flush.new.out) done c.flush.ensures

pub returns-in-Output-clause-moved : goal.returns-in-Output-clause-moved
returns-in-Output-clause-moved g c s0 s =
    let stopped = rw (c.in-Refused.is, c.in-Output.is) at (c.execute.ensures.run s0 (rw c.take.ensures.value s)) in
    unwritten_performs s0 (effect c.args.command) c.in-Refused.kept (g.W.Write.contents c.args.out.now) (g.W.Write.contents c.execute.new.out) false (record {}) stopped

pub returns-in_default-clause-moved : goal.returns-in_default-clause-moved
returns-in_default-clause-moved g c s0 s =
    let refused = rw c.in-Refused.is at (c.execute.ensures.run s0 (rw c.take.ensures.value s)) in
    refused_performs s0 (effect c.args.command) c.in-Refused.kept (g.W.Write.contents c.args.out.now) (g.W.Write.contents c.execute.new.out) false c.in-Refused.fault c.in_default.not-Output refused

-- ---- what has changed the database

pub returns-in-Changed-clause-changed : goal.returns-in-Changed-clause-changed
returns-in-Changed-clause-changed g c start was =
    let executed = rw (c.take.ensures.value, c.in-Changed.is) at c.execute.ensures.kept in
    let update : c.is_update-is_update.result ≡ true → IsUpdated 1 c.args.database.now (Some c.in-Changed.changed) = λ is.
    let u = c.is_update-is_update.ensures is in
    updates c.args.database.now c.args.command u.0 (g.W.Write.contents c.args.out.now) (g.W.Write.contents c.execute.new.out) c.in-Changed.changed u.1 c.all_are_valid.ensures c.updates_keep_newest_rows.ensures executed in
    rw c.and.ensures (changed_once c.args.changed_by.now c.is_update-is_update.result start c.args.database.now (Some c.in-Changed.changed) update was)

pub returns-in_err-flush-in-Printed-clause-changed : goal.returns-in_err-flush-in-Printed-clause-changed
returns-in_err-flush-in-Printed-clause-changed g c start was =
    keeps c.args.changed_by.now start c.args.database.now c.args.command (g.W.Write.contents c.args.out.now) (g.W.Write.contents c.execute.new.out) (outcome.Printed c.in-Printed.kept) (rw (c.take.ensures.value, c.in-Printed.is) at c.execute.ensures.kept) refl was

pub returns-in_ok-flush-in-Printed-clause-changed : goal.returns-in_ok-flush-in-Printed-clause-changed
returns-in_ok-flush-in-Printed-clause-changed g c start was =
    keeps c.args.changed_by.now start c.args.database.now c.args.command (g.W.Write.contents c.args.out.now) (g.W.Write.contents c.execute.new.out) (outcome.Printed c.in-Printed.kept) (rw (c.take.ensures.value, c.in-Printed.is) at c.execute.ensures.kept) refl was

pub returns-in-Output-clause-changed : goal.returns-in-Output-clause-changed
returns-in-Output-clause-changed g c start was =
    keeps c.args.changed_by.now start c.args.database.now c.args.command (g.W.Write.contents c.args.out.now) (g.W.Write.contents c.execute.new.out) (outcome.Refused c.in-Refused.kept c.in-Refused.fault) (rw (c.take.ensures.value, c.in-Refused.is) at c.execute.ensures.kept) refl was

pub returns-in_default-clause-changed : goal.returns-in_default-clause-changed
returns-in_default-clause-changed g c start was =
    keeps c.args.changed_by.now start c.args.database.now c.args.command (g.W.Write.contents c.args.out.now) (g.W.Write.contents c.execute.new.out) (outcome.Refused c.in-Refused.kept c.in-Refused.fault) (rw (c.take.ensures.value, c.in-Refused.is) at c.execute.ensures.kept) refl was
