use Rattle.rrd_tool.proofs.Common.{false, true, err_from_is_err_and, fault_line, tallied, turn, fault_says, performed_stopped, performed_text, refused_answers, refused_stopped}
use Rattle.rrd_tool.proofs.batch.answer.Goals as goal

pub returns-in_err-fault-clause-told : goal.returns-in_err-fault-clause-told
returns-in_err-fault-clause-told g c unfinished h h0 s most t0 tallies =
    let p = err_from_is_err_and c.from_residual.result c.from_residual.ensures.1 in
    let m = c.in_err-fault.ensures.moved unfinished h h0 s in
    let begun = c.begin_line.ensures.tally most t0 tallies in
    rw p.1 (m.0, m.1, tallied t0 false, begun, performed_stopped (turn c.args.context.now) fault_line fault_says _ _ _ _ _ unfinished c.in_err-fault.field-0.0 m.2)

pub returns-in_default-clause-told : goal.returns-in_default-clause-told
returns-in_default-clause-told g c unfinished h h0 s most t0 tallies =
    let m = rw c.in_default.is at (c.in_ok-fault.ensures.moved unfinished h h0 s) in
    (m.0, m.1, tallied t0 false, c.begin_line.ensures.tally most t0 tallies, performed_text (turn c.args.context.now) fault_line fault_says _ _ _ _ _ unfinished m.2)

pub returns-in_err-write_fault-clause-told : goal.returns-in_err-write_fault-clause-told
returns-in_err-write_fault-clause-told g c unfinished h h0 s most t0 tallies =
    let p = err_from_is_err_and c.from_residual-in_err-write_fault.result c.from_residual-in_err-write_fault.ensures.1 in
    let m = rw c.in-Some.is at (c.in_ok-fault.ensures.moved unfinished h h0 s) in
    let begun = c.begin_line.ensures.tally most t0 tallies in
    rw p.1 (m.0, m.1, tallied t0 false, begun, refused_stopped (turn c.args.context.now) fault_line fault_says _ _ _ _ (g.W.Write.contents c.perform.new.out) _ unfinished c.in-Some.fault m.2 c.in_err-write_fault.ensures)

pub returns-clause-told : goal.returns-clause-told
returns-clause-told g c unfinished h h0 s most t0 tallies =
    let m = rw c.in-Some.is at (c.in_ok-fault.ensures.moved unfinished h h0 s) in (
      m.0,
      m.1,
      tallied t0 true,
      c.refuse.ensures.tally most t0 (c.begin_line.ensures.tally most t0 tallies),
      refused_answers (turn c.args.context.now) fault_line fault_says _ _ _ _ (g.W.Write.contents c.perform.new.out) (g.W.Write.contents c.write_fault.new.out) _ unfinished c.in-Some.fault m.2 c.in_ok-write_fault.ensures c.flush.ensures c.flush.result,
    )
