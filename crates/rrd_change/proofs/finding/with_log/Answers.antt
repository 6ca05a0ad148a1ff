use Rattle.rrd_change.proofs.Common.{◌≡◌, ◌++◌, sym, subst, ◌∙◌, arith, IsLogMark, Mark, log_in, no_log, overlaid, past_log, past_unlaid, unlaid, common_steps}
use Rattle.rrd_change.proofs.finding.with_log.Goals as goal

pub returns-then-len-tail : goal.returns-then-len-tail
returns-then-len-tail c = grind (arith, common_steps, past_unlaid, past_log)

pub returns-then-log-tail : goal.returns-then-log-tail
returns-then-log-tail c =
    let file = c.args.bytes.items in
    let all : file ≡ c.split_at_mut-database.result.0.now ++ c.split_at_mut-database.result.1.now = sym c.deref_mut.ensures.value ∙ c.split_at_mut-database.ensures.value in
    record {
      database = c.unmarked-then-log-tail.ensures.same
          ∙ unlaid file c.split_at_mut-database.result.0.now c.split_at_mut-database.result.1.now c.lay_log.new.database c.args.tail c.args.bytes.len c.in_ok-log.size c.in_ok-log.log all
          c.split_at_mut-database.ensures.front_len (omega (arith, c.args.bytes.ok.0)) c.in_ok-log.ensures c.if-log-tail.true;
      mark = subst (λ (m : Mark). IsLogMark m c.args.tail file) (sym c.unmarked-then-log-tail.ensures.missing)
          (no_log file c.split_at_mut-database.result.0.now c.split_at_mut-database.result.1.now c.lay_log.new.database c.args.tail c.in_ok-log.size c.in_ok-log.log all
          c.split_at_mut-database.ensures.front_len c.in_ok-log.ensures c.if-log-tail.true);
    }

pub returns : goal.returns
returns c =
    let file = c.args.bytes.items in
    let all : file ≡ c.split_at_mut-database.result.0.now ++ c.split_at_mut-database.result.1.now = sym c.deref_mut.ensures.value ∙ c.split_at_mut-database.ensures.value in
    record {
      database = overlaid file c.split_at_mut-database.result.0.now c.split_at_mut-database.result.1.now c.lay_log.new.database c.args.tail c.args.bytes.len c.in_ok-log.size c.in_ok-log.log all
          c.split_at_mut-database.ensures.front_len (omega (arith, c.args.bytes.ok.0)) c.in_ok-log.ensures c.if-log-tail.false;
      mark = log_in file c.split_at_mut-database.result.0.now c.split_at_mut-database.result.1.now c.lay_log.new.database c.args.tail c.in_ok-log.size c.in_ok-log.log all
          c.split_at_mut-database.ensures.front_len c.in_ok-log.ensures;
    }
