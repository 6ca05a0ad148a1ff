use Rattle.rrd_disk.proofs.Common.{interrupted_makes, interrupted_run, interrupted_survives, arith, common_steps, command_run}
use Rattle.rrd_disk.proofs.killed.run_command_killed.Goals as goal

pub run_command_at-requires : goal.run_command_at-requires
run_command_at-requires g c = grind (arith, common_steps)

pub returns : goal.returns
returns g c =
    let killed = c.run_command_at.result.disk in
    let events = g.D.Disk.events killed.system in
    let missed = killed.missed.events in
    let run = command_run c.args.words.now c.args.now (g.W.Write.contents c.args.out.now) (g.W.Write.contents c.run_command_at.new.out) c.run_command_at.result.end in
    record {
      killed = interrupted_run missed events run killed.failed c.run_command_at.ensures.run;
      power = λ ordered. interrupted_survives c.file_laws.ensures missed events run killed.failed (c.run_command_at.ensures.power ordered);
      making = λ ordered. interrupted_makes c.file_laws.ensures run missed events killed.failed (c.run_command_at.ensures.making ordered);
    }
