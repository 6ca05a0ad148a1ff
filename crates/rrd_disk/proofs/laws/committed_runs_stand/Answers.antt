use Rattle.rrd_disk.proofs.Common.{holds_state, state_of, Keeping, represented, all_runs, last_of, programs_follow}
use Rattle.rrd_store.specs.Runs.{first_of}
use Rattle.rrd_disk.proofs.laws.committed_runs_stand.Goals as goal

pub returns : goal.returns
returns c = λ start first programs is are honest.
    let led = programs_follow c.file_laws.ensures c.runs_follow_specification.ensures.all start first programs is are honest in
    let alone = c.committed_runs_lead_alone.ensures (Keeping (first_of start first is)) (all_runs programs) led.0 led.1 in
    (alone.0, alone.1, state_of led.0, alone.2, holds_state (represented (last_of start programs)) led.0 led.2)
