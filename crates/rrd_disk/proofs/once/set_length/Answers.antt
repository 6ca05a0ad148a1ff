use Rattle.rrd_disk.proofs.Common.{rules, size_ended, size_failed_again, size_none}
use Rattle.rrd_disk.proofs.once.set_length.Goals as goal

pub loop-init : goal.loop-init
loop-init g c = record { did = size_none c.args.length (g.D.Disk.events c.args.disk.now); guard = search rules }

pub loop-preserved : goal.loop-preserved
loop-preserved g c = record {
  did = size_failed_again c.args.length (g.D.Disk.events c.args.disk.now) (g.D.Disk.events c.loop.disk) c.loop.invariant.did (g.D.Disk.events c.set_length.new.self) c.in-Err.ensures.err;
  guard = search rules;
}

pub returns-in_default-clause-did : goal.returns-in_default-clause-did
returns-in_default-clause-did g c =
    size_failed_again c.args.length (g.D.Disk.events c.args.disk.now) (g.D.Disk.events c.loop.disk) c.loop.invariant.did (g.D.Disk.events c.set_length.new.self) c.in-Err.ensures.err

pub returns-in_default-2-clause-did : goal.returns-in_default-2-clause-did
returns-in_default-2-clause-did g c =
    size_ended c.args.length (g.D.Disk.events c.args.disk.now) (g.D.Disk.events c.loop.disk) c.loop.invariant.did c.set_length.result (g.D.Disk.events c.set_length.new.self) c.set_length.ensures.ok c.set_length.ensures.err
