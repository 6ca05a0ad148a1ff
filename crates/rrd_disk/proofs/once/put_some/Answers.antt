use Rattle.rrd_disk.proofs.Common.{rules, put_ended, put_failed_again, put_none, put_short_of}
use Rattle.rrd_disk.proofs.once.put_some.Goals as goal

pub loop-init : goal.loop-init
loop-init g c = record { did = put_none c.args.at c.args.bytes.now (g.D.Disk.events c.args.disk.now); guard = search rules }

pub loop-preserved : goal.loop-preserved
loop-preserved g c = record {
  did = put_failed_again c.args.at c.args.bytes.now (g.D.Disk.events c.args.disk.now) (g.D.Disk.events c.loop.disk) c.loop.invariant.did (g.D.Disk.events c.write_at.new.self) c.in-Err.ensures.err;
  guard = search rules;
}

pub returns-in_default-clause-did : goal.returns-in_default-clause-did
returns-in_default-clause-did g c =
    put_failed_again c.args.at c.args.bytes.now (g.D.Disk.events c.args.disk.now) (g.D.Disk.events c.loop.disk) c.loop.invariant.did (g.D.Disk.events c.write_at.new.self) c.in-Err.ensures.err

pub returns-in_default-2-clause-did : goal.returns-in_default-2-clause-did
returns-in_default-2-clause-did g c =
    put_ended c.args.at c.args.bytes.now (g.D.Disk.events c.args.disk.now) (g.D.Disk.events c.loop.disk) c.loop.invariant.did c.write_at.result (g.D.Disk.events c.write_at.new.self) c.write_at.ensures.ok c.write_at.ensures.err

pub returns-in_default-2-clause-short : goal.returns-in_default-2-clause-short
returns-in_default-2-clause-short g c = put_short_of c.write_at.result (g.D.Disk.events c.loop.disk) (g.D.Disk.events c.write_at.new.self) c.args.at c.args.bytes.now c.write_at.ensures.ok
