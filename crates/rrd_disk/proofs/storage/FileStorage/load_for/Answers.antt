use Rattle.rrd_disk.proofs.Common.{found_there, sound_as, world_after, reopens, Read, rests_unmarked, arith, common_steps}
use Rattle.rrd_disk.proofs.storage.FileStorage.load_for.Goals as goal

pub returns-in-Read-clause-loads : goal.returns-in-Read-clause-loads
returns-in-Read-clause-loads g c = grind (arith, common_steps, sound_as)

pub returns-in-ReadWrite-clause-loads : goal.returns-in-ReadWrite-clause-loads
returns-in-ReadWrite-clause-loads g c = grind (arith, common_steps, sound_as, found_there)

pub returns-in-ReadWrite-2-clause-loads : goal.returns-in-ReadWrite-2-clause-loads
returns-in-ReadWrite-2-clause-loads g c = grind (arith, common_steps, sound_as)

pub returns-in-Read-clause-power : goal.returns-in-Read-clause-power
returns-in-Read-clause-power g c = λ ordered d w honest.
    reopens c.args.self.now.found c.load_to_read.new.self.found (world_after d w (g.D.Disk.events c.args.self.now.bytes.disk)) (world_after d w (g.D.Disk.events c.load_to_read.new.self.bytes.disk)) (c.load_to_read.ensures.power ordered d w honest)

pub returns-in-ReadWrite-clause-power : goal.returns-in-ReadWrite-clause-power
returns-in-ReadWrite-clause-power g c = λ ordered d w honest.
    reopens c.args.self.now.found c.load_open.new.self.found (world_after d w (g.D.Disk.events c.args.self.now.bytes.disk)) (world_after d w (g.D.Disk.events c.load_open.new.self.bytes.disk)) (c.load_open.ensures.power ordered d w honest)

pub returns-in-ReadWrite-2-clause-power : goal.returns-in-ReadWrite-2-clause-power
returns-in-ReadWrite-2-clause-power g c = λ ordered d w honest.
    reopens c.args.self.now.found c.load_to_change.new.self.found (world_after d w (g.D.Disk.events c.args.self.now.bytes.disk)) (world_after d w (g.D.Disk.events c.load_to_change.new.self.bytes.disk)) (c.load_to_change.ensures.power ordered d w honest)

pub returns-in-Read-clause-unmarked : goal.returns-in-Read-clause-unmarked
returns-in-Read-clause-unmarked g c = rests_unmarked Read (g.D.Disk.events c.args.self.now.bytes.disk) (g.D.Disk.events c.load_to_read.new.self.bytes.disk) c.load_to_read.ensures.rests
