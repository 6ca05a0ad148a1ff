use Rattle.rrd_disk.proofs.Common.{◌≡◌, Ok, ap, says_at, rests_closed, rests_missing, rests_then, write_rests, Unopened, Read, Write, rests_unmarked, unmarked_twice}
use Rattle.rrd_disk.specs.declared.file_bytes.Entry.TheVariants.{Missing}
use Rattle.rrd_disk.proofs.storage.FileStorage.load_to_change.Goals as goal

pub returns-in-Ok-Open-clause-power : goal.returns-in-Ok-Open-clause-power
returns-in-Ok-Open-clause-power g c =
    rests_then c.load_open.new.self.found (g.L.Location.syncs c.args.self.now.place) (g.L.Location.syncs c.open.new.self.place) (ap g.L.Location.syncs c.open.ensures.place) (g.D.Disk.events c.args.self.now.bytes.disk) (g.D.Disk.events c.open.new.self.bytes.disk) (g.D.Disk.events c.load_open.new.self.bytes.disk)
    (write_rests (g.D.Disk.events c.args.self.now.bytes.disk) (g.D.Disk.events c.open.new.self.bytes.disk) c.open.ensures.rests) c.load_open.ensures.power

pub returns-in-Ok-Missing-clause-power : goal.returns-in-Ok-Missing-clause-power
returns-in-Ok-Missing-clause-power g c = rw c.miss.ensures.disk (
    let mid = g.D.Disk.events c.open.new.self.bytes.disk in
    let was : c.open.result ≡ Ok Missing = cc in
    rests_missing c.file_laws.ensures (g.L.Location.syncs c.args.self.now.place) (g.D.Disk.events c.args.self.now.bytes.disk) mid (write_rests (g.D.Disk.events c.args.self.now.bytes.disk) mid c.open.ensures.rests) c.miss.new.self.found (says_at c.open.result Missing mid was c.open.ensures.says))

pub returns-in-Ok-Missing-2-clause-power : goal.returns-in-Ok-Missing-2-clause-power
returns-in-Ok-Missing-2-clause-power g c = rw c.open.ensures.found (rests_closed (g.L.Location.syncs c.args.self.now.place) (g.D.Disk.events c.args.self.now.bytes.disk) (g.D.Disk.events c.open.new.self.bytes.disk) (write_rests (g.D.Disk.events c.args.self.now.bytes.disk) (g.D.Disk.events c.open.new.self.bytes.disk) c.open.ensures.rests) Unopened tt)

pub returns-in-Ok-Pipe-clause-power : goal.returns-in-Ok-Pipe-clause-power
returns-in-Ok-Pipe-clause-power g c = rw c.open.ensures.found (rests_closed (g.L.Location.syncs c.args.self.now.place) (g.D.Disk.events c.args.self.now.bytes.disk) (g.D.Disk.events c.open.new.self.bytes.disk) (write_rests (g.D.Disk.events c.args.self.now.bytes.disk) (g.D.Disk.events c.open.new.self.bytes.disk) c.open.ensures.rests) Unopened tt)

pub returns-in-Ok-Refused-clause-power : goal.returns-in-Ok-Refused-clause-power
returns-in-Ok-Refused-clause-power g c = rests_then c.load_to_read.new.self.found (g.L.Location.syncs c.args.self.now.place) (g.L.Location.syncs c.open.new.self.place) (ap g.L.Location.syncs c.open.ensures.place) (g.D.Disk.events c.args.self.now.bytes.disk) (g.D.Disk.events c.open.new.self.bytes.disk) (g.D.Disk.events c.load_to_read.new.self.bytes.disk)
    (write_rests (g.D.Disk.events c.args.self.now.bytes.disk) (g.D.Disk.events c.open.new.self.bytes.disk) c.open.ensures.rests) c.load_to_read.ensures.power

pub returns-clause-power : goal.returns-clause-power
returns-clause-power g c = rw c.open.ensures.found (rests_closed (g.L.Location.syncs c.args.self.now.place) (g.D.Disk.events c.args.self.now.bytes.disk) (g.D.Disk.events c.open.new.self.bytes.disk) (write_rests (g.D.Disk.events c.args.self.now.bytes.disk) (g.D.Disk.events c.open.new.self.bytes.disk) c.open.ensures.rests) Unopened tt)

pub returns-in-Ok-Open-clause-unmarked : goal.returns-in-Ok-Open-clause-unmarked
returns-in-Ok-Open-clause-unmarked g c =
    let old = g.D.Disk.events c.args.self.now.bytes.disk in
    let mid = g.D.Disk.events c.open.new.self.bytes.disk in
    unmarked_twice old mid (g.D.Disk.events c.load_open.new.self.bytes.disk) c.load_open.ensures.falls (rests_unmarked Write old mid c.open.ensures.rests) c.load_open.ensures.unmarked

pub returns-in-Ok-Missing-clause-unmarked : goal.returns-in-Ok-Missing-clause-unmarked
returns-in-Ok-Missing-clause-unmarked g c = rw c.miss.ensures.disk (rests_unmarked Write (g.D.Disk.events c.args.self.now.bytes.disk) (g.D.Disk.events c.open.new.self.bytes.disk) c.open.ensures.rests)

pub returns-in-Ok-Missing-2-clause-unmarked : goal.returns-in-Ok-Missing-2-clause-unmarked
returns-in-Ok-Missing-2-clause-unmarked g c = rests_unmarked Write (g.D.Disk.events c.args.self.now.bytes.disk) (g.D.Disk.events c.open.new.self.bytes.disk) c.open.ensures.rests

pub returns-in-Ok-Pipe-clause-unmarked : goal.returns-in-Ok-Pipe-clause-unmarked
returns-in-Ok-Pipe-clause-unmarked g c = rests_unmarked Write (g.D.Disk.events c.args.self.now.bytes.disk) (g.D.Disk.events c.open.new.self.bytes.disk) c.open.ensures.rests

pub returns-in-Ok-Refused-clause-unmarked : goal.returns-in-Ok-Refused-clause-unmarked
returns-in-Ok-Refused-clause-unmarked g c =
    let old = g.D.Disk.events c.args.self.now.bytes.disk in
    let mid = g.D.Disk.events c.open.new.self.bytes.disk in
    let new = g.D.Disk.events c.load_to_read.new.self.bytes.disk in
    unmarked_twice old mid new c.load_to_read.ensures.rests.falls (rests_unmarked Write old mid c.open.ensures.rests) (rests_unmarked Read mid new c.load_to_read.ensures.rests)

pub returns-clause-unmarked : goal.returns-clause-unmarked
returns-clause-unmarked g c = rests_unmarked Write (g.D.Disk.events c.args.self.now.bytes.disk) (g.D.Disk.events c.open.new.self.bytes.disk) c.open.ensures.rests
