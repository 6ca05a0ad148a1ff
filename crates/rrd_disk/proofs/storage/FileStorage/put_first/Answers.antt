use Rattle.rrd_disk.proofs.Common.{ap, Base, held_after, any_enough, does_falls, after_near, closed_sound, created, failed_written, truncated, uncreated, untruncated, began_at, created_making, uncreated_making, untruncated_making, arith, common_steps}
use Rattle.rrd_disk.proofs.storage.FileStorage.put_first.Goals as goal

pub base_of-requires : goal.base_of-requires
base_of-requires g c = any_enough c.file_laws.ensures c.args.bytes.now c.requires.any

pub returns-in_err-truncate-clause-falls : goal.returns-in_err-truncate-clause-falls
returns-in_err-truncate-clause-falls g c = does_falls c.syncs-syncs.result _ _ c.truncate.result (g.D.Disk.events c.args.self.now.bytes.disk) (g.D.Disk.events c.truncate.new.self.disk) c.truncate.ensures

pub returns-in_err-truncate-clause-writes : goal.returns-in_err-truncate-clause-writes
returns-in_err-truncate-clause-writes g c = λ s honest sound none there.
    let old = held_after s (g.D.Disk.events c.args.self.now.bytes.disk) in
    let new = held_after s (g.D.Disk.events c.truncate.new.self.disk) in
    let left = untruncated c.file_laws.ensures c.syncs-syncs.result (g.D.Disk.events c.args.self.now.bytes.disk) (g.D.Disk.events c.truncate.new.self.disk) c.in_err-truncate.ensures s honest none sound there in (
      closed_sound c.args.self.now.found new c.requires.found left.0,
      failed_written c.from_residual.result c.args.bytes.now old new c.from_residual.ensures.0 (after_near c.args.bytes.now old new left.1),
    )

pub returns-in-Ok-clause-falls : goal.returns-in-Ok-clause-falls
returns-in-Ok-clause-falls g c = grind (arith, common_steps, does_falls)

pub returns-in-Err-clause-falls : goal.returns-in-Err-clause-falls
returns-in-Err-clause-falls g c = grind (arith, common_steps, does_falls)

pub returns-in-Ok-clause-writes : goal.returns-in-Ok-clause-writes
returns-in-Ok-clause-writes g c = λ s honest sound none there.
    let before = g.D.Disk.events c.args.self.now.bytes.disk in
    let mid = g.D.Disk.events c.truncate.new.self.disk in
    let after = g.D.Disk.events c.create.new.file.disk in
    let first = does_falls c.syncs-syncs.result _ _ c.create.result mid after c.create.ensures s honest in
    let empty = truncated c.syncs-syncs.result before mid c.in_ok-truncate.ensures s first there in
    created c.file_laws.ensures c.syncs-syncs.result c.base_of.result c.args.bytes.now before mid after c.requires.any (ap (λ (b : Base). b.length) c.base_of.ensures) (ap (λ (b : Base). b.first) c.base_of.ensures)
    c.in-Ok.ensures s honest empty

pub returns-in-Err-clause-writes : goal.returns-in-Err-clause-writes
returns-in-Err-clause-writes g c = λ s honest sound none there.
    let before = g.D.Disk.events c.args.self.now.bytes.disk in
    let mid = g.D.Disk.events c.truncate.new.self.disk in
    let after = g.D.Disk.events c.create.new.file.disk in
    let first = does_falls c.syncs-syncs.result _ _ c.create.result mid after c.create.ensures s honest in
    let empty = truncated c.syncs-syncs.result before mid c.in_ok-truncate.ensures s first there in
    let left = uncreated c.file_laws.ensures c.syncs-syncs.result c.args.bytes.now before mid after c.requires.any c.in-Err.ensures s honest none empty in
    (closed_sound c.args.self.now.found (held_after s after) c.requires.found left.0, left.1)

pub returns-in-Ok-clause-began : goal.returns-in-Ok-clause-began
returns-in-Ok-clause-began g c = began_at c.file_laws.ensures c.base_of.result c.args.bytes.now c.requires.any (ap (λ (b : Base). b.length) c.base_of.ensures) (ap (λ (b : Base). b.first) c.base_of.ensures)

pub returns-in_err-truncate-clause-makes : goal.returns-in_err-truncate-clause-makes
returns-in_err-truncate-clause-makes g c =
    let old = g.D.Disk.events c.args.self.now.bytes.disk in
    let mid = g.D.Disk.events c.truncate.new.self.disk in
    untruncated_making c.args.bytes.now old mid mid (g.L.Location.syncs c.args.self.now.place) c.syncs-syncs.result c.syncs-syncs.ensures c.from_residual.result c.from_residual.ensures.0 c.in_err-truncate.ensures

pub returns-in-Ok-clause-makes : goal.returns-in-Ok-clause-makes
returns-in-Ok-clause-makes g c =
    let mid = g.D.Disk.events c.truncate.new.self.disk in
    let new = g.D.Disk.events c.create.new.file.disk in
    created_making c.args.bytes.now (g.D.Disk.events c.args.self.now.bytes.disk) mid new (g.L.Location.syncs c.args.self.now.place) c.syncs-syncs.result c.syncs-syncs.ensures c.in_ok-truncate.ensures
    (does_falls c.syncs-syncs.result _ _ c.create.result mid new c.create.ensures) c.in-Ok.ensures

pub returns-in-Err-clause-makes : goal.returns-in-Err-clause-makes
returns-in-Err-clause-makes g c =
    let mid = g.D.Disk.events c.truncate.new.self.disk in
    let new = g.D.Disk.events c.create.new.file.disk in
    uncreated_making c.args.bytes.now (g.D.Disk.events c.args.self.now.bytes.disk) mid new (g.L.Location.syncs c.args.self.now.place) c.syncs-syncs.result c.syncs-syncs.ensures c.in_ok-truncate.ensures
    (does_falls c.syncs-syncs.result _ _ c.create.result mid new c.create.ensures) c.in-Err.ensures
