use Rattle.rrd_disk.proofs.Common.{◌≤◌, ◌∙◌, ℕ, List, length, take, ap, subst, sym, database_of, Base, Laws, no_fault, prepared_broken, prepared_repaired, does_falls, Readies, StaysLeft, Read, fault_power, or_failed, repaired_power, rests_left, unrepaired_power, arith, common_steps}
use Rattle.rrd_disk.proofs.preparing.prepare_marked.Goals as goal

pub base_of-requires : goal.base_of-requires
base_of-requires g c =
    let laws : Laws = c.file_laws.ensures in
    subst (λ (b : List ℕ). 16 ≤ length b) (sym c.database.ensures) (laws.begins (database_of c.in-Ok.standing.found) c.in-Ok.standing.database c.in-Ok.ensures.stands.file).0

pub returns-in_err-repair-in-Ok-clause-falls : goal.returns-in_err-repair-in-Ok-clause-falls
returns-in_err-repair-in-Ok-clause-falls g c = grind (arith, common_steps, does_falls)

pub returns-in_ok-repair-in-Ok-clause-falls : goal.returns-in_ok-repair-in-Ok-clause-falls
returns-in_ok-repair-in-Ok-clause-falls g c = grind (arith, common_steps, does_falls)

pub returns-in_err-repair-in-Ok-clause-prepares : goal.returns-in_err-repair-in-Ok-clause-prepares
returns-in_err-repair-in-Ok-clause-prepares g c = λ s honest sound there marked.
    prepared_broken c.file_laws.ensures c.args.syncs c.in-Ok.standing (g.D.Disk.events c.args.file.now.disk) (g.D.Disk.events c.find_standing.new.file.disk) (g.D.Disk.events c.repair.new.file.disk)
    c.find_standing.ensures.rests c.in-Ok.ensures.stands c.from_residual.result c.from_residual.ensures.0 c.in_err-repair-in-Ok.ensures s honest sound there marked

pub returns-in_ok-repair-in-Ok-clause-prepares : goal.returns-in_ok-repair-in-Ok-clause-prepares
returns-in_ok-repair-in-Ok-clause-prepares g c = λ s honest sound there marked.
    prepared_repaired c.file_laws.ensures c.args.syncs c.in-Ok.standing (g.D.Disk.events c.args.file.now.disk) (g.D.Disk.events c.find_standing.new.file.disk) (g.D.Disk.events c.repair.new.file.disk)
    c.find_standing.ensures.rests c.in-Ok.ensures.stands c.base_of.result (ap (λ (b : Base). b.length) c.base_of.ensures ∙ ap (λ (b : List ℕ). length b) c.database.ensures)
    (ap (λ (b : Base). b.first) c.base_of.ensures ∙ ap (take 16) c.database.ensures) c.in_ok-repair-in-Ok.ensures s honest sound there marked

pub returns-in-Err-clause-prepares : goal.returns-in-Err-clause-prepares
returns-in-Err-clause-prepares g c = grind (arith, common_steps, no_fault)

pub returns-in_err-repair-in-Ok-clause-power : goal.returns-in_err-repair-in-Ok-clause-power
returns-in_err-repair-in-Ok-clause-power g c =
    or_failed Readies StaysLeft c.from_residual.result c.args.syncs (g.D.Disk.events c.args.file.now.disk) (g.D.Disk.events c.repair.new.file.disk) c.from_residual.ensures.0
    (unrepaired_power c.file_laws.ensures c.in-Ok.standing (g.D.Disk.events c.args.file.now.disk) (g.D.Disk.events c.find_standing.new.file.disk) (g.D.Disk.events c.repair.new.file.disk) c.find_standing.ensures.rests
    c.in-Ok.ensures.stands c.args.syncs (does_falls c.args.syncs _ _ c.repair.result (g.D.Disk.events c.find_standing.new.file.disk) (g.D.Disk.events c.repair.new.file.disk) c.repair.ensures) c.in_err-repair-in-Ok.ensures)

pub returns-in_ok-repair-in-Ok-clause-power : goal.returns-in_ok-repair-in-Ok-clause-power
returns-in_ok-repair-in-Ok-clause-power g c =
    repaired_power c.file_laws.ensures c.in-Ok.standing (g.D.Disk.events c.args.file.now.disk) (g.D.Disk.events c.find_standing.new.file.disk) (g.D.Disk.events c.repair.new.file.disk) c.find_standing.ensures.rests
    c.in-Ok.ensures.stands c.base_of.result c.args.syncs (ap (λ (b : Base). b.length) c.base_of.ensures ∙ ap (λ (b : List ℕ). length b) c.database.ensures)
    (ap (λ (b : Base). b.first) c.base_of.ensures ∙ ap (take 16) c.database.ensures)
    (does_falls c.args.syncs _ _ c.repair.result (g.D.Disk.events c.find_standing.new.file.disk) (g.D.Disk.events c.repair.new.file.disk) c.repair.ensures) c.in_ok-repair-in-Ok.ensures

pub returns-in-Err-clause-power : goal.returns-in-Err-clause-power
returns-in-Err-clause-power g c = λ ordered.
    fault_power c.one_answer.ensures c.in-Err.fault (g.D.Disk.events c.args.file.now.disk) (g.D.Disk.events c.find_standing.new.file.disk) c.find_standing.ensures.rests c.in-Err.ensures.fault
    (sym c.is_of_bytes.ensures ∙ c.if-is_of_bytes.true)

pub returns-in-Err-2-clause-power : goal.returns-in-Err-2-clause-power
returns-in-Err-2-clause-power g c = λ ordered d w honest. rests_left Read (g.D.Disk.events c.args.file.now.disk) (g.D.Disk.events c.find_standing.new.file.disk) c.find_standing.ensures.rests d w
