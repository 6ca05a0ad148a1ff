use Rattle.rrd_disk.proofs.Common.{◌≡◌, Bool, false, rules, subst, TellsMark, prepared_unmarked, mark_of, bytes_after, Readies, StaysLeft, Read, or_failed, rested_power, rests_left, unmarked_power, told_unmarked, marked_never, rests_unmarked, unmarked_twice, arith, common_steps}
use Rattle.rrd_disk.proofs.preparing.prepare.Goals as goal

pub returns-else-branch-clause-prepares : goal.returns-else-branch-clause-prepares
returns-else-branch-clause-prepares g c =
    let mid = g.D.Disk.events c.is_marked.new.self.disk in
    let not : c.in_ok-is_marked.field-0 ≡ false = search rules in
    prepared_unmarked c.file_laws.ensures c.find_base.result (g.D.Disk.events c.args.file.now.disk) mid (g.D.Disk.events c.find_base.new.file.disk) c.is_marked.ensures.rests.held c.find_base.ensures.rests
    (subst (λ (b : Bool). TellsMark b mid) not c.in_ok-is_marked.ensures.tells) c.find_base.ensures.some c.find_base.ensures.none

pub returns-in_err-is_marked-clause-power : goal.returns-in_err-is_marked-clause-power
returns-in_err-is_marked-clause-power g c =
    let old = g.D.Disk.events c.args.file.now.disk in
    let new = g.D.Disk.events c.is_marked.new.self.disk in
    or_failed Readies StaysLeft c.from_residual.result c.args.syncs old new c.from_residual.ensures.0 (λ ordered d w honest. rests_left Read old new c.is_marked.ensures.rests d w)

pub returns-then-branch-clause-power : goal.returns-then-branch-clause-power
returns-then-branch-clause-power g c = grind (arith, common_steps, rested_power)

pub returns-else-branch-clause-power : goal.returns-else-branch-clause-power
returns-else-branch-clause-power g c =
    let mid = g.D.Disk.events c.is_marked.new.self.disk in
    let not : c.in_ok-is_marked.field-0 ≡ false = search rules in
    let tells : TellsMark c.in_ok-is_marked.field-0 mid = c.in_ok-is_marked.ensures.tells in
    unmarked_power c.file_laws.ensures (g.D.Disk.events c.args.file.now.disk) mid (g.D.Disk.events c.find_base.new.file.disk) c.is_marked.ensures.rests c.find_base.ensures.rests
    (λ w honest. told_unmarked c.in_ok-is_marked.field-0 (mark_of (bytes_after w mid)) (tells w honest) not) c.find_base.result c.args.syncs c.find_base.ensures.some c.find_base.ensures.none

pub returns-in_err-is_marked-clause-unmarked : goal.returns-in_err-is_marked-clause-unmarked
returns-in_err-is_marked-clause-unmarked g c = rests_unmarked Read (g.D.Disk.events c.args.file.now.disk) (g.D.Disk.events c.is_marked.new.self.disk) c.is_marked.ensures.rests

pub returns-then-branch-clause-unmarked : goal.returns-then-branch-clause-unmarked
returns-then-branch-clause-unmarked g c = grind (arith, common_steps, marked_never, rests_unmarked)

pub returns-else-branch-clause-unmarked : goal.returns-else-branch-clause-unmarked
returns-else-branch-clause-unmarked g c =
    let old = g.D.Disk.events c.args.file.now.disk in
    let mid = g.D.Disk.events c.is_marked.new.self.disk in
    let new = g.D.Disk.events c.find_base.new.file.disk in
    unmarked_twice old mid new c.find_base.ensures.rests.falls (rests_unmarked Read old mid c.is_marked.ensures.rests) (rests_unmarked Read mid new c.find_base.ensures.rests)
