use Rattle.rrd_disk.proofs.Common.{◌≤◌, length, rules, ArePut, Moves, IsPartPut, AreTorn, did_failed, put_more, put_short, put_whole}
use Rattle.rrd_disk.proofs.once.put.Goals as goal

pub returns-in_err-put_some-2-clause-did : goal.returns-in_err-put_some-2-clause-did
returns-in_err-put_some-2-clause-did g c =
    let at = c.args.at in
    let bytes = c.args.bytes.now in
    let old = g.D.Disk.events c.args.disk.now in
    let mid = g.D.Disk.events c.put_some.new.disk in
    let new = g.D.Disk.events c.put_some-2.new.disk in
    did_failed (λ x. Moves (ArePut at bytes) (AreTorn at bytes)) (Moves (IsPartPut 0 at bytes) (AreTorn at bytes)) c.from_residual-in_err-put_some-2.result old new c.from_residual-in_err-put_some-2.ensures.0
    (put_more at bytes c.in_ok-put_some.field-0 0 old mid new c.in_ok-put_some.ensures.did c.in_err-put_some-2.ensures.did)

pub returns-then-branch-bytes-2-clause-did : goal.returns-then-branch-bytes-2-clause-did
returns-then-branch-bytes-2-clause-did g c =
    let at = c.args.at in
    let bytes = c.args.bytes.now in
    let old = g.D.Disk.events c.args.disk.now in
    let mid = g.D.Disk.events c.put_some.new.disk in
    let new = g.D.Disk.events c.put_some-2.new.disk in
    let n = c.in_ok-put_some-2.field-0 in
    let all : length bytes ≤ n = search rules in
    put_whole at bytes n old new c.requires.some all (put_more at bytes c.in_ok-put_some.field-0 n old mid new c.in_ok-put_some.ensures.did c.in_ok-put_some-2.ensures.did)

pub returns-clause-did : goal.returns-clause-did
returns-clause-did g c =
    let at = c.args.at in
    let bytes = c.args.bytes.now in
    let old = g.D.Disk.events c.args.disk.now in
    let mid = g.D.Disk.events c.put_some.new.disk in
    let new = g.D.Disk.events c.put_some-2.new.disk in
    put_short at bytes c.in_ok-put_some.field-0 c.in_ok-put_some-2.field-0 old mid new c.in_ok-put_some.ensures.did c.in_ok-put_some-2.ensures.did
