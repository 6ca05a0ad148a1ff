use Rattle.rrd_file.proofs.Common.{sym, subst, map, arith, length-map, Head, head_of, head_pieces, spelled, spell, Adds, there, err_from_is_err_and, all_added, flat_flat, item_added, item_broken, mapped_at}
use Rattle.rrd_file.proofs.archive.write_heads.Goals as goal

pub returns-in_err-write_head : goal.returns-in_err-write_head
returns-in_err-write_head g c =
    let p = err_from_is_err_and c.from_residual.result c.from_residual.ensures.1 in
    let archives = c.args.database.now.content.archives in
    let found = there archives c.loop-archive.archive (omega (arith, c.archives-archive-end.ensures.count, c.loop-archive-test.true)) in
    rw (p.1, flat_flat spell head_pieces (map head_of archives)) (item_broken (λ (head : Head). spelled (head_pieces head)) (map head_of archives) c.loop-archive.archive (head_of found.0) (mapped_at head_of archives c.loop-archive.archive found.0 found.1) (c.loop-archive.invariant) (c.in_err-write_head.ensures found.0 found.1))

pub loop-archive-preserved : goal.loop-archive-preserved
loop-archive-preserved g c =
    let archives = c.args.database.now.content.archives in
    let found = there archives c.loop-archive.archive (omega (arith, c.archives-archive-end.ensures.count, c.loop-archive-test.true)) in
    item_added (λ (head : Head). spelled (head_pieces head)) (map head_of archives) c.loop-archive.archive (head_of found.0) (mapped_at head_of archives c.loop-archive.archive found.0 found.1) (c.loop-archive.invariant) (c.in_ok-write_head.ensures found.0 found.1)

pub returns : goal.returns
returns g c =
    let archives = c.args.database.now.content.archives in
    subst (Adds _ _ _) (sym (flat_flat spell head_pieces (map head_of archives))) (all_added (λ (head : Head). spelled (head_pieces head)) (map head_of archives) c.loop-archive.archive (omega (arith, c.archives-archive-end.ensures.count, c.loop-archive-test.false, length-map archives head_of)) (c.loop-archive.invariant))
