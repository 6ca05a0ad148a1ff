use Rattle.rrd_file.proofs.Common.{◌≡◌, ◌∙◌, ◌++◌, ◌+◌, ◌-◌, ap, subst, arith, take, drop, Adds, Breaks, err_from_is_err_and, cells_bytes, more_spelled, rest_spelled, adds_then, breaks_then, no_room, piece_added}
use Rattle.rrd_file.proofs.cells.write_each.Goals as goal

pub returns-in_err-make_room : goal.returns-in_err-make_room
returns-in_err-make_room g c =
    let p = err_from_is_err_and c.from_residual.result c.from_residual.ensures.1 in
    let row = c.args.cells.now in
    let done = c.loop-done.done in
    rw p.1 (subst (Breaks _ _ _) (rest_spelled row done) (breaks_then c.loop-done.invariant.added (no_room (cells_bytes (drop done row)) c.in_err-make_room.ensures.added)))

pub loop-done-preserved : goal.loop-done-preserved
loop-done-preserved g c =
    let row = c.args.cells.now in
    let done = c.loop-done.done in
    let more = c.min-more.result in
    let long : done + more - done ≡ more = omega arith in
    let bytes = cells_bytes (take more (drop done row)) in
    let added = c.cells.ensures ∙ ap (λ n. c.make_room.new.self.block ++ cells_bytes (take n (drop done row))) long in
    record {
      few = omega (arith, c.min-more.ensures, c.loop-done-test.true);
      added = subst (Adds _ _ _) (more_spelled row done more) (adds_then c.loop-done.invariant.added (piece_added bytes c.in_ok-make_room.ensures.added added));
    }
