use Rattle.rrd_file.proofs.Common.{◌≡◌, ◌∙◌, ◌+◌, ◌-◌, ap, replicate, subst, arith, Unknown, Adds, Breaks, err_from_is_err_and, cells_bytes, adds_then, breaks_then, no_room, piece_added, unknown, unknown_more, unknown_on}
use Rattle.rrd_file.proofs.cells.write_unknown.Goals as goal

pub returns-in_err-make_room : goal.returns-in_err-make_room
returns-in_err-make_room g c =
    let p = err_from_is_err_and c.from_residual.result c.from_residual.ensures.1 in
    let done = c.loop-done.done in
    let rest = c.args.count - done in
    let all : done + rest ≡ c.args.count = omega (arith, c.loop-done.invariant.few) in
    rw p.1 (subst (Breaks _ _ _) (unknown_more done rest ∙ ap unknown all) (breaks_then c.loop-done.invariant.added (no_room (unknown rest) c.in_err-make_room.ensures.added)))

pub loop-done-preserved : goal.loop-done-preserved
loop-done-preserved g c =
    let more = c.min-more.result in
    record {
      few = omega (arith, c.min-more.ensures, c.loop-done-test.true);
      added = subst (Adds _ _ _) (unknown_on c.loop-done.done more) (adds_then c.loop-done.invariant.added (piece_added (cells_bytes (replicate more Unknown)) c.in_ok-make_room.ensures.added c.unknown.ensures));
    }

pub returns : goal.returns
returns g c =
    let all : c.loop-done.done ≡ c.args.count = omega (arith, c.loop-done.invariant.few, c.loop-done-test.false) in
    subst (Adds _ _ _) (ap unknown all) c.loop-done.invariant.added
