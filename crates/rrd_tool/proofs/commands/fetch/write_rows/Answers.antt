use Rattle.rrd_tool.proofs.Common.{◌≡◌, ◌-◌, ◌/◌, ◌≤◌, ◌<◌, ◌++◌, Err, arith, drop, take, length-drop, take_all, err_from_is_err_and, writes_then, AppendsFront, row_of, texts_below, front_below, div_some, min_first}
use Rattle.rrd_tool.proofs.commands.fetch.write_rows.Goals as goal

pub returns-in_err-write_bytes : goal.returns-in_err-write_bytes
returns-in_err-write_bytes g c =
    let p = err_from_is_err_and c.from_residual.result c.from_residual.ensures.1 in
    let old = g.W.Write.contents c.args.out.now in
    let mid = g.W.Write.contents c.loop-done.out in
    let new = g.W.Write.contents c.write_bytes.new.out in
    let row = row_of c.args.database.now.content c.args.chosen in
    let done = c.loop-done.done in
    let start = c.put_rows-start.result in
    let put = drop start c.put_rows-start.new.buffer in
    let all : take (4096 - start) put ≡ put = take_all (4096 - start) put (omega (arith, length-drop start c.put_rows-start.new.buffer, c.put_rows-start.auto.buffer)) in
    let bad : AppendsFront mid new put = rw all at c.in_err-write_bytes.ensures in
    let front : AppendsFront old new (texts_below row done ++ put) = writes_then {T = Unit {0}} old mid new (texts_below row done) put (Err c.in_err-write_bytes.field-0.0) c.loop-done.invariant.1 bad in
    let more : AppendsFront old new (texts_below row c.min-next.result) = rw c.put_rows-start.ensures.rows at front in
    let few : c.min-next.result ≤ (c.args.chosen.hi - c.args.chosen.lo) / c.args.chosen.res = rw c.saturating_sub.ensures at (min_first _ _ _ c.min-next.ensures) in
    rw p.1 (front_below old new row c.min-next.result ((c.args.chosen.hi - c.args.chosen.lo) / c.args.chosen.res) few more)

pub loop-done-smaller : goal.loop-done-smaller
loop-done-smaller g c =
    let some : 0 < 4096 / c.row_room.result = div_some 4096 c.row_room.result (omega (arith, c.row_room.ensures.room)) (omega (arith, c.row_room.ensures.few)) in
    omega (arith, some, c.min-next.ensures, c.loop-done-test.true)
