use Rattle.rrd_tool.proofs.Common.{◌≡◌, ◌∙◌, pos, to_z, w64, ◌^◌, ◌+◌, ◌-◌, ◌*◌, ◌/◌, ◌≤◌, ◌<◌, ◌++◌, ap, arith, drop, length, to_z_pos, row_of, row_text, texts_below, row_room, within, one_put, room_step}
use Rattle.rrd_tool.proofs.commands.fetch.put_rows.Goals as goal

pub loop-row-preserved : goal.loop-row-preserved
loop-row-preserved c =
    let content = c.args.database.now.content in
    let chosen = c.args.chosen in
    let row = c.loop-row.row in
    let k = row - 1 in
    let inv = c.loop-row.invariant in
    let size = row_room (length content.sources) in
    let next : row ≡ k + 1 = omega (arith, c.loop-row-test.true) in
    let inside : k < (chosen.hi - chosen.lo) / chosen.res = omega (arith, c.loop-row-test.true, inv.1, c.requires.rows) in
    let last : chosen.lo + (k + 1) * chosen.res ≤ chosen.hi = within k chosen.res chosen.lo chosen.hi c.requires.readable.some inside in
    let same : row * chosen.res ≡ (k + 1) * chosen.res = ap (λ n. n * chosen.res) next in
    let time : chosen.lo + row * chosen.res ≡ chosen.lo + (k + 1) * chosen.res = omega (arith, same) in
    let small : chosen.lo + row * chosen.res < 2 ^ 63 = omega (arith, last, time, c.requires.readable.small) in
    let signed : to_z w64 (chosen.lo + row * chosen.res) ≡ pos (chosen.lo + (k + 1) * chosen.res) = to_z_pos w64 (chosen.lo + row * chosen.res) small ∙ ap pos time in
    let text = row_text content chosen.archive (to_z w64 (chosen.lo + row * chosen.res)) in
    let line : text ≡ row_of content chosen k = ap (row_text content chosen.archive) signed in
    let put = c.put_row-at.ensures.text in
    let room = room_step (row - c.args.from) size c.loop-row.at (omega (arith, c.loop-row-test.true)) inv.2 in
    let less : row - 1 - c.args.from ≡ row - c.args.from - 1 = omega arith in
    let fewer : (row - 1 - c.args.from) * size ≡ (row - c.args.from - 1) * size = ap (λ n. n * size) less in (
      omega (arith, c.loop-row-test.true),
      omega (arith, inv.1),
      omega (arith, fewer, room.0, room.1, c.put_row-at.ensures.short),
      omega (arith, put.begins, inv.3, c.put_row-at.auto.buffer),
      omega (arith, c.put_row-at.auto.buffer, inv.4),
      ap (λ l. texts_below (row_of content chosen) k ++ l) put.bytes
          ∙ one_put (row_of content chosen) k row text (drop c.loop-row.at c.loop-row.buffer) (texts_below (row_of content chosen) c.args.to) next line inv.5,
    )
