use Rattle.rrd_tool.proofs.Common.{◌≡◌, ◌∙◌, ◌++◌, ◌∷◌, ◌+◌, ◌-◌, [], List, ℕ, Some, Ok, Err, false, take, drop, sym, ap, append-nil, arith, length-drop, take-append-drop, take_rest, err_from_is_err_and, IsFirstByte, is_byte, has_end, last_part, whole_lines, MovesStopped, moves_front, moves_more, no_part, no_whole, part_append, whole_append, found_line, found_none, line_inner}
use Rattle.rrd_tool.proofs.batch.feed.Goals as goal

-- where no LF is left the lines are those before, and the rest goes on with the last one
rest_lines : (bytes unfinished : List ℕ) (from : ℕ) → has_end (drop from bytes) ≡ false → whole_lines unfinished bytes ≡ whole_lines unfinished (take from bytes)
rest_lines bytes unfinished from none = cc (take-append-drop from bytes, whole_append unfinished (take from bytes) (drop from bytes), no_whole (last_part unfinished (take from bytes)) (drop from bytes) none, append-nil (whole_lines unfinished (take from bytes)))

rest_part : (bytes unfinished : List ℕ) (from : ℕ) → has_end (drop from bytes) ≡ false → last_part unfinished bytes ≡ last_part unfinished (take from bytes) ++ drop from bytes
rest_part bytes unfinished from none =
    ap (last_part unfinished) (sym (take-append-drop from bytes)) ∙ (part_append unfinished (take from bytes) (drop from bytes) ∙ no_part (last_part unfinished (take from bytes)) (drop from bytes) none)

pub take_line-requires-clause-inner : goal.take_line-requires-clause-inner
take_line-requires-clause-inner g c =
    line_inner c.args.bytes.now c.loop-length.from c.in-Some.length (rw (c.in-Some.is, take_rest c.args.bytes.now c.loop-length.from) at c.memchr.ensures)

pub returns-in_err-take_line-clause-told : goal.returns-in_err-take_line-clause-told
returns-in_err-take_line-clause-told g c unfinished h =
    let bytes = c.args.bytes.now in
    let from = c.loop-length.from in
    let n = c.in-Some.length in
    let found : IsFirstByte (is_byte 10) (drop from bytes) (Some n) = rw (c.in-Some.is, take_rest bytes from) at c.memchr.ensures in
    let part = take (from + n - from) (drop from bytes) in
    let m = from + (n + 1) in
    let inv = c.loop-length.invariant.0 unfinished h in
    let bad = (c.in_err-take_line.ensures.told (last_part unfinished (take from bytes)) inv.1).0 in
    let Stops : List (List ℕ) → Type 0 = λ lines.
    MovesStopped c.args.context.now c.args.batch.now.database c.take_line.new.batch.database c.args.batch.now.refusals c.take_line.new.batch.refusals
    (g.W.Write.contents c.args.out.now) (g.W.Write.contents c.take_line.new.out) lines in
    let here : Stops (whole_lines unfinished (take from bytes ++ (part ++ 10 ∷ []))) =
    moves_more {T = Unit {0}} c.args.context.now _ _ _ c.args.batch.now.refusals c.loop-length.batch.refusals c.take_line.new.batch.refusals _ _ _ unfinished (take from bytes) (part ++ 10 ∷ []) inv.0 (Err c.in_err-take_line.field-0.0) bad in
    let more : Stops (whole_lines unfinished (take m bytes)) = rw (found_line bytes from n found) here in
    let whole : Stops (whole_lines unfinished (take m bytes ++ drop m bytes)) =
    moves_front c.args.context.now _ _ c.args.batch.now.refusals c.take_line.new.batch.refusals _ _ unfinished (take m bytes) (drop m bytes) more in
    rw (err_from_is_err_and c.from_residual.result c.from_residual.ensures.1).1 (rw (take-append-drop m bytes) at whole, tt)

pub loop-length-preserved : goal.loop-length-preserved
loop-length-preserved g c =
    let bytes = c.args.bytes.now in
    let from = c.loop-length.from in
    let n = c.in-Some.length in
    let found : IsFirstByte (is_byte 10) (drop from bytes) (Some n) = rw (c.in-Some.is, take_rest bytes from) at c.memchr.ensures in
    let part = take (from + n - from) (drop from bytes) in
    let inside = found.0.high in (
      λ unfinished h.
          let inv = c.loop-length.invariant.0 unfinished h in
          let good = c.in_ok-take_line.ensures.told (last_part unfinished (take from bytes)) inv.1 in
          rw (found_line bytes from n found) (
            moves_more {T = Unit {0}} c.args.context.now _ _ _ c.args.batch.now.refusals c.loop-length.batch.refusals c.take_line.new.batch.refusals _ _ _ unfinished (take from bytes) (part ++ 10 ∷ []) inv.0 (Ok (tt {0})) good.0,
            rw (part_append unfinished (take from bytes) (part ++ 10 ∷ [])) good.1,
          ),
      omega (arith, c.loop-length.invariant.1, c.take_line.ensures.count),
      omega (arith, inside, length-drop from bytes),
      λ start was. c.in_ok-take_line.ensures.changed start (c.loop-length.invariant.3 start was),
    )

pub extend-requires : goal.extend-requires
extend-requires g c =
    let bytes = c.args.bytes.now in
    let from = c.loop-length.from in
    rw (take_rest bytes from) (found_none (is_byte 10) (drop from bytes) (rw (c.in_default.is, take_rest bytes from) at c.memchr.ensures))

pub returns-clause-told : goal.returns-clause-told
returns-clause-told g c unfinished h =
    let bytes = c.args.bytes.now in
    let from = c.loop-length.from in
    let inv = c.loop-length.invariant.0 unfinished h in
    let none = found_none (is_byte 10) (drop from bytes) (rw (c.in_default.is, take_rest bytes from) at c.memchr.ensures) in
    let held = rw (take_rest bytes from) at (c.extend.ensures (last_part unfinished (take from bytes)) inv.1) in
    rw (rest_lines bytes unfinished from none, rest_part bytes unfinished from none) (inv.0, held)
