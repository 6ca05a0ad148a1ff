use Rattle.rrd_tool.proofs.Common.{◌≡◌, ◌∙◌, ◌-◌, ◌<◌, ◌≤◌, ◌++◌, ◌∷◌, [], List, ℕ, sym, ap, refl, arith, append_assoc, codes, length, set, to_z-of_z, length-set, Puts, cell_text, time_text, puts_before, puts_byte, cell_at, row_text, texts_below, cell_read, one_put}
use Rattle.rrd_tool.proofs.commands.fetch.put_row.Goals as goal

line_end : (old : List ℕ) (end : ℕ) → 0 < end → end ≤ length old → Puts old (set old (end - 1) 10) end (codes "\n") (end - 1)
line_end old end some inside = puts_byte old old end end 10 [] (record { begins = omega arith; bytes = refl }) some inside

pub loop-source-init : goal.loop-source-init
loop-source-init c = (
  (codes "\n", line_end c.args.buffer.now c.args.end (omega (arith, c.requires.room)) c.requires.inside, rw c.sources-source.ensures.count refl),
  omega (arith, c.sources-source.ensures.count),
  omega (arith, c.sources-source.ensures.count, c.requires.room),
  length-set c.args.buffer.now (c.args.end - 1) 10,
)

pub loop-source-preserved : goal.loop-source-preserved
loop-source-preserved c =
    let content = c.args.database.now.content in
    let back = to_z-of_z c.ranges.time in
    let l = c.loop-source in
    let inv = rw back at l.invariant in
    let i = l.source - 1 in
    let at = c.put_cell-at.result in
    let f : ℕ → List ℕ = λ source. codes " " ++ cell_text (cell_at content c.args.archive c.args.time source) in
    let cell : c.cell_in.result ≡ cell_at content c.args.archive c.args.time i =
    cell_read (λ row. row.now) c.row-row.result (length content.sources) i c.cell_in.result (λ source. cell_at content c.args.archive c.args.time source)
    (rw back at c.row-row.ensures.cells) (rw back at c.row-row.ensures.none) c.cell_in.ensures.some c.cell_in.ensures.none (omega (arith, inv.1, c.loop-source-test.true)) in
    let put = puts_byte l.buffer c.put_cell-at.new.buffer l.at at 32 (cell_text c.cell_in.result) c.put_cell-at.ensures.text
    (omega (arith, c.put_cell-at.ensures.short, inv.2, c.requires.room, c.loop-source-test.true)) (omega (arith, c.put_cell-at.auto.buffer, c.put_cell-at.ensures.text.begins, inv.2, inv.3, c.requires.inside)) in
    let all = puts_before c.args.buffer.now l.buffer (set c.put_cell-at.new.buffer (at - 1) 32) c.args.end l.at (at - 1) inv.0.0 (32 ∷ cell_text c.cell_in.result) inv.0.1 put in
    let whole = one_put f i l.source (32 ∷ cell_text c.cell_in.result) inv.0.0 (texts_below f (length content.sources) ++ codes "\n")
    (omega (arith, c.loop-source-test.true)) (ap (λ x. 32 ∷ cell_text x) cell) inv.0.2 in
    rw back (
      ((32 ∷ cell_text c.cell_in.result) ++ inv.0.0, all, whole),
      omega (arith, inv.1),
      omega (arith, inv.2, c.put_cell-at.ensures.short, c.loop-source-test.true, c.requires.room),
      length-set c.put_cell-at.new.buffer (at - 1) 32 ∙ omega (arith, inv.3, c.put_cell-at.auto.buffer),
    )

pub returns-clause-text : goal.returns-clause-text
returns-clause-text c =
    let content = c.args.database.now.content in
    let back = to_z-of_z c.ranges.time in
    let l = c.loop-source in
    let none : l.source ≡ 0 = omega (arith, c.loop-source-test.false) in
    let inv = rw (back, none) at l.invariant in
    let f : ℕ → List ℕ = λ source. codes " " ++ cell_text (cell_at content c.args.archive c.args.time source) in
    let texts = texts_below f (length content.sources) in
    let rest : inv.0.0 ≡ texts ++ codes "\n" = inv.0.2 in
    let colon = puts_byte c.args.buffer.now l.buffer c.args.end l.at 58 inv.0.0 inv.0.1 (omega (arith, inv.2, c.requires.room)) (omega (arith, inv.0.1.begins, inv.3, c.requires.inside)) in
    let all = puts_before c.args.buffer.now (set l.buffer (l.at - 1) 58) c.put_time.new.buffer c.args.end (l.at - 1) c.put_time.result (58 ∷ inv.0.0) (time_text c.args.time) colon (rw back at c.put_time.ensures.text) in
    let text : time_text c.args.time ++ 58 ∷ inv.0.0 ≡ row_text content c.args.archive c.args.time =
    ap (λ l. time_text c.args.time ++ 58 ∷ l) rest
    ∙ (sym (append_assoc (time_text c.args.time) (codes ":") (texts ++ codes "\n")) ∙ sym (append_assoc (time_text c.args.time ++ codes ":") texts (codes "\n"))) in
    rw text at all
