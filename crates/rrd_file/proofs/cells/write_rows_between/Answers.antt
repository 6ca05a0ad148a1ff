use Rattle.rrd_file.proofs.Common.{◌≡◌, ◌≤◌, ◌∙◌, ◌+◌, ◌-◌, ◌++◌, List, ap, subst, map, drop, take, arith, Cell, Adds, Breaks, row_pieces, spelled, OfCell, err_from_is_err_and, adds_then, breaks_stop, breaks_then, rows_on, rows_spelled}
use Rattle.rrd_file.proofs.cells.write_rows_between.Goals as goal

pub returns-in_err-write_each : goal.returns-in_err-write_each
returns-in_err-write_each g c =
    let p = err_from_is_err_and c.from_residual.result c.from_residual.ensures.1 in
    let rows = g.T.Table.table c.args.rows.now in
    let from = c.args.from in
    let to = c.args.to in
    let index = c.loop-index.index in
    let n = c.together-count.result.0 in
    let after : from ≤ index = c.loop-index.invariant.after in
    let left = to - (index + n) in
    let end : index + n + left - from ≡ to - from = omega (arith, c.together-count.ensures.few, c.loop-index-test.true) in
    let same = ap (λ (cells : List Cell). spelled (map OfCell cells)) c.together-count.ensures.cells ∙ rows_spelled (take n (drop index rows)) in
    let behind = spelled (row_pieces (take left (drop (index + n) rows))) in
    let whole = ap (λ l. l ++ behind) (ap (λ l. spelled (row_pieces (take (index - from) (drop from rows))) ++ l) same ∙ rows_on rows from index n after)
    ∙ rows_on rows from (index + n) left (omega (arith, after)) ∙ ap (λ k. spelled (row_pieces (take k (drop from rows)))) end in
    rw p.1 (subst (Breaks _ _ _) whole (breaks_stop behind (breaks_then c.loop-index.invariant.added c.in_err-write_each.ensures)))

pub loop-index-preserved : goal.loop-index-preserved
loop-index-preserved g c =
    let rows = g.T.Table.table c.args.rows.now in
    let from = c.args.from in
    let index = c.loop-index.index in
    let n = c.together-count.result.0 in
    let after : from ≤ index = c.loop-index.invariant.after in
    let same = ap (λ (cells : List Cell). spelled (map OfCell cells)) c.together-count.ensures.cells ∙ rows_spelled (take n (drop index rows)) in
    grind (arith, subst (Adds _ _ _) (ap (λ l. spelled (row_pieces (take (index - from) (drop from rows))) ++ l) same ∙ rows_on rows from index n after) (adds_then c.loop-index.invariant.added c.in_ok-write_each.ensures))

pub returns : goal.returns
returns g c =
    let all : c.loop-index.index - c.args.from ≡ c.args.to - c.args.from = omega (arith, c.loop-index.invariant.most, c.loop-index-test.false) in
    subst (Adds _ _ _) (ap (λ k. spelled (row_pieces (take k (drop c.args.from (g.T.Table.table c.args.rows.now))))) all) c.loop-index.invariant.added
