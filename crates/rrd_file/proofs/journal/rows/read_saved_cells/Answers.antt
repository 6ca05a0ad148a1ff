use Rattle.rrd_file.proofs.Common.{◌≡◌, ◌∙◌, ◌+◌, ◌-◌, ◌<◌, ◌++◌, ◌∷◌, [], List, sym, ap, arith, length-append, length, map, replicate, subst, rules, err_from_is_err_and, AllByRecursion, All-append, Cell, IsBounded, OfCell, Piece, DueInEntry, RowCellDue, Comes, more_map, one_less}
use Rattle.rrd_file.proofs.journal.rows.read_saved_cells.Goals as goal

pub returns-in_err-cell-clause-brings : goal.returns-in_err-cell-clause-brings
returns-in_err-cell-clause-brings g c = λ bytes pieces later st.
    let p = err_from_is_err_and c.from_residual-in_err-cell.result c.from_residual-in_err-cell.ensures.1 in
    let n = c.args.count in
    let i = c.loop.counter in
    let more : i < n = search rules in
    rw (p.1, p.2) (c.in_err-cell.ensures.brings bytes (pieces ++ map OfCell c.loop.cells.items) (replicate (n - (i + 1)) RowCellDue ++ later)
    (subst (λ (l : List DueInEntry). Comes bytes c.args.build.now (pieces ++ map OfCell c.loop.cells.items) l c.loop.input) (one_less RowCellDue n i later more) (c.loop.invariant.2 bytes pieces later st)))

pub loop-preserved : goal.loop-preserved
loop-preserved g c =
    let n = c.args.count in
    let i = c.loop.counter in
    let more : i < n = search rules in
    let cells = c.loop.cells.items in
    let cell = c.in_ok-cell.cell in
    let items : c.push.new.self.items ≡ cells ++ cell ∷ [] = search rules in (
      omega (arith, ap length items, length-append cells (cell ∷ []), c.loop.invariant.0),
      subst (AllByRecursion IsBounded) (sym items) (All-append IsBounded cells (cell ∷ []) c.loop.invariant.1 (c.in_ok-cell.ensures.bounded, tt)),
      λ bytes pieces later st.
          subst (λ (l : List Piece). Comes bytes c.args.build.now l (replicate (n - (i + 1)) RowCellDue ++ later) c.read_row_cell.new.input) (more_map OfCell pieces cells cell ∙ ap (λ (l : List Cell). pieces ++ map OfCell l) (sym items))
          (c.in_ok-cell.ensures.brings bytes (pieces ++ map OfCell cells) (replicate (n - (i + 1)) RowCellDue ++ later)
          (subst (λ (l : List DueInEntry). Comes bytes c.args.build.now (pieces ++ map OfCell cells) l c.loop.input) (one_less RowCellDue n i later more) (c.loop.invariant.2 bytes pieces later st))),
    )
