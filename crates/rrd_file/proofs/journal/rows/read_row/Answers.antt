use Rattle.rrd_file.proofs.Common.{◌+◌, ◌-◌, ◌<◌, ◌≤◌, ◌++◌, List, length, length-set, map, replicate, subst, take, arith, err_from_is_err_and, Cell, OfCell, Piece, DueInEntry, RowCellDue, Comes, more_cell, none_less, one_less, taken_all}
use Rattle.rrd_file.proofs.journal.rows.read_row.Goals as goal

pub returns-in_err-row-clause-brings : goal.returns-in_err-row-clause-brings
returns-in_err-row-clause-brings g c = λ bytes pieces later st.
    let p = err_from_is_err_and c.from_residual.result c.from_residual.ensures.1 in
    let n = length c.args.row.now in
    let i = c.loop-i.i in
    let more : i < n = omega arith in
    rw (p.1, p.2) (c.in_err-row.ensures.brings bytes (pieces ++ map OfCell (take i c.loop-i.row)) (replicate (n - (i + 1)) RowCellDue ++ later)
    (subst (λ (l : List DueInEntry). Comes bytes c.args.build.now (pieces ++ map OfCell (take i c.loop-i.row)) l c.loop-i.input) (one_less RowCellDue n i later more) (c.loop-i.invariant.1 bytes pieces later st)))

pub loop-i-preserved : goal.loop-i-preserved
loop-i-preserved g c =
    let n = length c.args.row.now in
    let i = c.loop-i.i in
    let more : i < n = omega arith in
    let within : i < length c.loop-i.row = omega (arith, c.loop-i.invariant.0) in
    let cell = c.in_ok-row.field-0 in (
      omega (arith, length-set {A = Cell}, c.loop-i.invariant.0),
      λ bytes pieces later st.
          subst (λ (l : List Piece). Comes bytes c.args.build.now l (replicate (n - (i + 1)) RowCellDue ++ later) c.read_row_cell.new.input) (more_cell pieces c.loop-i.row i cell within)
          (c.in_ok-row.ensures.brings bytes (pieces ++ map OfCell (take i c.loop-i.row)) (replicate (n - (i + 1)) RowCellDue ++ later)
          (subst (λ (l : List DueInEntry). Comes bytes c.args.build.now (pieces ++ map OfCell (take i c.loop-i.row)) l c.loop-i.input) (one_less RowCellDue n i later more) (c.loop-i.invariant.1 bytes pieces later st))),
    )

pub returns-clause-brings : goal.returns-clause-brings
returns-clause-brings g c = λ bytes pieces later st.
    let n = length c.args.row.now in
    let i = c.loop-i.i in
    let past : n ≤ i = omega arith in
    let all : length c.loop-i.row ≤ i = omega (arith, c.loop-i.invariant.0) in
    subst (λ (l : List Cell). Comes bytes c.args.build.now (pieces ++ map OfCell l) later c.loop-i.input) (taken_all c.loop-i.row i all)
    (subst (λ (l : List DueInEntry). Comes bytes c.args.build.now (pieces ++ map OfCell (take i c.loop-i.row)) l c.loop-i.input) (none_less RowCellDue n i later past) (c.loop-i.invariant.1 bytes pieces later st))
