use Rattle.rrd_file.proofs.Common.{◌++◌, sym, subst, err_from_is_err_and, journal_bytes, Breaks, Gathers, breaks_stop, gathers_then, breaks_then, joined_layout}
use Rattle.rrd_file.specs.Encoded.{cell_bytes}
use Rattle.rrd_file.proofs.write_layout.Goals as goal

pub returns-in_err-write_front : goal.returns-in_err-write_front
returns-in_err-write_front g c =
    let p = err_from_is_err_and c.from_residual.result c.from_residual.ensures.1 in
    let d = c.args.database.now in
    rw p.1 (subst (Breaks _ _ _) (sym (joined_layout d)) (breaks_stop (cell_bytes d.content ++ journal_bytes d) c.in_err-write_front.ensures))

pub returns-in_err-write_cells : goal.returns-in_err-write_cells
returns-in_err-write_cells g c =
    let p = err_from_is_err_and c.from_residual-in_err-write_cells.result c.from_residual-in_err-write_cells.ensures.1 in
    let d = c.args.database.now in
    rw p.1 (subst (Breaks _ _ _) (sym (joined_layout d)) (breaks_then c.in_ok-write_front.ensures (breaks_stop (journal_bytes d) c.in_err-write_cells.ensures)))

pub returns : goal.returns
returns g c =
    let d = c.args.database.now in
    subst (λ bs. Gathers g.W.Write.contents c.args.out.now c.write_entries.new.out bs c.write_entries.result) (sym (joined_layout d)) (gathers_then c.write_entries.new.out (cell_bytes d.content ++ journal_bytes d) c.write_entries.result c.in_ok-write_front.ensures (gathers_then c.write_entries.new.out (journal_bytes d) c.write_entries.result c.in_ok-write_cells.ensures c.write_entries.ensures))
