use Rattle.rrd_file.proofs.Common.{List, ◌≡◌, ◌≤◌, ◌+◌, ◌-◌, ◌*◌, ◌++◌, ◌∙◌, sym, subst, arith, length, min, ap, slice_range, mul-le, err_from_is_err_and, Cell, Breaks, Gathers, row_pieces, spelled, breaks_stop, gathers_then, archive_at, there, run_spelled, unknown}
use Rattle.rrd_file.proofs.cells.write_run.Goals as goal

pub overflow_mul-unwritten : goal.overflow_mul-unwritten
overflow_mul-unwritten g c =
    let d = c.args.database.now.content in
    let run = c.saturating_sub-unwritten.result in
    let found = there d.archives c.args.archive c.requires.archive_there in
    let archive = archive_at d c.args.archive found.0 c.database_is_valid.ensures.content_is found.1 in
    let rows : c.never_written_rows.result ≤ 1000000 = omega (arith, c.never_written_rows.ensures.few found.0 found.1, archive.rows_are, archive.few_rows) in
    let few_rows : run ≤ 1000000 = omega (arith, rows, c.min.ensures, c.saturating_sub-unwritten.ensures) in
    let few_sources : c.sources.result ≤ 64 = c.sources.ensures.few in
    omega (arith, mul-le run c.sources.result 1000000 64 few_rows few_sources)

pub write_rows_between-requires : goal.write_rows_between-requires
write_rows_between-requires g c =
    let found = there c.args.database.now.content.archives c.args.archive c.requires.archive_there in
    omega (arith, c.requires.rows_there found.0 found.1, ap length (c.rows.ensures found.0 found.1))

pub returns-in_err-write_unknown : goal.returns-in_err-write_unknown
returns-in_err-write_unknown g c = λ a e.
    let p = err_from_is_err_and c.from_residual.result c.from_residual.ensures.1 in
    let d = c.args.database.now.content in
    let u = c.never_written_rows.result in
    let run = c.saturating_sub-unwritten.result in
    let run_is : min u c.args.to - c.args.from ≡ run = sym (c.saturating_sub-unwritten.ensures ∙ ap (λ n. n - c.args.from) c.min.ensures) in
    let sources_are : length d.sources ≡ c.sources.result = sym c.sources.ensures.count in
    let rest = spelled (row_pieces (slice_range a.rows (c.args.from + run) c.args.to)) in
    let whole : spelled (row_pieces (slice_range a.rows c.args.from c.args.to)) ≡ unknown (run * c.sources.result) ++ rest =
    run_spelled a.rows u c.args.from c.args.to (length d.sources) (c.never_written_rows.ensures.unknown a e)
    ∙ (λ i. unknown (run_is i * sources_are i) ++ spelled (row_pieces (slice_range a.rows (c.args.from + run_is i) c.args.to))) in
    rw p.1 (subst (Breaks _ _ _) (sym whole) (breaks_stop rest c.in_err-write_unknown.ensures))

pub returns : goal.returns
returns g c = λ a e.
    let d = c.args.database.now.content in
    let u = c.never_written_rows.result in
    let run = c.saturating_sub-unwritten.result in
    let run_is : min u c.args.to - c.args.from ≡ run = sym (c.saturating_sub-unwritten.ensures ∙ ap (λ n. n - c.args.from) c.min.ensures) in
    let sources_are : length d.sources ≡ c.sources.result = sym c.sources.ensures.count in
    let rest = spelled (row_pieces (slice_range a.rows (c.args.from + run) c.args.to)) in
    let whole : spelled (row_pieces (slice_range a.rows c.args.from c.args.to)) ≡ unknown (run * c.sources.result) ++ rest =
    run_spelled a.rows u c.args.from c.args.to (length d.sources) (c.never_written_rows.ensures.unknown a e)
    ∙ (λ i. unknown (run_is i * sources_are i) ++ spelled (row_pieces (slice_range a.rows (c.args.from + run_is i) c.args.to))) in
    let out = c.write_rows_between.new.out in
    let written = subst (λ (rows : List (List Cell)). Gathers g.W.Write.contents c.write_unknown.new.out out (spelled (row_pieces (slice_range rows (c.args.from + run) c.args.to))) c.write_rows_between.result) (c.rows.ensures a e) c.write_rows_between.ensures in
    subst (λ bs. Gathers g.W.Write.contents c.args.out.now out bs c.write_rows_between.result) (sym whole) (gathers_then out rest c.write_rows_between.result c.in_ok-write_unknown.ensures written)
