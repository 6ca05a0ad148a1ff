use Rattle.rrd_file.proofs.Common.{◌≡◌, ◌∙◌, ap, sym, subst, arith, slice_range, err_from_is_err_and, resolution, Breaks, Gathers, row_pieces, spelled, def_of, rows_are, small_def, breaks_stop, gathers_then, archive_spelled}
use Rattle.rrd_file.proofs.cells.write_slots.Goals as goal

pub resolution-requires : goal.resolution-requires
resolution-requires g c =
    let d = c.args.database.now.content in
    let valid = c.database_is_valid.ensures.content_is in
    let small = small_def d c.args.archive c.archive-def.result valid (def_of d c.args.archive c.archive-def.result c.archive-def.ensures) in
    record {
      some_step = rw c.step.ensures valid.some_step;
      small_step = rw c.step.ensures valid.small_step;
      some_steps = small.some_steps;
      few_steps = small.few_steps;
    }

pub first_slot_row-first-requires : goal.first_slot_row-first-requires
first_slot_row-first-requires g c =
    let d = c.args.database.now.content in
    let valid = c.database_is_valid.ensures.content_is in
    let small = small_def d c.args.archive c.archive-def.result valid (def_of d c.args.archive c.archive-def.result c.archive-def.ensures) in
    record {
      some_seconds = c.resolution.ensures.some;
      in_time = rw c.last.ensures valid.good_time;
      some_rows = small.some_rows;
      few_rows = small.few_rows;
    }

pub write_run-requires : goal.write_run-requires
write_run-requires g c =
    let d = c.args.database.now.content in
    let is = def_of d c.args.archive c.archive-def.result c.archive-def.ensures in
    record {
      archive_there = c.requires;
      rows_there = λ a e. omega (arith, rows_are d c.args.archive c.archive-def.result a c.database_is_valid.ensures.content_is is e);
    }

pub write_run-requires-2 : goal.write_run-requires-2
write_run-requires-2 g c =
    let d = c.args.database.now.content in
    let is = def_of d c.args.archive c.archive-def.result c.archive-def.ensures in
    record {
      archive_there = c.requires;
      rows_there = λ a e. omega (arith, c.first_slot_row-first.ensures.there, rows_are d c.args.archive c.archive-def.result a c.database_is_valid.ensures.content_is is e);
    }

pub returns-in_err-write_run : goal.returns-in_err-write_run
returns-in_err-write_run g c = λ a e.
    let p = err_from_is_err_and c.from_residual.result c.from_residual.ensures.1 in
    let d = c.args.database.now.content in
    let def = c.archive-def.result in
    let size : c.resolution.result ≡ resolution d.step def = c.resolution.ensures.value ∙ ap (λ n. resolution n def) c.step.ensures in
    let whole = archive_spelled c.rows_stand_in_slots.ensures.row d c.args.archive def c.resolution.result c.last.result c.first_slot_row-first.result a c.database_is_valid.ensures.content_is (def_of d c.args.archive def c.archive-def.ensures) e size c.last.ensures c.first_slot_row-first.ensures.place in
    rw p.1 (subst (Breaks _ _ _) (sym whole) (breaks_stop (spelled (row_pieces (slice_range a.rows 0 c.first_slot_row-first.result))) (c.in_err-write_run.ensures a e)))

pub returns : goal.returns
returns g c = λ a e.
    let d = c.args.database.now.content in
    let def = c.archive-def.result in
    let size : c.resolution.result ≡ resolution d.step def = c.resolution.ensures.value ∙ ap (λ n. resolution n def) c.step.ensures in
    let whole = archive_spelled c.rows_stand_in_slots.ensures.row d c.args.archive def c.resolution.result c.last.result c.first_slot_row-first.result a c.database_is_valid.ensures.content_is (def_of d c.args.archive def c.archive-def.ensures) e size c.last.ensures c.first_slot_row-first.ensures.place in
    let out = c.write_run-2.new.out in
    subst (λ bs. Gathers g.W.Write.contents c.args.out.now out bs c.write_run-2.result) (sym whole) (gathers_then out (spelled (row_pieces (slice_range a.rows 0 c.first_slot_row-first.result))) c.write_run-2.result (c.in_ok-write_run.ensures a e) (c.write_run-2.ensures a e))
