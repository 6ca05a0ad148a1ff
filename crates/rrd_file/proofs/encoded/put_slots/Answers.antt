use Rattle.rrd_file.proofs.Common.{◌≡◌, ◌∙◌, ◌-◌, ◌*◌, ◌/◌, ◌<◌, ◌++◌, List, arith, ap, length, sym, refl, slice_range, mul-le, Cell, place_in, rows_wide, resolution, row_bytes, def_of, rows_are, same_def, small_def, are_held, rows_held, beside_both, archive_at, there, archive_spelled}
use Rattle.rrd_file.proofs.encoded.put_slots.Goals as goal

pub resolution-resolution-requires : goal.resolution-resolution-requires
resolution-resolution-requires c =
    let d = c.args.database.now.content in
    let def = c.archive-def.result in
    let valid = c.database_is_valid.ensures.content_is in
    let small = small_def d c.args.archive def valid (def_of d c.args.archive def c.archive-def.ensures) in
    record {
      some_step = rw c.step.ensures valid.some_step;
      small_step = rw c.step.ensures valid.small_step;
      some_steps = small.some_steps;
      few_steps = small.few_steps;
    }

pub first_slot_row-first-requires : goal.first_slot_row-first-requires
first_slot_row-first-requires c =
    let d = c.args.database.now.content in
    let def = c.archive-def.result in
    let valid = c.database_is_valid.ensures.content_is in
    let small = small_def d c.args.archive def valid (def_of d c.args.archive def c.archive-def.ensures) in
    record {
      some_seconds = c.resolution-resolution.ensures.some;
      in_time = rw c.last.ensures valid.good_time;
      some_rows = small.some_rows;
      few_rows = small.few_rows;
    }

pub overflow_mul-middle : goal.overflow_mul-middle
overflow_mul-middle c =
    let d = c.args.database.now.content in
    let def = c.archive-def.result in
    let small = small_def d c.args.archive def c.database_is_valid.ensures.content_is (def_of d c.args.archive def c.archive-def.ensures) in
    omega (arith, mul-le (def.rows - c.first_slot_row-first.result) c.sources-sources.result 1000000 64 (omega (arith, small.few_rows)) c.sources-sources.ensures.few)

pub overflow_mul-middle-2 : goal.overflow_mul-middle-2
overflow_mul-middle-2 c =
    let d = c.args.database.now.content in
    let def = c.archive-def.result in
    let small = small_def d c.args.archive def c.database_is_valid.ensures.content_is (def_of d c.args.archive def c.archive-def.ensures) in
    omega (arith, mul-le (def.rows - c.first_slot_row-first.result) c.sources-sources.result 1000000 64 (omega (arith, small.few_rows)) c.sources-sources.ensures.few)

pub split_at_mut-newer-requires : goal.split_at_mut-newer-requires
split_at_mut-newer-requires c =
    let d = c.args.database.now.content in
    let def = c.archive-def.result in
    let valid = c.database_is_valid.ensures.content_is in
    let is = def_of d c.args.archive def c.archive-def.ensures in
    let found = there d.archives c.args.archive c.requires.archive_there in
    let a = found.0 in
    let rows : length a.rows ≡ def.rows = rows_are d c.args.archive def a valid is found.1 in
    let same : a.def ≡ def = same_def d c.args.archive def a is found.1 in
    let sources : c.sources-sources.result ≡ length d.sources = c.sources-sources.ensures.count in
    let size : c.resolution-resolution.result ≡ resolution d.step a.def = c.resolution-resolution.ensures.value ∙ ap (λ n. resolution n def) c.step.ensures ∙ ap (λ x. resolution d.step x) (sym same) in
    let first : c.first_slot_row-first.result ≡ place_in c.resolution-resolution.result d.last (length a.rows) 0 = c.first_slot_row-first.ensures.place ∙ (λ i. place_in c.resolution-resolution.result (c.last.ensures i) (sym rows i) 0) in
    let ended : c.saturating_sub-ended.result ≡ d.last / c.resolution-resolution.result - c.args.last / c.resolution-resolution.result = c.saturating_sub-ended.ensures ∙ ap (λ t. t / c.resolution-resolution.result - c.args.last / c.resolution-resolution.result) c.last-2.ensures in
    let kept : c.saturating_sub-kept.result ≡ length a.rows - (d.last / c.resolution-resolution.result - c.args.last / c.resolution-resolution.result) = c.saturating_sub-kept.ensures ∙ (λ i. sym rows i - ended i) in
    let mid : 16 * ((def.rows - c.first_slot_row-first.result) * c.sources-sources.result) ≡ 16 * ((length a.rows - c.first_slot_row-first.result) * length d.sources) = λ i. 16 * ((sym rows i - c.first_slot_row-first.result) * sources i) in
    let some : 0 < length a.rows = omega (arith, rows, (small_def d c.args.archive def valid is).some_rows) in
    let held = are_held c.rows_stand_in_slots.ensures.row c.rows_stay_in_slots.ensures.row c.args.cells.now d c.args.last a c.resolution-resolution.result c.first_slot_row-first.result c.saturating_sub-kept.result (16 * ((def.rows - c.first_slot_row-first.result) * c.sources-sources.result)) (c.requires.held a found.1) c.resolution-resolution.ensures.some size some first kept mid in
    held.within

pub put_rows-newer_stays-requires : goal.put_rows-newer_stays-requires
put_rows-newer_stays-requires c =
    let d = c.args.database.now.content in
    let def = c.archive-def.result in
    let valid = c.database_is_valid.ensures.content_is in
    let is = def_of d c.args.archive def c.archive-def.ensures in
    let small = small_def d c.args.archive def valid is in
    let found = there d.archives c.args.archive c.requires.archive_there in
    let a = found.0 in
    let rows : length a.rows ≡ def.rows = rows_are d c.args.archive def a valid is found.1 in
    let table : c.rows-rows.result.now ≡ a.rows = c.rows-rows.ensures a found.1 in
    let same : a.def ≡ def = same_def d c.args.archive def a is found.1 in
    let sources : c.sources-sources.result ≡ length d.sources = c.sources-sources.ensures.count in
    let size : c.resolution-resolution.result ≡ resolution d.step a.def = c.resolution-resolution.ensures.value ∙ ap (λ n. resolution n def) c.step.ensures ∙ ap (λ x. resolution d.step x) (sym same) in
    let first : c.first_slot_row-first.result ≡ place_in c.resolution-resolution.result d.last (length a.rows) 0 = c.first_slot_row-first.ensures.place ∙ (λ i. place_in c.resolution-resolution.result (c.last.ensures i) (sym rows i) 0) in
    let ended : c.saturating_sub-ended.result ≡ d.last / c.resolution-resolution.result - c.args.last / c.resolution-resolution.result = c.saturating_sub-ended.ensures ∙ ap (λ t. t / c.resolution-resolution.result - c.args.last / c.resolution-resolution.result) c.last-2.ensures in
    let kept : c.saturating_sub-kept.result ≡ length a.rows - (d.last / c.resolution-resolution.result - c.args.last / c.resolution-resolution.result) = c.saturating_sub-kept.ensures ∙ (λ i. sym rows i - ended i) in
    let mid : 16 * ((def.rows - c.first_slot_row-first.result) * c.sources-sources.result) ≡ 16 * ((length a.rows - c.first_slot_row-first.result) * length d.sources) = λ i. 16 * ((sym rows i - c.first_slot_row-first.result) * sources i) in
    let some : 0 < length a.rows = omega (arith, rows, small.some_rows) in
    let held = are_held c.rows_stand_in_slots.ensures.row c.rows_stay_in_slots.ensures.row c.args.cells.now d c.args.last a c.resolution-resolution.result c.first_slot_row-first.result c.saturating_sub-kept.result (16 * ((def.rows - c.first_slot_row-first.result) * c.sources-sources.result)) (c.requires.held a found.1) c.resolution-resolution.ensures.some size some first kept mid in
    record {
      order = omega (arith, c.first_slot_row-first.ensures.there);
      there = omega (arith, ap length table, rows);
      few_rows = small.few_rows;
      few_sources = c.sources-sources.ensures.few;
      wide = rw (table, sources) (rows_wide (length d.sources) a.rows (archive_at d c.args.archive a valid found.1).each_row);
      held = rows_held c.split_at_mut-newer.result.0.now _ c.rows-rows.result.now a.rows c.sources-sources.result (length d.sources) c.first_slot_row-first.result def.rows (length a.rows) c.saturating_sub-kept.result c.split_at_mut-newer.ensures.front table sources (sym rows) held.newer;
    }

pub put_rows-older_stays-requires : goal.put_rows-older_stays-requires
put_rows-older_stays-requires c =
    let d = c.args.database.now.content in
    let def = c.archive-def.result in
    let valid = c.database_is_valid.ensures.content_is in
    let is = def_of d c.args.archive def c.archive-def.ensures in
    let small = small_def d c.args.archive def valid is in
    let found = there d.archives c.args.archive c.requires.archive_there in
    let a = found.0 in
    let rows : length a.rows ≡ def.rows = rows_are d c.args.archive def a valid is found.1 in
    let table : c.rows-rows.result.now ≡ a.rows = c.rows-rows.ensures a found.1 in
    let same : a.def ≡ def = same_def d c.args.archive def a is found.1 in
    let sources : c.sources-sources.result ≡ length d.sources = c.sources-sources.ensures.count in
    let size : c.resolution-resolution.result ≡ resolution d.step a.def = c.resolution-resolution.ensures.value ∙ ap (λ n. resolution n def) c.step.ensures ∙ ap (λ x. resolution d.step x) (sym same) in
    let first : c.first_slot_row-first.result ≡ place_in c.resolution-resolution.result d.last (length a.rows) 0 = c.first_slot_row-first.ensures.place ∙ (λ i. place_in c.resolution-resolution.result (c.last.ensures i) (sym rows i) 0) in
    let ended : c.saturating_sub-ended.result ≡ d.last / c.resolution-resolution.result - c.args.last / c.resolution-resolution.result = c.saturating_sub-ended.ensures ∙ ap (λ t. t / c.resolution-resolution.result - c.args.last / c.resolution-resolution.result) c.last-2.ensures in
    let kept : c.saturating_sub-kept.result ≡ length a.rows - (d.last / c.resolution-resolution.result - c.args.last / c.resolution-resolution.result) = c.saturating_sub-kept.ensures ∙ (λ i. sym rows i - ended i) in
    let mid : 16 * ((def.rows - c.first_slot_row-first.result) * c.sources-sources.result) ≡ 16 * ((length a.rows - c.first_slot_row-first.result) * length d.sources) = λ i. 16 * ((sym rows i - c.first_slot_row-first.result) * sources i) in
    let some : 0 < length a.rows = omega (arith, rows, small.some_rows) in
    let held = are_held c.rows_stand_in_slots.ensures.row c.rows_stay_in_slots.ensures.row c.args.cells.now d c.args.last a c.resolution-resolution.result c.first_slot_row-first.result c.saturating_sub-kept.result (16 * ((def.rows - c.first_slot_row-first.result) * c.sources-sources.result)) (c.requires.held a found.1) c.resolution-resolution.ensures.some size some first kept mid in
    record {
      order = omega arith;
      there = omega (arith, ap length table, rows, c.first_slot_row-first.ensures.there);
      few_rows = omega (arith, small.few_rows, c.first_slot_row-first.ensures.there);
      few_sources = c.sources-sources.ensures.few;
      wide = rw (table, sources) (rows_wide (length d.sources) a.rows (archive_at d c.args.archive a valid found.1).each_row);
      held = rows_held c.split_at_mut-newer.result.1.now _ c.rows-rows.result.now a.rows c.sources-sources.result (length d.sources) 0 c.first_slot_row-first.result c.first_slot_row-first.result c.saturating_sub-kept.result c.split_at_mut-newer.ensures.back table sources refl held.older;
    }

pub returns-clause-put : goal.returns-clause-put
returns-clause-put c a e =
    let d = c.args.database.now.content in
    let def = c.archive-def.result in
    let first = c.first_slot_row-first.result in
    let table : c.rows-rows.result.now ≡ a.rows = c.rows-rows.ensures a e in
    let size : c.resolution-resolution.result ≡ resolution d.step def = c.resolution-resolution.ensures.value ∙ ap (λ n. resolution n def) c.step.ensures in
    let whole = archive_spelled c.rows_stand_in_slots.ensures.row d c.args.archive def c.resolution-resolution.result c.last.result first a c.database_is_valid.ensures.content_is (def_of d c.args.archive def c.archive-def.ensures) e size c.last.ensures c.first_slot_row-first.ensures.place in
    let newer : c.put_rows-newer_stays.new.into ≡ row_bytes (slice_range a.rows first def.rows) = c.put_rows-newer_stays.ensures.put ∙ ap (λ (rows : List (List Cell)). row_bytes (slice_range rows first def.rows)) table in
    let older : c.put_rows-older_stays.new.into ≡ row_bytes (slice_range a.rows 0 first) = c.put_rows-older_stays.ensures.put ∙ ap (λ (rows : List (List Cell)). row_bytes (slice_range rows 0 first)) table in
    (λ i. newer i ++ older i) ∙ sym whole

pub returns-clause-same : goal.returns-clause-same
returns-clause-same c k beside_newer beside_older =
    beside_both c.args.cells.now c.split_at_mut-newer.result.0.now c.split_at_mut-newer.result.1.now c.put_rows-newer_stays.new.into c.put_rows-older_stays.new.into
    _ c.put_rows-newer_stays.result c.put_rows-older_stays.result (length c.args.cells.now) k c.split_at_mut-newer.ensures.value c.split_at_mut-newer.ensures.front_len
    (omega (arith, c.split_at_mut-newer.ensures.front_len)) (omega arith) (omega arith)
    c.put_rows-newer_stays.ensures.same c.put_rows-older_stays.ensures.same beside_newer beside_older (omega (arith, c.put_rows-newer_stays.ensures.within))
