use Rattle.rrd_base.proofs.Common.{List, ◌≡◌, ◌∙◌, ◌+◌, ◌-◌, ◌*◌, ◌<◌, ◌≤◌, refl, sym, ap, subst, arith, length, take, ◌⊎◌, AllByRecursion, length-take-le, IsBounded, Cell, width, with_rows, CellDue, RraDef, Rra, present, Filed, IsArchiveDef, due, resolution, place_in, KnowsPlace, filled_by, IsCursor, IsRebuilding, coming, filed_in, All-take, run_cells, MayCells, GoesOn, StaysIn, at_cell, cell_came, cell_here, cells_come, place_there, with_more, are_put, may_come, one_item, passes_on, whole_few, within, with_cells_is, rules}
use Rattle.rrd_base.specs.Rebuild.Cursors.{Passes}
use Rattle.rrd_base.proofs.RowsCome.{width_is, with_rows_at}
use Rattle.rrd_base.proofs.rebuild.Rebuild.whole_rows.Goals as goal

pub get-requires : goal.get-requires
get-requires c =
    let d = coming c.self.inside in
    let is_due : due (filed_in d) ≡ CellDue = ap due c.self.view_is ∙ sym c.due.ensures ∙ c.in-CellDue.is in
    omega (arith, (at_cell c.cells_stand_in_slots.ensures.as_many d c.self.invariant.came is_due).there)

pub place-place-requires : goal.place-place-requires
place-place-requires c =
    let d = coming c.self.inside in
    let cursor = c.self.inside.cursor in
    let is_due : due (filed_in d) ≡ CellDue = ap due c.self.view_is ∙ sym c.due.ensures ∙ c.in-CellDue.is in
    let first = c.get.result.now in
    let here = cell_here c.cells_stand_in_slots.ensures.as_many d first cursor c.self.invariant.came c.self.invariant.cursor_is is_due c.get.ensures refl in
    assumption (subst (IsArchiveDef present) (sym c.def-def.ensures) here.so_far.def_is, subst (λ (def : RraDef). KnowsPlace (resolution d.step def) d.last def.rows cursor) (sym c.def-def.ensures) here.knows)

pub get_mut-rra-requires : goal.get_mut-rra-requires
get_mut-rra-requires c =
    let d = coming c.self.inside in
    let is_due : due (filed_in d) ≡ CellDue = ap due c.self.view_is ∙ sym c.due.ensures ∙ c.in-CellDue.is in
    omega (arith, (at_cell c.cells_stand_in_slots.ensures.as_many d c.self.invariant.came is_due).there)

pub write_rows-requires : goal.write_rows-requires
write_rows-requires c =
    let d = coming c.self.inside in
    let cursor = c.self.inside.cursor in
    let is = c.self.invariant.came in
    let is_due : due (filed_in d) ≡ CellDue = ap due c.self.view_is ∙ sym c.due.ensures ∙ c.in-CellDue.is in
    let first = c.get.result.now in
    let here = cell_here c.cells_stand_in_slots.ensures.as_many d first cursor is c.self.invariant.cursor_is is_due c.get.ensures refl in
    let place = c.place-place.result in
    let place_is : place ≡ place_in (resolution d.step first.def) d.last first.def.rows cursor.slot = c.place-place.ensures ∙ ap (λ (def : RraDef). place_in (resolution d.step def) d.last def.rows cursor.slot) c.def-def.ensures in
    let inside = place_there c.rows_stand_in_slots.ensures.place d first cursor place is here place_is in
    let a = c.get_mut-rra.result.now in
    let same : first ≡ a = one_item d.archives d.archive first a here.at.there c.get.ensures c.get_mut-rra.ensures.value in
    let rows = ap (λ (def : RraDef). def.rows) c.def-def.ensures in
    let count = c.min-count.result in
    let fits : cursor.slot + count ≤ first.def.rows = omega (arith, c.min-count.ensures, rows, here.slot) in
    let few : count * d.sources_due ≤ length (run_cells c.args.cells) = omega (arith, c.len.ensures, whole_few count d.sources_due c.len.result (c.def-def.result.rows - cursor.slot) is.header_is.some_source c.min-count.ensures) in
    let whole = take (count * d.sources_due) (run_cells c.args.cells) in
    let long : length whole ≡ count * d.sources_due = length-take-le (count * d.sources_due) (run_cells c.args.cells) few in
    record {
      there = subst (λ (x : Rra). place < length x.rows) same (omega (arith, inside, here.so_far.rows_are));
      few = subst (λ (x : Rra). count ≤ length x.rows) same (omega (arith, fits, here.so_far.rows_are));
      one_each = ap length c.front.ensures ∙ subst (λ (x : Rra). length whole ≡ count * width x.rows) same (long ∙ ap (λ n. count * n) (sym (width_is d.sources_due first.rows here.so_far.each_row (omega (arith, here.so_far.rows_are, inside)))));
    }

pub pass-requires : goal.pass-requires
pass-requires c =
    let d = coming c.self.inside in
    let cursor = c.self.inside.cursor in
    let is = c.self.invariant.came in
    let is_due : due (filed_in d) ≡ CellDue = ap due c.self.view_is ∙ sym c.due.ensures ∙ c.in-CellDue.is in
    let first = c.get.result.now in
    let here = cell_here c.cells_stand_in_slots.ensures.as_many d first cursor is c.self.invariant.cursor_is is_due c.get.ensures refl in
    let rows = ap (λ (def : RraDef). def.rows) c.def-def.ensures in
    let count = c.min-count.result in
    let fits : cursor.slot + count ≤ first.def.rows = omega (arith, c.min-count.ensures, rows, here.slot) in
    let few : count * d.sources_due ≤ length (run_cells c.args.cells) = omega (arith, c.len.ensures, whole_few count d.sources_due c.len.result (c.def-def.result.rows - cursor.slot) is.header_is.some_source c.min-count.ensures) in
    let whole = take (count * d.sources_due) (run_cells c.args.cells) in
    let long : length whole ≡ count * d.sources_due = length-take-le (count * d.sources_due) (run_cells c.args.cells) few in
    let place = c.place-place.result in
    let place_is : place ≡ place_in (resolution d.step first.def) d.last first.def.rows cursor.slot = c.place-place.ensures ∙ ap (λ (def : RraDef). place_in (resolution d.step def) d.last def.rows cursor.slot) c.def-def.ensures in
    let inside = place_there c.rows_stand_in_slots.ensures.place d first cursor place is here place_is in
    grind (arith, subst (λ (def : RraDef). place < def.rows) (sym c.def-def.ensures) inside, subst (λ (def : RraDef). def.rows ≤ present.max_rows) (sym c.def-def.ensures) here.so_far.def_is.few_rows)

pub invariant_of-self : goal.invariant_of-self
invariant_of-self c =
    let d = coming c.self.inside in
    let cursor = c.self.inside.cursor in
    let is = c.self.invariant.came in
    let is_due : due (filed_in d) ≡ CellDue = ap due c.self.view_is ∙ sym c.due.ensures ∙ c.in-CellDue.is in
    let first = c.get.result.now in
    let here = cell_here c.cells_stand_in_slots.ensures.as_many d first cursor is c.self.invariant.cursor_is is_due c.get.ensures refl in
    let place = c.place-place.result in
    let place_is : place ≡ place_in (resolution d.step first.def) d.last first.def.rows cursor.slot = c.place-place.ensures ∙ ap (λ (def : RraDef). place_in (resolution d.step def) d.last def.rows cursor.slot) c.def-def.ensures in
    let inside = place_there c.rows_stand_in_slots.ensures.place d first cursor place is here place_is in
    let rows = ap (λ (def : RraDef). def.rows) c.def-def.ensures in
    let count = c.min-count.result in
    let fits : cursor.slot + count ≤ first.def.rows = omega (arith, c.min-count.ensures, rows, here.slot) in
    let few : count * d.sources_due ≤ length (run_cells c.args.cells) = omega (arith, c.len.ensures, whole_few count d.sources_due c.len.result (c.def-def.result.rows - cursor.slot) is.header_is.some_source c.min-count.ensures) in
    let whole = take (count * d.sources_due) (run_cells c.args.cells) in
    let long : length whole ≡ count * d.sources_due = length-take-le (count * d.sources_due) (run_cells c.args.cells) few in
    let bounded : AllByRecursion IsBounded whole = All-take IsBounded (count * d.sources_due) (run_cells c.args.cells) c.requires in
    let none : cursor.source ≡ 0 = omega (arith, c.if-self-gt0.false) in
    let put = are_put c.cells_stand_in_slots.ensures.as_many c.cells_stand_in_slots.ensures.row_put d first cursor place count whole is here c.get.ensures refl none place_is fits long bounded in
    let goes : Passes first.def.rows place count cursor c.pass.new.self = subst (λ (def : RraDef). Passes def.rows place count cursor c.pass.new.self) c.def-def.ensures (record { within = c.pass.ensures.within; over = c.pass.ensures.over }) in
    let steps = passes_on d.sources_due (resolution d.step first.def) d.last first.def.rows place count cursor c.pass.new.self goes place_is none is.header_is.some_source here.slot fits in
    let moves = subst (λ n. StaysIn d.sources_due (resolution d.step first.def) d.last first.def.rows n cursor c.pass.new.self ⊎ GoesOn d.sources_due first.def.rows n cursor c.pass.new.self) (sym long) steps in
    let b = with_rows_at first d.sources_due place count whole in
    let after = cells_come c.cells_stand_in_slots.ensures.as_many d first b whole cursor c.pass.new.self is here.at put refl refl moves in
    let a = c.get_mut-rra.result.now in
    let same : first ≡ a = one_item d.archives d.archive first a here.at.there c.get.ensures c.get_mut-rra.ensures.value in
    let wide : width first.rows ≡ d.sources_due = width_is d.sources_due first.rows here.so_far.each_row (omega (arith, here.so_far.rows_are, inside)) in
    let new : c.write_rows.new.self ≡ b = cc (c.write_rows.ensures, c.front.ensures, same, wide) in
    record {
      came = subst (λ (x : Rra). IsRebuilding (cell_came d x c.pass.new.self.archive (filled_by d.sources_due c.pass.new.self))) (sym new) after.came;
      cursor_is = subst (λ (x : Rra). IsCursor (cell_came d x c.pass.new.self.archive (filled_by d.sources_due c.pass.new.self)) c.pass.new.self) (sym new) after.cursor_is;
    }

pub returns : goal.returns
returns c =
    let d = coming c.self.inside in
    let cursor = c.self.inside.cursor in
    let is = c.self.invariant.came in
    let is_due : due (filed_in d) ≡ CellDue = ap due c.self.view_is ∙ sym c.due.ensures ∙ c.in-CellDue.is in
    let first = c.get.result.now in
    let here = cell_here c.cells_stand_in_slots.ensures.as_many d first cursor is c.self.invariant.cursor_is is_due c.get.ensures refl in
    let rows = ap (λ (def : RraDef). def.rows) c.def-def.ensures in
    let count = c.min-count.result in
    let fits : cursor.slot + count ≤ first.def.rows = omega (arith, c.min-count.ensures, rows, here.slot) in
    let few : count * d.sources_due ≤ length (run_cells c.args.cells) = omega (arith, c.len.ensures, whole_few count d.sources_due c.len.result (c.def-def.result.rows - cursor.slot) is.header_is.some_source c.min-count.ensures) in
    let whole = take (count * d.sources_due) (run_cells c.args.cells) in
    let long : length whole ≡ count * d.sources_due = length-take-le (count * d.sources_due) (run_cells c.args.cells) few in
    let bounded : AllByRecursion IsBounded whole = All-take IsBounded (count * d.sources_due) (run_cells c.args.cells) c.requires in
    let none : cursor.source ≡ 0 = omega (arith, c.if-self-gt0.false) in
    let place = c.place-place.result in
    let place_is : place ≡ place_in (resolution d.step first.def) d.last first.def.rows cursor.slot = c.place-place.ensures ∙ ap (λ (def : RraDef). place_in (resolution d.step def) d.last def.rows cursor.slot) c.def-def.ensures in
    let inside = place_there c.rows_stand_in_slots.ensures.place d first cursor place is here place_is in
    let put = are_put c.cells_stand_in_slots.ensures.as_many c.cells_stand_in_slots.ensures.row_put d first cursor place count whole is here c.get.ensures refl none place_is fits long bounded in
    let goes : Passes first.def.rows place count cursor c.pass.new.self = subst (λ (def : RraDef). Passes def.rows place count cursor c.pass.new.self) c.def-def.ensures (record { within = c.pass.ensures.within; over = c.pass.ensures.over }) in
    let steps = passes_on d.sources_due (resolution d.step first.def) d.last first.def.rows place count cursor c.pass.new.self goes place_is none is.header_is.some_source here.slot fits in
    let moves = subst (λ n. StaysIn d.sources_due (resolution d.step first.def) d.last first.def.rows n cursor c.pass.new.self ⊎ GoesOn d.sources_due first.def.rows n cursor c.pass.new.self) (sym long) steps in
    let b = with_rows_at first d.sources_due place count whole in
    let after = cells_come c.cells_stand_in_slots.ensures.as_many d first b whole cursor c.pass.new.self is here.at put refl refl moves in
    let a = c.get_mut-rra.result.now in
    let same : first ≡ a = one_item d.archives d.archive first a here.at.there c.get.ensures c.get_mut-rra.ensures.value in
    let wide : width first.rows ≡ d.sources_due = width_is d.sources_due first.rows here.so_far.each_row (omega (arith, here.so_far.rows_are, inside)) in
    let new : c.write_rows.new.self ≡ b =
    c.write_rows.ensures ∙ ap (λ (cs : List Cell). let y : Rra = record a { rows = with_rows count (width a.rows) a.rows place cs } in y) c.front.ensures ∙ ap (λ (x : Rra). let y : Rra = record x { rows = with_rows count (width x.rows) x.rows place whole } in y) (sym same)
    ∙ ap (λ n. let y : Rra = record first { rows = with_rows count n first.rows place whole } in y) wide in
    record {
      may = subst (λ (f : Filed). MayCells f whole) c.self.view_is (may_come c.cells_stand_in_slots.ensures.as_many d first whole is here.at c.get.ensures bounded (within d.sources_due cursor.slot cursor.source count first.def.rows (length whole) none long fits));
      came =
          ap (λ (x : Rra). filed_in (cell_came d x c.pass.new.self.archive (filled_by d.sources_due c.pass.new.self))) new
          ∙ (after.filed_is ∙ ap (λ (f : Filed). with_more f whole) c.self.view_is ∙ sym (with_cells_is c.args.self.now whole));
      few = search rules;
    }
