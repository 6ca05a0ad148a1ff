use Rattle.rrd_base.proofs.Common.{◌≡◌, ◌∙◌, ◌<◌, ◌≤◌, refl, sym, ap, subst, arith, CellDue, RraDef, Rra, present, IsArchiveDef, due, resolution, place_in, Advances, KnowsPlace, filled_by, IsCursor, IsRebuilding, coming, filed_in, at_cell, cell_came, cell_comes, cell_here, is_put, place_there, row_there, with_cell_at, few_archives, rules}
use Rattle.rrd_spec.specs.Files.Rebuilding.{with_cell}
use Rattle.rrd_base.proofs.rebuild.Rebuild.cell.Goals as goal

pub get_mut-rra-requires : goal.get_mut-rra-requires
get_mut-rra-requires c =
    let d = coming c.self.inside in
    let is_due : due (filed_in d) ≡ CellDue = ap due c.self.view_is ∙ (c.may_cell.ensures.good c.if-not-may_cell.false).is_due in
    omega (arith, (at_cell c.cells_stand_in_slots.ensures.as_many d c.self.invariant.came is_due).there)

pub place-place-requires : goal.place-place-requires
place-place-requires c =
    let d = coming c.self.inside in
    let cursor = c.self.inside.cursor in
    let is_due : due (filed_in d) ≡ CellDue = ap due c.self.view_is ∙ (c.may_cell.ensures.good c.if-not-may_cell.false).is_due in
    let a = c.get_mut-rra.result.now in
    let here = cell_here c.cells_stand_in_slots.ensures.as_many d a cursor c.self.invariant.came c.self.invariant.cursor_is is_due c.get_mut-rra.ensures.value refl in
    assumption (subst (IsArchiveDef present) (sym c.def-def.ensures) here.so_far.def_is, subst (λ (def : RraDef). KnowsPlace (resolution d.step def) d.last def.rows cursor) (sym c.def-def.ensures) here.knows)

pub set_cell-requires : goal.set_cell-requires
set_cell-requires c =
    let d = coming c.self.inside in
    let cursor = c.self.inside.cursor in
    let is_due : due (filed_in d) ≡ CellDue = ap due c.self.view_is ∙ (c.may_cell.ensures.good c.if-not-may_cell.false).is_due in
    let a = c.get_mut-rra.result.now in
    let here = cell_here c.cells_stand_in_slots.ensures.as_many d a cursor c.self.invariant.came c.self.invariant.cursor_is is_due c.get_mut-rra.ensures.value refl in
    let place = c.place-place.result in
    let place_is : place ≡ place_in (resolution d.step a.def) d.last a.def.rows cursor.slot = c.place-place.ensures ∙ ap (λ (def : RraDef). place_in (resolution d.step def) d.last def.rows cursor.slot) c.def-def.ensures in
    let inside = place_there c.rows_stand_in_slots.ensures.place d a cursor place c.self.invariant.came here place_is in
    record {
      there = omega (arith, inside, here.so_far.rows_are);
      within = omega (arith, row_there d a cursor place here inside, c.self.invariant.cursor_is.source_there);
    }

pub advance-requires : goal.advance-requires
advance-requires c =
    let d = coming c.self.inside in
    let cursor = c.self.inside.cursor in
    let is_due : due (filed_in d) ≡ CellDue = ap due c.self.view_is ∙ (c.may_cell.ensures.good c.if-not-may_cell.false).is_due in
    let a = c.get_mut-rra.result.now in
    let here = cell_here c.cells_stand_in_slots.ensures.as_many d a cursor c.self.invariant.came c.self.invariant.cursor_is is_due c.get_mut-rra.ensures.value refl in
    let place = c.place-place.result in
    let place_is : place ≡ place_in (resolution d.step a.def) d.last a.def.rows cursor.slot = c.place-place.ensures ∙ ap (λ (def : RraDef). place_in (resolution d.step def) d.last def.rows cursor.slot) c.def-def.ensures in
    let inside = place_there c.rows_stand_in_slots.ensures.place d a cursor place c.self.invariant.came here place_is in
    record {
      archive_there = omega (arith, here.at.there, c.self.invariant.came.few_archives, c.self.invariant.came.header_is.few_archives, few_archives d.version);
      slot_there = subst (λ (def : RraDef). cursor.slot < def.rows) (sym c.def-def.ensures) here.slot;
      place_there = subst (λ (def : RraDef). place < def.rows) (sym c.def-def.ensures) inside;
      few_rows = subst (λ (def : RraDef). def.rows ≤ present.max_rows) (sym c.def-def.ensures) here.so_far.def_is.few_rows;
      source_there = search rules;
    }

pub invariant_of-self : goal.invariant_of-self
invariant_of-self c =
    let d = coming c.self.inside in
    let cursor = c.self.inside.cursor in
    let may = c.may_cell.ensures.good c.if-not-may_cell.false in
    let is_due : due (filed_in d) ≡ CellDue = ap due c.self.view_is ∙ may.is_due in
    let a = c.get_mut-rra.result.now in
    let here = cell_here c.cells_stand_in_slots.ensures.as_many d a cursor c.self.invariant.came c.self.invariant.cursor_is is_due c.get_mut-rra.ensures.value refl in
    let place = c.place-place.result in
    let place_is : place ≡ place_in (resolution d.step a.def) d.last a.def.rows cursor.slot = c.place-place.ensures ∙ ap (λ (def : RraDef). place_in (resolution d.step def) d.last def.rows cursor.slot) c.def-def.ensures in
    let inside = place_there c.rows_stand_in_slots.ensures.place d a cursor place c.self.invariant.came here place_is in
    let b = with_cell_at a place cursor.source c.args.cell in
    let put = is_put c.cells_stand_in_slots.ensures.as_many c.cells_stand_in_slots.ensures.cell_put d a c.args.cell place cursor c.self.invariant.came here.at.there c.get_mut-rra.ensures.value refl place_is c.self.invariant.cursor_is.source_there (omega (arith, inside, here.so_far.rows_are)) may.bounded in
    let goes : Advances d.sources_due a.def.rows place cursor c.advance.new.self = subst (λ (def : RraDef). Advances d.sources_due def.rows place cursor c.advance.new.self) c.def-def.ensures c.advance.ensures in
    let after = cell_comes c.cells_stand_in_slots.ensures.as_many d a b c.args.cell place cursor c.advance.new.self c.self.invariant.came here.at put refl refl place_is c.self.invariant.cursor_is.source_there here.slot goes in
    record {
      came = subst (λ (x : Rra). IsRebuilding (cell_came d x c.advance.new.self.archive (filled_by d.sources_due c.advance.new.self))) (sym c.set_cell.ensures) after.came;
      cursor_is = subst (λ (x : Rra). IsCursor (cell_came d x c.advance.new.self.archive (filled_by d.sources_due c.advance.new.self)) c.advance.new.self) (sym c.set_cell.ensures) after.cursor_is;
    }

pub returns-clause-ok : goal.returns-clause-ok
returns-clause-ok c =
    let d = coming c.self.inside in
    let cursor = c.self.inside.cursor in
    let may = c.may_cell.ensures.good c.if-not-may_cell.false in
    let is_due : due (filed_in d) ≡ CellDue = ap due c.self.view_is ∙ may.is_due in
    let a = c.get_mut-rra.result.now in
    let here = cell_here c.cells_stand_in_slots.ensures.as_many d a cursor c.self.invariant.came c.self.invariant.cursor_is is_due c.get_mut-rra.ensures.value refl in
    let place = c.place-place.result in
    let place_is : place ≡ place_in (resolution d.step a.def) d.last a.def.rows cursor.slot = c.place-place.ensures ∙ ap (λ (def : RraDef). place_in (resolution d.step def) d.last def.rows cursor.slot) c.def-def.ensures in
    let inside = place_there c.rows_stand_in_slots.ensures.place d a cursor place c.self.invariant.came here place_is in
    let b = with_cell_at a place cursor.source c.args.cell in
    let put = is_put c.cells_stand_in_slots.ensures.as_many c.cells_stand_in_slots.ensures.cell_put d a c.args.cell place cursor c.self.invariant.came here.at.there c.get_mut-rra.ensures.value refl place_is c.self.invariant.cursor_is.source_there (omega (arith, inside, here.so_far.rows_are)) may.bounded in
    let goes : Advances d.sources_due a.def.rows place cursor c.advance.new.self = subst (λ (def : RraDef). Advances d.sources_due def.rows place cursor c.advance.new.self) c.def-def.ensures c.advance.ensures in
    let after = cell_comes c.cells_stand_in_slots.ensures.as_many d a b c.args.cell place cursor c.advance.new.self c.self.invariant.came here.at put refl refl place_is c.self.invariant.cursor_is.source_there here.slot goes in
    (may, ap (λ (x : Rra). filed_in (cell_came d x c.advance.new.self.archive (filled_by d.sources_due c.advance.new.self))) c.set_cell.ensures ∙ (after.filed_is ∙ ap (λ f. with_cell f c.args.cell) c.self.view_is))
