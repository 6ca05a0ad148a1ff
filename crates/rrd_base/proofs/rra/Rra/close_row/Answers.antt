use Rattle.rrd_base.proofs.Common.{◌≡◌, sym, ◌∙◌, ap, subst, ◌≤◌, List, length, map, replicate, arith, with_items_is, length-map, AllByRecursion, Consolidating, Part, nothing, row_cell, Rra, anew, row_of, AllOf, AllOf-anew, shown, closes, parts_fit, row_of_parts}
use Rattle.rrd_base.proofs.rra.Rra.close_row.Goals as goal

pub close_rows-requires-clause-fits : goal.close_rows-requires-clause-fits
close_rows-requires-clause-fits c =
    let a = c.self.inside in
    let fits = subst (λ (x : Rra). AllByRecursion (λ (p : Part). p.known ≤ x.def.steps) x.parts) (sym c.self.view_is) c.requires.fits in
    subst (λ (preps : List Consolidating). AllByRecursion (λ (prep : Consolidating). prep.part.known ≤ a.def.steps) preps) (sym c.deref_mut.ensures.value)
    (parts_fit a.def.steps a.preps.items fits)

pub invariant_of-self : goal.invariant_of-self
invariant_of-self c =
    let a = c.self.inside in
    let now = with_items_is a.preps c.close_rows.new.preps (omega arith) ∙ c.close_rows.ensures.anew ∙ ap (map anew) c.deref_mut.ensures.value in
    subst (AllOf a.def.function) (sym now) (AllOf-anew a.def.function a.preps.items c.self.invariant)

pub returns-clause-value : goal.returns-clause-value
returns-clause-value c =
    let a = c.self.inside in
    let n = length c.args.row.now in
    let now = with_items_is a.preps c.close_rows.new.preps (omega arith) ∙ c.close_rows.ensures.anew ∙ ap (map anew) c.deref_mut.ensures.value in
    let as_many : length a.preps.items ≡ n = sym (length-map a.preps.items (λ (prep : Consolidating). prep.part)) ∙ ap (λ (x : Rra). length x.parts) c.self.view_is ∙ sym c.requires.places in
    ap (λ preps. shown a.def preps a.rows) now
    ∙ closes a.def n a.preps.items a.rows as_many
    ∙ ap (λ (x : Rra). let y : Rra = record x { parts = replicate n nothing } in y) c.self.view_is

pub returns-clause-cells : goal.returns-clause-cells
returns-clause-cells c =
    let a = c.self.inside in
    c.close_rows.ensures.cells
    ∙ ap (map (row_of a.def.xff a.def.steps)) c.deref_mut.ensures.value
    ∙ row_of_parts a.def.function a.def.xff a.def.steps a.preps.items c.self.invariant
    ∙ ap (λ (x : Rra). map (row_cell x.def.function x.def.xff x.def.steps) x.parts) c.self.view_is
