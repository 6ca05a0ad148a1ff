use Rattle.rrd_base.proofs.Common.{◌≡◌, ◌∙◌, List, ◌∷◌, take, take_all, sym, ap, subst, arith, Outline, limits_of, outline_undone, MayUndo, MayEntry, with_entry, Entry, entry_of, Coming, IsRebuilding, coming, filed_in, EntryValidator, at_entry, entry_came, entry_is, entry_keeps, fits, left_valid}
use Rattle.rrd_base.proofs.rebuild.Rebuild.entry.Goals as goal

pub undo-requires-clause-good : goal.undo-requires-clause-good
undo-requires-clause-good c =
    let d = coming c.self.inside in
    let e = c.args.entry in
    let may = c.may_entry.ensures.good c.if-not-may_entry.false in
    let here : MayEntry (filed_in d) (entry_of e) = subst (λ f. MayEntry f (entry_of e)) (sym c.self.view_is) may in
    let at = at_entry c.cells_stand_in_slots.ensures.as_many d c.self.invariant.came here.is_due in
    let may_undo : MayUndo (limits_of d.version) d.step d.validator.outline (entry_of e) = subst (λ (o : Outline). MayUndo (limits_of d.version) d.step o (entry_of e)) (sym (ap (λ (j : EntryValidator). j.outline) c.self.invariant.came.validator_is)) here.fits in
    let now : Coming = entry_came d e (outline_undone d.validator.outline (entry_of e)) in
    let keeps : IsRebuilding now = entry_keeps c.outlines_judge_journals.ensures.takes c.outlines_follow.ensures.filed d e c.self.invariant.came at may_undo in
    fits d.version now.validator.outline (left_valid c.outlines_follow.ensures.undone c.outlines_follow.ensures.filed c.journals_in_pieces.ensures.leaves now keeps at.sources (record { all = at.heads.all; prepared = at.heads.prepared }))

pub invariant_of-self : goal.invariant_of-self
invariant_of-self c =
    let d = coming c.self.inside in
    let e = c.args.entry in
    let may = c.may_entry.ensures.good c.if-not-may_entry.false in
    let here : MayEntry (filed_in d) (entry_of e) = subst (λ f. MayEntry f (entry_of e)) (sym c.self.view_is) may in
    let at = at_entry c.cells_stand_in_slots.ensures.as_many d c.self.invariant.came here.is_due in
    let fits : MayUndo (limits_of d.version) d.step d.validator.outline (entry_of e) = subst (λ (o : Outline). MayUndo (limits_of d.version) d.step o (entry_of e)) (sym (ap (λ (j : EntryValidator). j.outline) c.self.invariant.came.validator_is)) here.fits in
    let now : Coming = entry_came d e (outline_undone d.validator.outline (entry_of e)) in
    let room : take d.places (e ∷ d.journal) ≡ e ∷ d.journal = take_all d.places (e ∷ d.journal) (omega (arith, at.more, c.self.invariant.came.header_is.few_entries, c.self.invariant.came.places)) in
    let keeps : IsRebuilding now = entry_keeps c.outlines_judge_journals.ensures.takes c.outlines_follow.ensures.filed d e c.self.invariant.came at fits in
    rw (c.push_front-oldest.ensures.items, c.undo.ensures) (record {
      came = subst (λ (j : List Entry). IsRebuilding (record now { journal = j })) (sym room) keeps;
      cursor_is = record { source_there = c.self.invariant.cursor_is.source_there; knows_place = c.self.invariant.cursor_is.knows_place };
    })

pub returns-clause-ok : goal.returns-clause-ok
returns-clause-ok c =
    let d = coming c.self.inside in
    let e = c.args.entry in
    let may = c.may_entry.ensures.good c.if-not-may_entry.false in
    let here : MayEntry (filed_in d) (entry_of e) = subst (λ f. MayEntry f (entry_of e)) (sym c.self.view_is) may in
    let at = at_entry c.cells_stand_in_slots.ensures.as_many d c.self.invariant.came here.is_due in
    let now : Coming = entry_came d e (outline_undone d.validator.outline (entry_of e)) in
    let room : take d.places (e ∷ d.journal) ≡ e ∷ d.journal = take_all d.places (e ∷ d.journal) (omega (arith, at.more, c.self.invariant.came.header_is.few_entries, c.self.invariant.came.places)) in
    rw (c.push_front-oldest.ensures.items)
    (may, ap (λ (j : List Entry). filed_in (record now { journal = j })) room ∙ (entry_is d e (outline_undone d.validator.outline (entry_of e)) ∙ ap (λ f. with_entry f (entry_of e)) c.self.view_is))
