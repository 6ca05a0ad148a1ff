use Rattle.rrd_base.proofs.Common.{◌∙◌, sym, ap, arith, Filed, due, unprepared, coming, due_source, due_prep, due_after, due_head, due_cell, due_entry, due_nothing}
use Rattle.rrd_base.proofs.rebuild.Rebuild.due.Goals as goal

pub returns-then-len-self : goal.returns-then-len-self
returns-then-len-self c = sym (due_source (coming c.self.inside) c.self.invariant.came (omega arith)) ∙ ap due c.self.view_is

pub returns-in-Some : goal.returns-in-Some
returns-in-Some c = sym (due_prep (coming c.self.inside) c.in-Some.def c.self.invariant.came (omega arith) (ap (λ (f : Filed). unprepared f.header.sources f.heads) c.self.view_is ∙ sym c.unprepared_archive.ensures ∙ c.in-Some.is)) ∙ ap due c.self.view_is

pub returns-then-archives-self : goal.returns-then-archives-self
returns-then-archives-self c =
    let d = coming c.self.inside in
    let after = due_after d c.self.invariant.came (omega arith) (ap (λ (f : Filed). unprepared f.header.sources f.heads) c.self.view_is ∙ sym c.unprepared_archive.ensures ∙ c.in_default.is) in
    sym (after ∙ due_head d c.self.invariant.came (omega arith)) ∙ ap due c.self.view_is

pub returns-then-self-archives : goal.returns-then-self-archives
returns-then-self-archives c =
    let d = coming c.self.inside in
    let after = due_after d c.self.invariant.came (omega arith) (ap (λ (f : Filed). unprepared f.header.sources f.heads) c.self.view_is ∙ sym c.unprepared_archive.ensures ∙ c.in_default.is) in
    sym (after ∙ due_cell c.cells_stand_in_slots.ensures.as_many d c.self.invariant.came (omega arith) (omega arith)) ∙ ap due c.self.view_is

pub returns-then-len-self-2 : goal.returns-then-len-self-2
returns-then-len-self-2 c =
    let d = coming c.self.inside in
    let after = due_after d c.self.invariant.came (omega arith) (ap (λ (f : Filed). unprepared f.header.sources f.heads) c.self.view_is ∙ sym c.unprepared_archive.ensures ∙ c.in_default.is) in
    sym (after ∙ due_entry c.cells_stand_in_slots.ensures.as_many d c.self.invariant.came (omega arith) (omega arith) (omega arith)) ∙ ap due c.self.view_is

pub returns : goal.returns
returns c =
    let d = coming c.self.inside in
    let after = due_after d c.self.invariant.came (omega arith) (ap (λ (f : Filed). unprepared f.header.sources f.heads) c.self.view_is ∙ sym c.unprepared_archive.ensures ∙ c.in_default.is) in
    sym (after ∙ due_nothing c.cells_stand_in_slots.ensures.as_many d c.self.invariant.came (omega arith) (omega arith) (omega arith)) ∙ ap due c.self.view_is
