use Rattle.rrd_change.proofs.Common.{◌≡◌, ℕ, List, sym, subst, ◌∙◌, IsCutLeft, IsFound, IsLeft, IsLogFound, LogEnd, IsAtRest, World, Mark, does_as, found_cut, found_log, missing_rests, does_of, nothing}
use Rattle.rrd_change.proofs.finding.FoundDatabase.repair.Goals as goal

pub returns-in-Missing : goal.returns-in-Missing
returns-in-Missing g c =
    nothing _ _ (λ w end other now e h. let P : Mark → Type 0 = λ m. IsFound end other now m w in missing_rests end other now w (subst P c.in-Missing.is h))

pub returns-in-Cut : goal.returns-in-Cut
returns-in-Cut g c =
    let found = c.database.result.now in
    let cut : (end : LogEnd) (other now : List ℕ) (u : World) → found ≡ now → IsFound end other now c.args.self.now.mark u → IsCutLeft other found u = λ end other now u e h.
    subst (λ (xs : List ℕ). IsCutLeft other xs u) (sym e) (found_cut end other now u (subst (λ (m : Mark). IsFound end other now m u) c.in-Cut.is h)) in
    does_as _ _ _ _ c.finish_cut.result _ _
    (λ x u v s end other now e h. let P : List ℕ → Type 0 = λ xs. IsAtRest xs v in let same = c.database.ensures ∙ e in subst P same (s other (cut end other now u same h).uncut))
    (λ u v s end other now e h.
    let same = c.database.ensures ∙ e in
    subst (λ (xs : List ℕ). IsLeft end other xs v) same (s end other (cut end other now u same h)))
    (does_of _ _ _ _ c.finish_cut.result _ _ c.finish_cut.ensures.uncut c.finish_cut.ensures.left)

pub returns-in-Log : goal.returns-in-Log
returns-in-Log g c =
    let found = c.database-in-Log.result.now in
    let log = c.in-Log.log in
    let left : (end : LogEnd) (other now : List ℕ) (u : World) → found ≡ now → IsFound end other now c.args.self.now.mark u → IsLogFound end other found log u = λ end other now u e h.
    subst (λ (xs : List ℕ). IsLogFound end other xs log u) (sym e) (found_log end other now log u (subst (λ (m : Mark). IsFound end other now m u) c.in-Log.is h)) in
    does_as _ _ _ _ c.finish_log.result _ _
    (λ x u v s end other now e h. let P : List ℕ → Type 0 = λ xs. IsAtRest xs v in let same = c.database-in-Log.ensures ∙ e in subst P same (s end other (left end other now u same h)))
    (λ u v s end other now e h. let P : List ℕ → Type 0 = λ xs. IsLeft end other xs v in let same = c.database-in-Log.ensures ∙ e in subst P same (s end other (left end other now u same h)))
    c.finish_log.ensures
