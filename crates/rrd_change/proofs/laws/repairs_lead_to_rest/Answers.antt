use Rattle.rrd_change.proofs.Common.{arith, ◌≡◌, ℕ, List, ap, sym, ◌∙◌, database_of, IsWhole, IsFound, IsLeft, LogEnd, settled, World, does_as, stands, left_held}
use Rattle.rrd_change.proofs.laws.repairs_lead_to_rest.Goals as goal

pub returns : goal.returns
returns g c =
    let found = c.in_ok-found.found in
    let bytes = c.args.bytes.items in
    let end_of : List ℕ → ℕ = g.L.Layout.end_of in
    let is : (end : LogEnd) (other now : List ℕ) (w : World) → IsWhole end_of now → w.held ≡ bytes → IsLeft end other now w → database_of found ≡ now = λ end other now w whole held left.
    c.in_ok-found.ensures.database ∙ ap (λ xs. settled end_of xs) (sym held) ∙ stands end_of now w.held whole (left_held end other now w left) in
    let is_found : (end : LogEnd) (other now : List ℕ) (w : World) → IsWhole end_of now → w.held ≡ bytes → IsLeft end other now w → IsFound end other now found.mark w = λ end other now w whole held left. grind arith in
    does_as _ _ _ _ c.repair.result _ _
    (λ x u v s end other now whole held left. s end other now (is end other now u whole held left) (is_found end other now u whole held left))
    (λ u v s end other now whole held left. s end other now (is end other now u whole held left) (is_found end other now u whole held left)) c.repair.ensures
