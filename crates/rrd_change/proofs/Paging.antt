-- Lemmas on a file of one page, which one write replaces.
use Rattle.rrd_change.proofs.Names.{◌≡◌, ℕ, ◌≤◌, List, length, ◌∙◌, arith, inl, inr, Result, ext_get_or, ArePut, AreWholeOrNot, IsStopped, Whole, Began, IsAtRest, IsDatabase, Does, Moves, View, World, seen, Never, Base, common_steps}
use Rattle.rrd_change.proofs.Marking.{put_front}

-- a call on a file that is never synced: nothing is said of the disk
pub record Puts (call : List ℕ → List ℕ → Type 0) (old new : World) : Type 0 where
  pub held : call old.held new.held
  pub leave : (c : List ℕ) → new.may_leave c → ⊥
  pub keep : (c : List ℕ) → new.may_keep c → ⊥

pub never_does : {A E : Type 0} (c e t : List ℕ → List ℕ → Type 0) (r : Result A E) (old new : View) → Does (λ x. Moves c t) (Moves e t) r old new →
    Does (λ x. Puts c) (Puts e) r (seen Never old) (seen Never new)
never_does c e t r old new s = grind arith

put_whole : (new x f : List ℕ) → length x ≤ length new → ArePut 0 new x f → f ≡ new
put_whole new x f few p = ext_get_or 0 f new (omega (arith, p.len, few)) (λ k low. put_front new x f k p (omega (arith, low, p.len, few)))

module _ (base : Base) (old new : List ℕ) (longer : base.length ≤ length new) (began : Began base old) (is : IsDatabase new) where
  page_held : (u v : World) → ArePut 0 new u.held v.held → IsAtRest old u → v.held ≡ new
  page_held u v p rest = grind (arith, put_whole)

  at_rest : (bytes : List ℕ) (v : World) → IsDatabase bytes → v.held ≡ bytes → ((c : List ℕ) → v.may_leave c → ⊥) → ((c : List ℕ) → v.may_keep c → ⊥) → IsAtRest bytes v
  at_rest bytes v database held leave keep = grind (arith, common_steps)

  pub page_put : (u v : World) → Puts (ArePut 0 new) u v → IsAtRest old u → IsAtRest new v
  page_put u v m rest = at_rest new v is (page_held u v m.held rest) m.leave m.keep

  page_or_not : (u v : World) → AreWholeOrNot 0 new u.held v.held → IsAtRest old u → ((c : List ℕ) → v.may_leave c → ⊥) → ((c : List ℕ) → v.may_keep c → ⊥) → IsStopped Whole old new v
  page_or_not u v (inl same) rest leave keep = inl (inl (at_rest old v began.is (same ∙ rest.world.held) leave keep))
  page_or_not u v (inr p) rest leave keep = inr (inl (at_rest new v is (page_held u v p rest) leave keep))

  pub page_failed : (u v : World) → Puts (AreWholeOrNot 0 new) u v → IsAtRest old u → IsStopped Whole old new v
  page_failed u v m rest = page_or_not u v m.held rest m.leave m.keep
