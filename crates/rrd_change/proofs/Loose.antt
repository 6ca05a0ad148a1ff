-- Lemmas on repairs of files with a mark.
use Rattle.rrd_change.proofs.Names.{◌≡◌, ◌⊎◌, ℕ, List, length, get_or, ap, arith, inl, inr, ArePut, AreWholeOrNot, IsTorn, IsUnderCut, IsCutLeft, IsLoose, IsUncut, IsDatabase, IsPlain, All, Fails, Stores, World, common_steps}
use Rattle.rrd_change.proofs.Holding.{fails_disk, unless}
use Rattle.rrd_change.proofs.Marking.{cut_under}
use Rattle.rrd_change.proofs.Settling.{cut_front_of, cut_placed, length-front}

pub under_loose : (other now f : List ℕ) → IsUnderCut now f → IsLoose other now f
under_loose other now f h = grind arith

pub plain_loose : (other now f : List ℕ) → IsDatabase now → IsPlain now f → IsLoose other now f
plain_loose other now f is (inl e) = record { reaches = omega (arith, ap length e); placed = λ k high low. ap (λ xs. get_or xs k 0) e; stands = inr (inl e) }
plain_loose other now f is (inr e) = under_loose other now f (cut_under now f is e)

held_loose : (other now f : List ℕ) → IsDatabase now → (f ≡ now) ⊎ IsUnderCut now f → IsLoose other now f
held_loose other now f is (inl e) = plain_loose other now f is (inl e)
held_loose other now f is (inr h) = under_loose other now f h

-- the first sixteen bytes are written

front_put : (other now x f : List ℕ) → IsDatabase now → IsLoose other now x → ArePut 0 (cut_front_of now) x f → IsUnderCut now f
front_put other now x f is h put = cut_placed now x f is h.reaches h.placed put

pub front_stored : (other now : List ℕ) (u v : World) → Stores (ArePut 0 (cut_front_of now)) u v → IsUncut other now u → All (IsUnderCut now) v
front_stored other now u v s h = grind (arith, common_steps, front_put other now u.held v.held h.is (held_loose other now u.held h.is h.held) s.held, held_loose other now u.held h.is h.held, front_put other now)

pub front_failed : (other now : List ℕ) (u v : World) → Fails (AreWholeOrNot 0 (cut_front_of now)) (IsTorn 0 (cut_front_of now)) u v → IsUncut other now u → IsUncut other now v
front_failed other now u v f h = grind (arith, common_steps, front_put other now, unless (IsLoose other now), under_loose other now, fails_disk (IsLoose other now) (IsLoose other now), length-front now h.is.enough, unless, held_loose other now u.held h.is h.held)

-- ---- what is left

pub under_uncut : (other now : List ℕ) (w : World) → IsDatabase now → All (IsUnderCut now) w → IsUncut other now w
under_uncut other now w is a = grind arith

plain_held : (now f : List ℕ) → IsDatabase now → IsPlain now f → (f ≡ now) ⊎ IsUnderCut now f
plain_held now f is h = grind arith

pub plain_uncut : (other now : List ℕ) (w : World) → IsDatabase now → All (IsPlain now) w → IsUncut other now w
plain_uncut other now w is a = grind (arith, common_steps, plain_held now w.held is a.held, plain_loose other now)

-- the mark that programs read stays
pub front_under : (other now : List ℕ) (u v : World) → Fails (AreWholeOrNot 0 (cut_front_of now)) (IsTorn 0 (cut_front_of now)) u v → IsCutLeft other now u → IsCutLeft other now v
front_under other now u v f h = grind (arith, common_steps, front_put, under_loose, front_failed other now u v f h.uncut)
