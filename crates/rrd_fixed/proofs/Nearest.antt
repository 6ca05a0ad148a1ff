-- The same by a whole number that is positive.
use Rattle.rrd_fixed.proofs.Names.{ℕ, ◌*◌, ◌≤◌, ℤ, pos, negsuc, ◌≤ℤ◌, unsigned_abs, arith, ints, near_limit, near}

pub near_limit_of : (a b : ℤ) (t : ℕ) → pos 1 ≤ℤ b → unsigned_abs a ≤ unsigned_abs b * t → unsigned_abs (near a b) ≤ t
near_limit_of a (pos b) t some h = near_limit a b t (omega (arith, ints)) h
near_limit_of a (negsuc b) t some h = absurd (omega (arith, ints))
