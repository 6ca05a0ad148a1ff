-- Where a text is cut at its first point.
use Rattle.rrd_fixed.proofs.Names.{◌≡◌, ℕ, ◌+◌, List, Some, None, take, drop, arith, ltb-false, list_any_at, list_any_none, position-Some, fails_before_first, position, is_point, plain_of, pointed_of, unsigned_of, common_steps}

pub unsigned_plain : (xs : List ℕ) → position is_point xs ≡ None → unsigned_of xs ≡ plain_of xs
unfolding unsigned_of
unsigned_plain xs e = grind (arith, common_steps, ltb-false, list_any_none, fails_before_first)

pub unsigned_pointed : (xs : List ℕ) (i : ℕ) → position is_point xs ≡ Some i → unsigned_of xs ≡ pointed_of (take i xs) (drop (i + 1) xs)
unfolding unsigned_of
unsigned_pointed xs i e = grind (arith, common_steps, position-Some is_point xs i 0 e, list_any_at is_point xs i 0)
