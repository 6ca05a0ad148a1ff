-- What a test of two parts says of each.
use Rattle.std.proofs.Common.{arith}
use Rattle.std.specs.Prelude.{◌≡◌, Bool, true, false, ◌&&◌, ◌||◌}

pub and_left : (a b : Bool) → (a && b) ≡ true → a ≡ true
and_left a b e = grind arith

pub and_right : (a b : Bool) → (a && b) ≡ true → b ≡ true
and_right a b e = grind arith

pub or_left : (a b : Bool) → (a || b) ≡ false → a ≡ false
or_left a b e = grind arith

pub or_right : (a b : Bool) → (a || b) ≡ false → b ≡ false
or_right a b e = grind arith
