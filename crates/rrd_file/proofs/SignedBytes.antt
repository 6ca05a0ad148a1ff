-- Sixteen bytes and the number that they stand for: a number has one spelling.
use Rattle.std.specs.Prelude.{◌≡◌, ℕ, ◌+◌, ◌*◌, ◌/◌, ◌%◌, ◌^◌, ◌<◌, List, [], ◌∷◌, ◌++◌, length, ℤ}
use Rattle.rrd_file.proofs.Names.{get_or, refl, arith, w64, w128, to_be_bytes, SFits, signed_bytes}

pub halves : (n q r : ℕ) → n ≡ q * 2 ^ 64 + r → r < 2 ^ 64 → to_be_bytes w128 n ≡ to_be_bytes w64 q ++ to_be_bytes w64 r
halves n q r is small =
    let b5 : n / 1099511627776 % 256 ≡ r / 1099511627776 % 256 = omega arith in
    grind arith

-- the value of 16 bytes is that of their halves
abbrev pub upper : List ℕ → List ℕ
upper bs = get_or bs 0 0 ∷ get_or bs 1 0 ∷ get_or bs 2 0 ∷ get_or bs 3 0 ∷ get_or bs 4 0 ∷ get_or bs 5 0 ∷ get_or bs 6 0 ∷ get_or bs 7 0 ∷ []

abbrev pub lower : List ℕ → List ℕ
lower bs = get_or bs 8 0 ∷ get_or bs 9 0 ∷ get_or bs 10 0 ∷ get_or bs 11 0 ∷ get_or bs 12 0 ∷ get_or bs 13 0 ∷ get_or bs 14 0 ∷ get_or bs 15 0 ∷ []

-- a number has one spelling
pub signed_one : (y z : ℤ) → SFits w128 y → SFits w128 z → signed_bytes y ≡ signed_bytes z → y ≡ z
unfolding signed_bytes
signed_one y z fy fz same = grind arith

pub signed_length : (z : ℤ) → length (signed_bytes z) ≡ 16
unfolding signed_bytes
signed_length z = refl
