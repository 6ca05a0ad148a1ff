use Rattle.rrd_fixed.proofs.Common.{◌≡◌, ◌≢◌, refl, ℕ, ◌<◌, List, [], ◌∷◌, length, get_or, arith, common_steps, number_of, unsigned_of}
use Rattle.rrd_fixed.proofs.number.read_number.Goals as goal
use Rattle.rrd_fixed.proofs.number.read_number.Goals.{in_default-via-then-bytes-lt1, in_default-via-else-bytes-lt1+in_default-1}

number_of_none : (bs : List ℕ) → length bs < 1 → number_of bs ≡ unsigned_of bs
unfolding number_of unsigned_of
number_of_none [] short = refl
number_of_none (b ∷ bs) short = absurd (omega arith)

number_of_plain : (bs : List ℕ) → get_or bs 0 0 ≢ 45 → number_of bs ≡ unsigned_of bs
unfolding number_of unsigned_of
number_of_plain [] other = refl
number_of_plain (b ∷ bs) other = grind (arith, common_steps)

pub returns-in_default : goal.returns-in_default
returns-in_default c = grind (arith, common_steps, in_default-via-then-bytes-lt1, number_of_none, in_default-via-else-bytes-lt1+in_default-1, number_of_plain)
