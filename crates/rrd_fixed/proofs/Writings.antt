-- A write in several calls.
use Rattle.rrd_fixed.proofs.Names.{◌≡◌, ℕ, List, Option, take, drop, length, length-drop, arith, ◌-◌, ◌<◌, Appends, Keeps, take-append-drop, take_all, drop-cons, AppendsFront, common_steps}

-- a fault after k bytes, before the last, leaves a front
pub front_kept : (a b c : Option (List ℕ)) (bs : List ℕ) (k : ℕ) → k < length bs → Appends a b (take k bs) → Keeps b c → AppendsFront a c bs
front_kept a b c bs k below p q = grind (arith, common_steps, take-append-drop k bs, drop-cons bs k 0 below)

pub take_rest : (k : ℕ) (xs : List ℕ) → take (length xs - k) (drop k xs) ≡ drop k xs
take_rest k xs = take_all (length xs - k) (drop k xs) (omega (arith, length-drop k xs))
