-- Law: the width of rows that are joined or cut.
use Rattle.std.specs.Prelude.{◌≡◌, ◌++◌, ◌∷◌, ◌<◌, [], ℕ, zero, suc, List, drop, length}
use Rattle.std.proofs.Math.Nat.{lt_irrefl}
use Rattle.rrd_fixed.specs.declared.cell.Cell.{Cell}
use Rattle.rrd_ring.specs.Rows.{HasWidth, width}

pub HasWidth-append : (w : ℕ) (xs ys : List (List Cell)) → HasWidth w xs → HasWidth w ys → HasWidth w (xs ++ ys)
HasWidth-append w [] ys h k = k
HasWidth-append w (x ∷ xs) ys h k = (h.0, HasWidth-append w xs ys h.1 k)

pub HasWidth-drop : (w n : ℕ) (xs : List (List Cell)) → HasWidth w xs → HasWidth w (drop n xs)
HasWidth-drop w zero xs h = h
HasWidth-drop w (suc n) [] h = tt
HasWidth-drop w (suc n) (x ∷ xs) h = HasWidth-drop w n xs h.1

-- if there is a row, and all rows have w cells, the width is w
pub width_is : (w : ℕ) (xs : List (List Cell)) → HasWidth w xs → 0 < length xs → width xs ≡ w
width_is w [] h k = absurd (lt_irrefl 0 k)
width_is w (x ∷ xs) h k = h.0
