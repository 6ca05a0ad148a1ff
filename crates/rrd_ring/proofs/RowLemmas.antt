-- Lists of rows: their width, and a row that is written.
use Rattle.std.proofs.lemmas.Grind.{common_steps}
use Rattle.rrd_ring.proofs.Names.{◌≡◌, ap, ℕ, ◌+◌, ◌<◌, ◌≤◌, List, ◌++◌, length, get_or, set, take, drop, arith, append_assoc, set_at, length-take-le, take_all, drop_all, append-nil, take_more, drop_more, refill, Cell, nth_row, with_row, HasWidth, AreDropped, max_rows}

-- ---- the width of rows

pub AreDropped-from_width : (w : ℕ) (xs : List (List Cell)) → HasWidth w xs → length xs ≤ max_rows → AreDropped xs
AreDropped-from_width w xs h few = grind arith

-- ---- a row is written

-- as many cells are all written
pub refill_same : {A : Type 0} (xs ws : List A) → length ws ≡ length xs → refill (length xs) xs ws ≡ ws
refill_same xs ws e = rw (drop_all (length ws) xs (omega arith), append-nil, ← e) (take_all (length ws) ws (omega arith))

pub with_row-same_width : (xs : List (List Cell)) (i : ℕ) (cells : List Cell) → length cells ≡ length (nth_row xs i) → with_row xs i cells ≡ set xs i cells
with_row-same_width xs i cells e = ap (set xs i) (refill_same (nth_row xs i) cells e)

-- cell by cell

pub copied_more : {A : Type 0} (xs ys : List A) (i : ℕ) (d : A) → i < length xs → i < length ys → set (take i xs ++ drop i ys) i (get_or xs i d) ≡ take (i + 1) xs ++ drop (i + 1) ys
copied_more xs ys i d h k = grind (arith, common_steps, drop_more ys i d k, set_at (take i xs) (get_or ys i d) (drop (i + 1) ys) (get_or xs i d) i, length-take-le i xs, take_more xs i d h, append_assoc)
