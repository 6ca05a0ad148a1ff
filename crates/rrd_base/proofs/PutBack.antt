-- What was kept of many archives is put back, the last archive first.
use Rattle.std.specs.Prelude.{◌≡◌, ℕ, zero, suc, ◌+◌, ◌-◌, ◌<◌, ◌≤◌, List, [], ◌∷◌, ◌++◌, length, take, drop}
use Rattle.rrd_base.proofs.Names.{refl, sym, ◌∙◌, ap, get_or, set, arith, append-nil, drop_all, length-take, take_all, AllByRecursion, width, Rra, SavedArchive, put_back, put_back_each, IsValidArchive, FitsArchive, FitEach, CanPutBack, CanPutBackEach}
use Rattle.rrd_base.proofs.RraLemmas.{width_is}

-- the last one of a front, and what is before it
pub last_at : {A : Type 0} (k : ℕ) (xs : List A) (d : A) → get_or (take (suc k) xs) k d ≡ get_or xs k d
last_at k [] d = refl
last_at zero (x ∷ xs) d = refl
last_at (suc k) (x ∷ xs) d = last_at k xs d

pub front_of : {A : Type 0} (k : ℕ) (xs : List A) → take k (take (suc k) xs) ≡ take k xs
front_of k [] = refl
front_of zero (x ∷ xs) = refl
front_of (suc k) (x ∷ xs) = ap (λ ys. x ∷ ys) (front_of k xs)

pub front_short : {A : Type 0} (n : ℕ) (xs ys : List A) → ys ≡ take n xs → length ys ≡ n → n ≤ length xs
front_short {A = A} n xs ys e h = omega (arith, ap length e, length-take {A = A} n xs)

-- the last one that was popped of a front
pub popped : {A : Type 0} (n k : ℕ) (xs ys : List A) (x : A) → ys ≡ take n xs → n ≡ k + 1 → x ≡ get_or ys (n - 1) x → x ≡ get_or xs k x
popped n k xs ys x e count last = cc (last, e, ap (λ m. get_or (take m xs) (m - 1) x) {x = n} {y = suc k} (omega arith), ap (λ m. get_or (take (suc k) xs) m x) {x = suc k - 1} {y = k} (omega arith), last_at k xs x)

-- the archive whose turn it is
pub put_back_next : (k : ℕ) (archives : List Rra) (olds : List SavedArchive) (d : Rra) → k < length archives → get_or (take (suc k) archives ++ put_back_each (drop (suc k) archives) (drop (suc k) olds)) k d ≡ get_or archives k d
put_back_next k [] olds d h = absurd (omega arith)
put_back_next zero (archive ∷ archives) olds d h = refl
put_back_next (suc k) (archive ∷ archives) olds d h = grind (arith, put_back_next k archives, put_back_next k archives olds d (omega arith))

-- one archive more
pub put_back_more : (k : ℕ) (archives : List Rra) (saved : List SavedArchive) (d new : Rra) (s : SavedArchive) → k < length archives → k < length saved → new ≡ put_back (get_or archives k d) (get_or saved k s) → set (take (suc k) archives ++ put_back_each (drop (suc k) archives) (drop (suc k) saved)) k new ≡ take k archives ++ put_back_each (drop k archives) (drop k saved)
put_back_more zero (archive ∷ archives) (old ∷ saved) d new s h m e = ap (λ first. first ∷ put_back_each archives saved) e
put_back_more (suc k) (archive ∷ archives) (old ∷ saved) d new s h m e = ap (λ rest. archive ∷ rest) (put_back_more k archives saved d new s (omega arith) (omega arith) e)
put_back_more k x saved d new s h m e = absurd (omega arith)

-- nothing is back yet
pub none_back : (n : ℕ) (archives : List Rra) (saved : List SavedArchive) → length archives ≤ n → archives ≡ take n archives ++ put_back_each (drop n archives) (drop n saved)
none_back n archives saved h = grind (arith, drop_all, append-nil, take_all)

-- what is asked, at a place
pub as_many : (archives : List Rra) (saved : List SavedArchive) → CanPutBackEach archives saved → length saved ≡ length archives
as_many [] [] can = refl
as_many (archive ∷ archives) (old ∷ saved) can = ap suc (as_many archives saved can.1)
as_many x y can = absurd can

pub can_at : (k : ℕ) (archives : List Rra) (saved : List SavedArchive) (d : Rra) (s : SavedArchive) → CanPutBackEach archives saved → k < length archives → CanPutBack (get_or archives k d) (get_or saved k s)
can_at k [] saved d s can h = absurd (omega arith)
can_at k (archive ∷ archives) [] d s can h = absurd can
can_at zero (archive ∷ archives) (old ∷ saved) d s can h = can.0
can_at (suc k) (archive ∷ archives) (old ∷ saved) d s can h = can_at k archives saved d s can.1 (omega arith)

-- ---- what callers know

-- what a journal holds of valid archives can be put back
can_put_back : (step sources steps from to : ℕ) (archive : Rra) (old : SavedArchive) → IsValidArchive sources steps archive → FitsArchive step sources from to archive old → CanPutBack archive old
can_put_back step sources steps from to archive old is fits =
    let wide : width archive.rows ≡ sources = width_is sources archive.rows (omega (arith, is.some_rows, is.rows_are)) is.each_row in
    record {
      same_function = fits.same_function;
      as_many_parts = fits.one_part_each ∙ sym is.parts_are.one_each;
      few = omega (arith, fits.as_many, is.rows_are);
      one_width = rw wide fits.one_cell_each;
    }

pub can_put_back_each : (step sources steps from to : ℕ) (archives : List Rra) (olds : List SavedArchive) → AllByRecursion (IsValidArchive sources steps) archives → FitEach step sources from to archives olds → CanPutBackEach archives olds
can_put_back_each step sources steps from to [] olds is fit = grind arith
can_put_back_each step sources steps from to (archive ∷ archives) [] is fit = fit
can_put_back_each step sources steps from to (archive ∷ archives) (old ∷ olds) is fit = grind (arith, can_put_back step sources steps from to archive old is.0 fit.0, can_put_back_each step sources steps from to archives olds is.1 fit.1)
