-- Rows that are pushed, and how many rows end while steps pass.
use Rattle.std.specs.Prelude.{◌≡◌, ℕ, ◌+◌, ◌-◌, ◌*◌, ◌/◌, ◌%◌, ◌<◌, ◌≤◌, min, List, [], ◌∷◌, ◌++◌, length, drop, replicate}
use Rattle.rrd_base.proofs.Names.{sym, ◌∙◌, ap, arith, length-append, append_assoc, ⊎_elim, cases_lt, length-replicate, replicate-append-replicate, div-add-mod', div-mul-add, mod_below, keep_last, keep_last-append, keep_last_past, length-keep_last}
use Rattle.rrd_spec.proofs.GroupLemmas.{next_ahead}

-- ---- rows that are pushed

-- one row of many that are pushed
pub push_more : {A : Type 0} (rows : List A) (row : A) (k : ℕ) → drop 1 (keep_last (length rows) (rows ++ replicate k row) ++ row ∷ []) ≡ keep_last (length rows) (rows ++ replicate (k + 1) row)
push_more rows row k =
    let r = length rows in
    let before = rows ++ replicate k row in
    let kept = keep_last r before in
    let enough : r ≤ length before = omega (arith, length-append rows (replicate k row)) in
    let count : length (kept ++ row ∷ []) - r ≡ 1 = omega (arith, length-append kept (row ∷ []), length-keep_last r before enough) in
    cc (count, keep_last-append r before (row ∷ []) enough, append_assoc rows (replicate k row) (row ∷ []) ∙ ap (λ zs. rows ++ zs) (replicate-append-replicate k 1 row))

-- rows that are pushed more often than there are places
pub push_all : {A : Type 0} (rows : List A) (row : A) (k : ℕ) → keep_last (length rows) (rows ++ replicate (min k (length rows)) row) ≡ keep_last (length rows) (rows ++ replicate k row)
push_all rows row k =
    let r = length rows in
    ⊎_elim
    (λ (few : k < r). ap (λ n. keep_last r (rows ++ replicate n row)) {x = min k r} {y = k} (omega arith))
    (λ (many : r ≤ k).
    let split : replicate k row ≡ replicate (k - r) row ++ replicate r row = ap (λ n. replicate n row) {x = k} {y = k - r + r} (omega arith) ∙ sym (replicate-append-replicate (k - r) r row) in
    let past = keep_last_past r (rows ++ replicate (k - r) row) (replicate r row) (omega (arith, length-replicate r row)) in
    ap (λ n. keep_last r (rows ++ replicate n row)) {x = min k r} {y = r} (omega arith)
    ∙ keep_last_past r rows (replicate r row) (omega (arith, length-replicate r row))
    ∙ sym past
    ∙ ap (keep_last r) (append_assoc rows (replicate (k - r) row) (replicate r row) ∙ ap (λ zs. rows ++ zs) (sym split)))
    (cases_lt k r)

-- one that as many others push out again
pub push_past : {A : Type 0} (rows more : List A) (row : A) → length rows ≤ length more → keep_last (length rows) (rows ++ more) ≡ keep_last (length rows) (rows ++ row ∷ more)
push_past rows more row h = cc (keep_last_past (length rows) rows more h, keep_last_past (length rows) (rows ++ row ∷ []) more h, append_assoc rows (row ∷ []) more)

-- ---- a step and many of another

-- the row's end, and what goes past it
pub row_fits : (before m : ℕ) → 0 < m → before % m + 1 + ((before / m + 1) * m - (before + 1)) ≡ m
row_fits before m some = omega (arith, div-add-mod' before m, next_ahead before m some)

past_end : (before count m : ℕ) → 0 < m → (before / m + 1) * m - (before + 1) ≤ count → let more = count - ((before / m + 1) * m - (before + 1)) in before + (1 + count) ≡ (before / m + 1 + more / m) * m + more % m
past_end before count m some h = grind arith

-- how many rows end
pub ended_none : (before count m : ℕ) → 0 < m → count < (before / m + 1) * m - (before + 1) → (before + (1 + count)) / m - before / m ≡ 0
ended_none before count m some h = grind arith

pub ended_some : (before count m : ℕ) → 0 < m → (before / m + 1) * m - (before + 1) ≤ count → (before + (1 + count)) / m - before / m ≡ 1 + (count - ((before / m + 1) * m - (before + 1))) / m
ended_some before count m some h =
    let more = count - ((before / m + 1) * m - (before + 1)) in
    grind (arith, past_end before count m some h, div-mul-add (before / m + 1 + more / m) m (more % m) (mod_below more m some), mod_below more m some)
