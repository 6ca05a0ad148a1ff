-- Archives that a tune adds and removes: what is left, and the lists of archives.
use Rattle.std.specs.Prelude.{◌≡◌, ℕ, zero, suc, ◌+◌, ◌-◌, ◌*◌, ◌/◌, ◌<◌, ◌≤◌, List, [], ◌∷◌, ◌++◌, length, map, take, drop, Option, Some, None, sum}
use Rattle.rrd_spec.proofs.Names.{refl, sym, ◌∙◌, ap, get_or, arith, length-append, drop-map, length-drop, length-take, length_push, map-append, take-map, take_at, sum_by-cons, sum_by-take-le, mul-le, insert, remove, AllByRecursion, option_map_or, RraDef, Tuning, ArchiveTune, Add, Remove, Limits, Rra, Content, Tuned, IsBase, content, new_archive, TuningBy, archive_event, moved, rows_of_archives, settings_of, tuned, verdict, IsValidArchiveWithin, IsValidWithin}
use Rattle.rrd_spec.proofs.Accepted.{some_of_archive, tune_passes}
use Rattle.rrd_spec.proofs.LivesPlain.{add_changes, remove_changes}

-- ---- lists

-- without the one that was added last
pub without_added : {A : Type 0} (xs : List A) (x : A) → take (length (xs ++ x ∷ []) - 1) (xs ++ x ∷ []) ≡ xs
without_added xs x = take_at xs (x ∷ []) (length (xs ++ x ∷ []) - 1) (omega (arith, length_push xs x))

-- the one that was removed is put in again
pub put_in_again : {A : Type 0} (xs : List A) (n : ℕ) (d : A) → n < length xs → insert (remove xs n) n (get_or xs n d) ≡ xs
put_in_again [] n d h = absurd (omega arith)
put_in_again (x ∷ xs) zero d h = refl
put_in_again (x ∷ xs) (suc n) d h = ap (λ ys. x ∷ ys) (put_in_again xs n d (omega arith))

pub inserted : {A : Type 0} (P : A → Type 0) (xs : List A) (n : ℕ) (x : A) → n ≤ length xs → AllByRecursion P (insert xs n x) → P x
inserted P [] (suc n) x h is = absurd (omega arith)
inserted P (y ∷ xs) (suc n) x h is = inserted P xs n x (omega arith) is.1
inserted P y zero x h is = is.0

pub length-insert : {A : Type 0} (xs : List A) (n : ℕ) (x : A) → n ≤ length xs → length (insert xs n x) ≡ length xs + 1
length-insert xs n x h = omega (arith, length-append (take n xs) (x ∷ drop n xs), length-take n xs, length-drop n xs)

pub map-insert : {A B : Type 0} (g : A → B) (xs : List A) (n : ℕ) (x : A) → map g (insert xs n x) ≡ insert (map g xs) n (g x)
map-insert g xs n x = cc (map-append g (take n xs) (x ∷ drop n xs), take-map g n xs, drop-map g n xs)

sum-removed : (rows : List ℕ) (n : ℕ) → sum (remove rows n) ≤ sum rows
sum-removed [] zero = omega arith
sum-removed [] (suc n) = omega arith
sum-removed (row ∷ rows) zero = omega (arith, sum_by-cons (λ x. x) row rows)
sum-removed (row ∷ rows) (suc n) =
    omega (arith, sum-removed rows n, sum_by-cons (λ x. x) row rows, sum_by-cons (λ x. x) row (remove rows n))

sum-taken : (rows : List ℕ) (n : ℕ) → sum (take n rows) ≤ sum rows
sum-taken rows n = sum_by-take-le (λ x. x) rows n

-- one more
pub sum-insert : (rows : List ℕ) (n row : ℕ) → sum (insert rows n row) ≡ sum rows + row
sum-insert [] zero row = omega (arith, sum_by-cons (λ x. x) row [])
sum-insert [] (suc n) row = omega (arith, sum_by-cons (λ x. x) row [])
sum-insert (r ∷ rows) zero row = omega (arith, sum_by-cons (λ x. x) row (r ∷ rows))
sum-insert (r ∷ rows) (suc n) row =
    omega (arith, sum-insert rows n row, sum_by-cons (λ x. x) r rows, sum_by-cons (λ x. x) r (insert rows n row))

row_count : Rra → ℕ
row_count archive = archive.def.rows

pub fewer_removed : (sources most : ℕ) (archives : List Rra) (n : ℕ) → sources * sum (rows_of_archives archives) ≤ most → sources * sum (rows_of_archives (remove archives n)) ≤ most
unfolding row_count
fewer_removed sources most archives n h =
    let same : rows_of_archives (remove archives n) ≡ remove (rows_of_archives archives) n
    = grind (arith, map-append, row_count, take-map, drop-map) in
    grind (arith, sum-removed, mul-le)

pub fewer_taken : (sources most : ℕ) (archives : List Rra) (n : ℕ) → sources * sum (rows_of_archives archives) ≤ most → sources * sum (rows_of_archives (take n archives)) ≤ most
unfolding row_count
fewer_taken sources most archives n h =
    let same : rows_of_archives (take n archives) ≡ take n (rows_of_archives archives) = sym (take-map row_count n archives) in
    grind (arith, sum-taken, mul-le)

-- ---- a content with other archives

pub valid_with : (limits : Limits) (now : Content) (archives : List Rra) → IsValidWithin limits now → 0 < length archives → length archives ≤ limits.max_archives → length now.sources * sum (rows_of_archives archives) ≤ limits.max_cells → AllByRecursion (IsValidArchiveWithin limits (length now.sources) (now.last / now.step)) archives → IsValidWithin limits (record now { archives = archives })
valid_with limits now archives is some few cells each = assumption (is, some, few, cells, each)

-- ---- what a tune of archives makes

by_event : (base : Content) (tuning : Tuning) (archive : Option ArchiveTune) → tuning.archive ≡ archive → moved base (TuningBy tuning) ≡ content base (option_map_or archive_event archive (Tuned (map (tuned tuning) base.sources)) ∷ [])
by_event base tuning archive e = ap (λ o. content base (option_map_or archive_event o (Tuned (map (tuned tuning) base.sources)) ∷ [])) e

pub tune_alone : (base : Content) (tuning : Tuning) → tuning.archive ≡ None → moved base (TuningBy tuning) ≡ content base (Tuned (map (tuned tuning) base.sources) ∷ [])
tune_alone base tuning e = by_event base tuning None e

pub tune_added : (base : Content) (tuning : Tuning) (def : RraDef) → IsBase base → tuning.archive ≡ Some (Add def) → verdict base (TuningBy tuning) ≡ None → moved base (TuningBy tuning) ≡ record base { archives = base.archives ++ new_archive (length base.sources) def ∷ [] }
tune_added base tuning def is e h =
    let some = some_of_archive (settings_of base) def (tune_passes base tuning (Some (Add def)) e h) in
    by_event base tuning (Some (Add def)) e ∙ add_changes base def is some.0 some.1

pub tune_removed : (base : Content) (tuning : Tuning) (number : ℕ) → IsBase base → tuning.archive ≡ Some (Remove number) → moved base (TuningBy tuning) ≡ record base { archives = remove base.archives number }
tune_removed base tuning number is e = by_event base tuning (Some (Remove number)) e ∙ remove_changes base number is
