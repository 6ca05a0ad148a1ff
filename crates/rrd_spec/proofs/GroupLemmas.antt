-- The groups of a list that grows.
use Rattle.std.specs.Prelude.{◌≡◌, ℕ, zero, suc, ◌+◌, ◌-◌, ◌*◌, ◌/◌, ◌<◌, ◌≤◌, false, List, [], ◌∷◌, ◌++◌, length, take, drop, map, replicate, if◌then◌else◌, ◌==◌}
use Rattle.rrd_spec.proofs.Names.{common_steps, refl, sym, ◌∙◌, ap, eqb, arith, append-nil, append_assoc, length-append, take_all, ⊎_elim, cases_lt, nat_tests, take-append-le, drop_all, length-take, length-replicate, replicate-append-replicate, fold-append, div-add-mod', le-div, mod_below, mul-le, fold, range_with_len, map-range_with_len_more, length-map-range_with_len, Rule, group_items, group_part, finished, unfinished, GoesOn}

-- an item that comes leaves the groups before its own as they are
pub group_items_kept : {A : Type 0} (size before : ℕ) (xs ys : List A) (group : ℕ) → (group + 1) * size ≤ before + length xs → group_items size before (xs ++ ys) group ≡ group_items size before xs group
group_items_kept size before xs ys group h =
    ap (drop (group * size - before)) (take-append-le ((group + 1) * size - before) xs ys (omega arith))

-- and is the last item of its own
pub group_items_more : {A : Type 0} (size before : ℕ) (xs ys : List A) (group : ℕ) → group * size ≤ before + length xs → before + length xs + length ys ≤ (group + 1) * size → group_items size before (xs ++ ys) group ≡ group_items size before xs group ++ ys
group_items_more size before xs ys group low high = grind (arith, common_steps, take_all, length-append)

-- a group that comes later has no item yet
pub group_items_none : {A : Type 0} (size before : ℕ) (xs : List A) (group : ℕ) → before + length xs ≤ group * size → group_items size before xs group ≡ []
group_items_none size before xs group h =
    drop_all (group * size - before) (take ((group + 1) * size - before) xs) (omega (arith, length-take ((group + 1) * size - before) xs))

-- two functions that agree on the numbers of a range
pub map_range_same : {B : Type 0} (f g : ℕ → B) (a n : ℕ) → ((i : ℕ) → a ≤ i → i < a + n → f i ≡ g i) → map f (range_with_len a n) ≡ map g (range_with_len a n)
map_range_same f g a zero h = refl
map_range_same f g a (suc n) h = grind (arith, map_range_same f g (a + 1) n (λ i low high. h i (omega arith) (omega arith)))

not_same : (m n : ℕ) → n < m → eqb m n ≡ false
not_same m n h = grind (arith, nat_tests)

-- the number of a group that has been reached
same_group : (n q size : ℕ) → q * size ≤ n → n < (q + 1) * size → n / size ≡ q
same_group n q size low high = grind arith

reached : (n size : ℕ) → n / size * size ≤ n
reached n size = omega (arith, div-add-mod' n size)

pub next_ahead : (n size : ℕ) → 0 < size → n < (n / size + 1) * size
next_ahead n size pos = omega (arith, div-add-mod' n size, mod_below n size pos)

pub reached_before : (n k size : ℕ) → 0 < size → n / size ≤ (n + k) / size
reached_before n k size pos = le-div (n / size) (n + k) size pos (omega (arith, reached n size))

-- a group keeps its part where its items stay
part_kept : {A P B : Type 0} (rule : Rule A P B) (before : ℕ) (begun : P) (xs ys : List A) (group : ℕ) → (group + 1) * rule.size ≤ before + length xs → group_part rule before begun (xs ++ ys) group ≡ group_part rule before begun xs group
part_kept rule before begun xs ys group h = grind (arith, group_items_kept)

-- and the new items are added to the part of theirs
part_more : {A P B : Type 0} (rule : Rule A P B) (before : ℕ) (begun : P) (xs ys : List A) (group : ℕ) → group * rule.size ≤ before + length xs → before + length xs + length ys ≤ (group + 1) * rule.size → group_part rule before begun (xs ++ ys) group ≡ fold rule.add (group_part rule before begun xs group) ys
part_more rule before begun xs ys group low high = cc (group_items_more rule.size before xs ys group low high, fold-append rule.add (if group == before / rule.size then begun else rule.empty) (group_items rule.size before xs group) ys)

plus_zero : (n size : ℕ) → (n + 0) / size ≡ n / size
plus_zero n size = ap (λ m. m / size) {x = n + 0} {y = n} (omega arith)

-- no item: nothing is finished, and what was begun stays
pub finished_nil : {A P B : Type 0} (rule : Rule A P B) (before : ℕ) (begun : P) → finished rule before begun [] ≡ []
unfolding finished
finished_nil rule before begun = grind arith

pub unfinished_nil : {A P B : Type 0} (rule : Rule A P B) (before : ℕ) (begun : P) → 0 < rule.size → unfinished rule before begun [] ≡ begun
unfolding unfinished
unfinished_nil {A = A} rule before begun pos = grind arith

-- items that leave their group unfinished
pub finished_stays : {A P B : Type 0} (rule : Rule A P B) (before : ℕ) (begun : P) (xs ys : List A) → 0 < rule.size → before + length xs + length ys < ((before + length xs) / rule.size + 1) * rule.size → finished rule before begun (xs ++ ys) ≡ finished rule before begun xs
unfolding finished
finished_stays rule before begun xs ys pos h =
    let size = rule.size in
    let group = (before + length xs) / size in
    let in_group : (before + length (xs ++ ys)) / size ≡ group = same_group _ group size (omega (arith, length-append xs ys, reached (before + length xs) size)) (omega (arith, length-append xs ys)) in
    ap (λ n. map (λ g. rule.close (group_part rule before begun (xs ++ ys) g)) (range_with_len (before / size) (n - before / size))) in_group
    ∙ map_range_same _ _ (before / size) (group - before / size) (λ i a b. ap rule.close (part_kept rule before begun xs ys i (omega (arith, mul-le (i + 1) size group size (omega arith) (omega arith), reached (before + length xs) size))))

pub unfinished_stays : {A P B : Type 0} (rule : Rule A P B) (before : ℕ) (begun : P) (xs ys : List A) → 0 < rule.size → before + length xs + length ys < ((before + length xs) / rule.size + 1) * rule.size → unfinished rule before begun (xs ++ ys) ≡ fold rule.add (unfinished rule before begun xs) ys
unfolding unfinished
unfinished_stays rule before begun xs ys pos h = grind (arith, same_group, length-append, reached, part_more)

-- items that fill it
pub finished_fills : {A P B : Type 0} (rule : Rule A P B) (before : ℕ) (begun : P) (xs ys : List A) → 0 < rule.size → before + length xs + length ys ≡ ((before + length xs) / rule.size + 1) * rule.size → finished rule before begun (xs ++ ys) ≡ finished rule before begun xs ++ rule.close (fold rule.add (unfinished rule before begun xs) ys) ∷ []
unfolding finished unfinished
finished_fills rule before begun xs ys pos h =
    let size = rule.size in
    let first = before / size in
    let group = (before + length xs) / size in
    let next : (before + length (xs ++ ys)) / size ≡ group + 1 = same_group _ (group + 1) size (omega (arith, length-append xs ys)) (omega (arith, length-append xs ys)) in
    let low = reached_before before (length xs) size pos in
    let whole = λ (g : ℕ). rule.close (group_part rule before begun (xs ++ ys) g) in
    let kept : map whole (range_with_len first (group - first)) ≡ map (λ g. rule.close (group_part rule before begun xs g)) (range_with_len first (group - first)) = map_range_same _ _ first (group - first) (λ i a b. ap rule.close (part_kept rule before begun xs ys i (omega (arith, mul-le (i + 1) size group size (omega arith) (omega arith), reached (before + length xs) size)))) in
    let last : whole group ≡ rule.close (fold rule.add (group_part rule before begun xs group) ys) = ap rule.close (part_more rule before begun xs ys group (reached (before + length xs) size) (omega arith)) in
    ap (λ n. map whole (range_with_len first (n - first))) next
    ∙ ap (λ n. map whole (range_with_len first n)) (omega arith)
    ∙ map-range_with_len_more whole first (group - first) group (omega arith)
    ∙ ap (λ zs. zs ++ whole group ∷ []) kept
    ∙ ap (λ z. map (λ g. rule.close (group_part rule before begun xs g)) (range_with_len first (group - first)) ++ z ∷ []) last

pub unfinished_fills : {A P B : Type 0} (rule : Rule A P B) (before : ℕ) (begun : P) (xs ys : List A) → 0 < rule.size → before + length xs + length ys ≡ ((before + length xs) / rule.size + 1) * rule.size → unfinished rule before begun (xs ++ ys) ≡ rule.empty
unfolding unfinished
unfinished_fills rule before begun xs ys pos h =
    let size = rule.size in
    let group = (before + length xs) / size in
    let next : (before + length (xs ++ ys)) / size ≡ group + 1 = same_group _ (group + 1) size (omega (arith, length-append xs ys)) (omega (arith, length-append xs ys)) in
    let low = reached_before before (length xs) size pos in
    let new : eqb (group + 1) (before / size) ≡ false = not_same (group + 1) (before / size) (omega arith) in
    cc (next, group_items_none size before (xs ++ ys) (group + 1) (omega (arith, length-append xs ys)), new)

-- one item more, as the group in progress takes it
one_more : {A P B : Type 0} (rule : Rule A P B) (before : ℕ) (begun : P) (xs : List A) (y : A) → 0 < rule.size → GoesOn rule before begun xs (y ∷ [])
one_more rule before begun xs y pos =
    let n = before + length xs in
    let part = unfinished rule before begun xs in
    let same : ((n + 0) / rule.size + 1) * rule.size ≡ (n / rule.size + 1) * rule.size = ap (λ q. (q + 1) * rule.size) (plus_zero n rule.size) in
    ⊎_elim
    (λ (stays : n + 1 < (n / rule.size + 1) * rule.size). record {
      finished_is = finished_stays rule before begun xs (y ∷ []) pos (omega arith) ∙ sym (append-nil _)
          ∙ ap (λ zs. finished rule before begun xs ++ zs) (sym (finished_stays rule n part [] (y ∷ []) pos (omega arith) ∙ finished_nil rule n part));
      unfinished_is = unfinished_stays rule before begun xs (y ∷ []) pos (omega arith) ∙ ap (λ p. rule.add p y) (sym (unfinished_nil rule n part pos)) ∙ sym (unfinished_stays rule n part [] (y ∷ []) pos (omega arith));
    })
    (λ (fills : (n / rule.size + 1) * rule.size ≤ n + 1). record {
      finished_is = finished_fills rule before begun xs (y ∷ []) pos (omega arith)
          ∙ ap (λ zs. finished rule before begun xs ++ zs) (sym (finished_fills rule n part [] (y ∷ []) pos (omega arith) ∙ ap (λ zs. zs ++ rule.close (rule.add (unfinished rule n part []) y) ∷ []) (finished_nil rule n part) ∙ ap (λ p. rule.close (rule.add p y) ∷ []) (unfinished_nil rule n part pos)));
      unfinished_is = unfinished_fills rule before begun xs (y ∷ []) pos (omega arith) ∙ sym (unfinished_fills rule n part [] (y ∷ []) pos (omega arith));
    })
    (cases_lt (n + 1) ((n / rule.size + 1) * rule.size))

pub goes_on : {A P B : Type 0} (rule : Rule A P B) (before : ℕ) (begun : P) (xs ys : List A) → 0 < rule.size → GoesOn rule before begun xs ys
goes_on rule before begun xs [] pos = grind (arith, append-nil, finished_nil, unfinished_nil)
goes_on rule before begun xs (y ∷ ys) pos =
    let n = before + length xs in
    let part = unfinished rule before begun xs in
    grind (arith, common_steps, one_more, goes_on rule before begun (xs ++ y ∷ []) ys pos, goes_on rule n part (y ∷ []) ys pos, append_assoc)

-- how many groups are finished
pub length-finished : {A P B : Type 0} (rule : Rule A P B) (before : ℕ) (begun : P) (xs : List A) → length (finished rule before begun xs) ≡ (before + length xs) / rule.size - before / rule.size
unfolding finished
length-finished rule before begun xs = length-map-range_with_len (λ group. rule.close (group_part rule before begun xs group)) (before / rule.size) ((before + length xs) / rule.size - before / rule.size)

-- items from the list's start on
pub finished_within : {A P B : Type 0} (rule : Rule A P B) (before : ℕ) (begun : P) (ys : List A) → 0 < rule.size → before + length ys < (before / rule.size + 1) * rule.size → finished rule before begun ys ≡ []
finished_within rule before begun ys pos h =
    let same : ((before + 0) / rule.size + 1) * rule.size ≡ (before / rule.size + 1) * rule.size = ap (λ q. (q + 1) * rule.size) (plus_zero before rule.size) in
    finished_stays rule before begun [] ys pos (omega arith) ∙ finished_nil rule before begun

pub unfinished_within : {A P B : Type 0} (rule : Rule A P B) (before : ℕ) (begun : P) (ys : List A) → 0 < rule.size → before + length ys < (before / rule.size + 1) * rule.size → unfinished rule before begun ys ≡ fold rule.add begun ys
unfinished_within rule before begun ys pos h = grind (arith, plus_zero before rule.size, unfinished_stays rule before begun, unfinished_nil rule before begun pos)

pub finished_filling : {A P B : Type 0} (rule : Rule A P B) (before : ℕ) (begun : P) (ys : List A) → 0 < rule.size → before + length ys ≡ (before / rule.size + 1) * rule.size → finished rule before begun ys ≡ rule.close (fold rule.add begun ys) ∷ []
finished_filling rule before begun ys pos h = grind (arith, plus_zero before rule.size, finished_fills rule before begun, finished_nil rule before begun, unfinished_nil rule before begun pos)

pub unfinished_filling : {A P B : Type 0} (rule : Rule A P B) (before : ℕ) (begun : P) (ys : List A) → 0 < rule.size → before + length ys ≡ (before / rule.size + 1) * rule.size → unfinished rule before begun ys ≡ rule.empty
unfinished_filling rule before begun ys pos h =
    let same : ((before + 0) / rule.size + 1) * rule.size ≡ (before / rule.size + 1) * rule.size = ap (λ q. (q + 1) * rule.size) (plus_zero before rule.size) in
    unfinished_fills rule before begun [] ys pos (omega arith)

-- whole groups of one item
pub finished-replicate : {A P B : Type 0} (rule : Rule A P B) (k first : ℕ) (x : A) → 0 < rule.size → finished rule (first * rule.size) rule.empty (replicate (k * rule.size) x) ≡ replicate k (rule.close (fold rule.add rule.empty (replicate rule.size x)))
finished-replicate rule zero first x pos = grind (arith, finished_nil)
finished-replicate rule (suc k) first x pos =
    let size = rule.size in
    let at = first * size in
    let one = replicate size x in
    let rest = replicate (k * size) x in
    let count = length-replicate size x in
    let start : at / size ≡ first = same_group at first size (omega arith) (omega arith) in
    let fills : at + length one ≡ (at / size + 1) * size = omega (arith, ap (λ q. (q + 1) * size) start) in
    let on = goes_on rule at rule.empty one rest pos in
    ap (λ n. finished rule at rule.empty (replicate n x)) {x = suc k * size} {y = size + k * size} (omega arith)
    ∙ ap (finished rule at rule.empty) (sym (replicate-append-replicate size (k * size) x))
    ∙ on.finished_is
    ∙ ap (λ zs. zs ++ finished rule (at + length one) (unfinished rule at rule.empty one) rest) (finished_filling rule at rule.empty one pos fills)
    ∙ ap (λ p. rule.close (fold rule.add rule.empty one) ∷ finished rule (at + length one) p rest) (unfinished_filling rule at rule.empty one pos fills)
    ∙ ap (λ n. rule.close (fold rule.add rule.empty one) ∷ finished rule n rule.empty rest) {x = at + length one} {y = suc first * size} (omega arith)
    ∙ ap (λ zs. rule.close (fold rule.add rule.empty one) ∷ zs) (finished-replicate rule k (suc first) x pos)

pub unfinished-replicate : {A P B : Type 0} (rule : Rule A P B) (k first : ℕ) (x : A) → 0 < rule.size → unfinished rule (first * rule.size) rule.empty (replicate (k * rule.size) x) ≡ rule.empty
unfinished-replicate rule zero first x pos = grind (arith, unfinished_nil)
unfinished-replicate rule (suc k) first x pos =
    let size = rule.size in
    let at = first * size in
    let one = replicate size x in
    let rest = replicate (k * size) x in
    let count = length-replicate size x in
    let start : at / size ≡ first = same_group at first size (omega arith) (omega arith) in
    let fills : at + length one ≡ (at / size + 1) * size = omega (arith, ap (λ q. (q + 1) * size) start) in
    let on = goes_on rule at rule.empty one rest pos in
    ap (λ n. unfinished rule at rule.empty (replicate n x)) {x = suc k * size} {y = size + k * size} (omega arith)
    ∙ ap (unfinished rule at rule.empty) (sym (replicate-append-replicate size (k * size) x))
    ∙ on.unfinished_is
    ∙ ap (λ p. unfinished rule (at + length one) p rest) (unfinished_filling rule at rule.empty one pos fills)
    ∙ ap (λ n. unfinished rule n rule.empty rest) {x = at + length one} {y = suc first * size} (omega arith)
    ∙ unfinished-replicate rule k (suc first) x pos
