-- Law: lists, item by item, and the newest items of a list.
use Rattle.std.specs.Prelude.{◌≡◌, ℕ, zero, suc, ◌+◌, ◌-◌, ◌<◌, ◌≤◌, List, [], ◌∷◌, ◌++◌, length, take, drop, map, replicate}
use Rattle.rrd_spec.specs.Names.{refl, sym, ◌∙◌, ap, subst, get_or, set, add-one, append-nil, append_assoc, length-append, take_all, add-sub_assoc, add-sub_cancel_left, le-add_right, le_of_suc-le-suc, not-suc-le-zero, sub-add_cancel, sub-eq-zero_of_le, drop-cons, drop-drop, drop_all, drop_at, length-drop, take-append-drop, AllByRecursion}
use Rattle.rrd_spec.specs.Preparations.{map_each}
use Rattle.rrd_spec.specs.Laws.ListedContent.{keep_last}

-- ---- properties of each item

-- the item at an index
pub All-at : {A : Type 0} (P : A → Type 0) (xs : List A) (i : ℕ) (d : A) → AllByRecursion P xs → i < length xs
    → P (get_or xs i d)
All-at P [] i d is h = absurd (not-suc-le-zero h)
All-at P (x ∷ xs) zero d is h = is.0
All-at P (x ∷ xs) (suc i) d is h = All-at P xs i d is.1 (le_of_suc-le-suc h)

-- the first items, and the last items
pub All-take : {A : Type 0} (P : A → Type 0) (n : ℕ) (xs : List A) → AllByRecursion P xs → AllByRecursion P (take n xs)
All-take P zero xs is = tt
All-take P (suc n) [] is = tt
All-take P (suc n) (x ∷ xs) is = (is.0, All-take P n xs is.1)

pub All-drop : {A : Type 0} (P : A → Type 0) (n : ℕ) (xs : List A) → AllByRecursion P xs → AllByRecursion P (drop n xs)
All-drop P zero xs is = is
All-drop P (suc n) [] is = tt
All-drop P (suc n) (x ∷ xs) is = All-drop P n xs is.1

-- the first items, and one more that was written
pub All-take-set : {A : Type 0} (P : A → Type 0) (xs : List A) (i : ℕ) (x : A) → i < length xs
    → AllByRecursion P (take i xs) → P x → AllByRecursion P (take (suc i) (set xs i x))
All-take-set P [] i x h is here = absurd (not-suc-le-zero h)
All-take-set P (y ∷ xs) zero x h is here = (here, tt)
All-take-set P (y ∷ xs) (suc i) x h is here = (is.0, All-take-set P xs i x (le_of_suc-le-suc h) is.1 here)

-- two lists joined, one item many times, and the items of a map
pub All-append : {A : Type 0} (P : A → Type 0) (xs ys : List A) → AllByRecursion P xs → AllByRecursion P ys
    → AllByRecursion P (xs ++ ys)
All-append P [] ys h k = k
All-append P (x ∷ xs) ys h k = (h.0, All-append P xs ys h.1 k)

pub All-replicate : {A : Type 0} (P : A → Type 0) (n : ℕ) (x : A) → P x → AllByRecursion P (replicate n x)
All-replicate P zero x h = tt
All-replicate P (suc n) x h = (h, All-replicate P n x h)

pub All-map : {A B : Type 0} (P : A → Type 0) (Q : B → Type 0) (f : A → B) (xs : List A) → ((x : A) → P x → Q (f x))
    → AllByRecursion P xs → AllByRecursion Q (map f xs)
All-map P Q f [] h is = tt
All-map P Q f (x ∷ xs) h is = (h x is.0, All-map P Q f xs h is.1)

-- a property that follows from another one
pub All-weaker : {A : Type 0} (P Q : A → Type 0) (xs : List A) → ((x : A) → P x → Q x) → AllByRecursion P xs
    → AllByRecursion Q xs
All-weaker P Q [] h is = tt
All-weaker P Q (x ∷ xs) h is = (h x is.0, All-weaker P Q xs h is.1)

-- the item at an index, and those after it
pub drop_here : {A : Type 0} (xs : List A) (i : ℕ) (x : A) → i < length xs → x ≡ get_or xs i x
    → drop i xs ≡ x ∷ drop (i + 1) xs
drop_here xs i x h e =
    drop-cons xs i x h ∙ ap (λ y. y ∷ drop (suc i) xs) (sym e) ∙ ap (λ n. x ∷ drop n xs) (sym (add-one i))

-- ---- a list overwritten item by item with a function of two lists

-- one more item
pub map_each_more : {P A : Type 0} (f : P → A → P) (ps : List P) (xs : List A) (i : ℕ) (p q : P) (x : A)
    → i < length ps → i < length xs → p ≡ f (get_or ps i q) (get_or xs i x)
    → set (map_each f (take i ps) (take i xs) ++ drop i ps) i p
    ≡ map_each f (take (suc i) ps) (take (suc i) xs) ++ drop (suc i) ps
map_each_more f [] xs i p q x h k e = absurd (not-suc-le-zero h)
map_each_more f (a ∷ ps) [] i p q x h k e = absurd (not-suc-le-zero k)
map_each_more f (a ∷ ps) (y ∷ xs) zero p q x h k e = ap (λ z. z ∷ ps) e
map_each_more f (a ∷ ps) (y ∷ xs) (suc i) p q x h k e =
    ap (λ zs. f a y ∷ zs) (map_each_more f ps xs i p q x (le_of_suc-le-suc h) (le_of_suc-le-suc k) e)

-- the next item, and the end
pub map_each_next : {P A : Type 0} (f : P → A → P) (ps : List P) (xs : List A) (i : ℕ) (d : P) → i < length ps
    → i < length xs → get_or (map_each f (take i ps) (take i xs) ++ drop i ps) i d ≡ get_or ps i d
map_each_next f [] xs i d h k = absurd (not-suc-le-zero h)
map_each_next f (a ∷ ps) [] i d h k = absurd (not-suc-le-zero k)
map_each_next f (a ∷ ps) (y ∷ xs) zero d h k = refl
map_each_next f (a ∷ ps) (y ∷ xs) (suc i) d h k = map_each_next f ps xs i d (le_of_suc-le-suc h) (le_of_suc-le-suc k)

pub map_each_all : {P A : Type 0} (f : P → A → P) (ps : List P) (xs : List A) (i : ℕ) → length ps ≤ i → length xs ≤ i
    → map_each f (take i ps) (take i xs) ++ drop i ps ≡ map_each f ps xs
map_each_all f ps xs i h k =
    ap (λ zs. map_each f zs (take i xs) ++ drop i ps) (take_all i ps h)
    ∙ ap (λ zs. map_each f ps zs ++ drop i ps) (take_all i xs k)
    ∙ ap (λ zs. map_each f ps xs ++ zs) (drop_all i ps h) ∙ append-nil (map_each f ps xs)

-- ---- a list overwritten item by item with a function of another list

-- one more item, the next item, and the end
pub map_more : {A B : Type 0} (f : A → B) (ps : List A) (ys : List B) (i : ℕ) (d : A) (b : B) → i < length ps
    → i < length ys → b ≡ f (get_or ps i d)
    → set (map f (take i ps) ++ drop i ys) i b ≡ map f (take (suc i) ps) ++ drop (suc i) ys
map_more f [] ys i d b h k e = absurd (not-suc-le-zero h)
map_more f (p ∷ ps) [] i d b h k e = absurd (not-suc-le-zero k)
map_more f (p ∷ ps) (y ∷ ys) zero d b h k e = ap (λ z. z ∷ ys) e
map_more f (p ∷ ps) (y ∷ ys) (suc i) d b h k e =
    ap (λ zs. f p ∷ zs) (map_more f ps ys i d b (le_of_suc-le-suc h) (le_of_suc-le-suc k) e)

pub map_next : {A B : Type 0} (f : A → B) (ps : List A) (ys : List B) (i : ℕ) (d : B) → i < length ps → i < length ys
    → get_or (map f (take i ps) ++ drop i ys) i d ≡ get_or ys i d
map_next f [] ys i d h k = absurd (not-suc-le-zero h)
map_next f (p ∷ ps) [] i d h k = absurd (not-suc-le-zero k)
map_next f (p ∷ ps) (y ∷ ys) zero d h k = refl
map_next f (p ∷ ps) (y ∷ ys) (suc i) d h k = map_next f ps ys i d (le_of_suc-le-suc h) (le_of_suc-le-suc k)

pub map_all : {A B : Type 0} (f : A → B) (ps : List A) (ys : List B) (i : ℕ) → length ps ≤ i → length ys ≤ i
    → map f (take i ps) ++ drop i ys ≡ map f ps
map_all f ps ys i h k =
    ap (λ zs. map f zs ++ drop i ys) (take_all i ps h) ∙ ap (λ zs. map f ps ++ zs) (drop_all i ys k)
    ∙ append-nil (map f ps)

pub map-same : {A B : Type 0} (b : B) (xs : List A) → map (λ x. b) xs ≡ replicate (length xs) b
map-same b [] = refl
map-same b (x ∷ xs) = ap (λ ys. b ∷ ys) (map-same b xs)

-- ---- the newest items

sub_again : {n m : ℕ} → n ≤ m → m - (m - n) ≡ n
sub_again {n} {m} h = ap (λ k. k - (m - n)) (sym (sub-add_cancel h)) ∙ add-sub_cancel_left (m - n) n

-- all items
pub keep_all : {A : Type 0} (n : ℕ) (xs : List A) → length xs ≤ n → keep_last n xs ≡ xs
keep_all n xs h = ap (λ m. drop m xs) (sub-eq-zero_of_le h)

pub length-keep_last : {A : Type 0} (n : ℕ) (xs : List A) → n ≤ length xs → length (keep_last n xs) ≡ n
length-keep_last n xs h = length-drop (length xs - n) xs ∙ sub_again h

-- items before the newest ones do not matter
pub keep_last_past : {A : Type 0} (n : ℕ) (ps xs : List A) → n ≤ length xs → keep_last n (ps ++ xs) ≡ keep_last n xs
keep_last_past n ps xs h =
    ap (λ m. drop m (ps ++ xs)) (ap (λ m. m - n) (length-append ps xs) ∙ add-sub_assoc h (length ps))
    ∙ sym (drop-drop (length xs - n) (length ps) (ps ++ xs))
    ∙ ap (drop (length xs - n)) (drop_at ps xs (length ps) refl)

-- the items before the newest ones, and the newest ones
pub split_last : {A : Type 0} (n : ℕ) (xs : List A) → take (length xs - n) xs ++ keep_last n xs ≡ xs
split_last n xs = take-append-drop (length xs - n) xs

-- keeping the newest items twice is keeping them once
pub keep_last-append : {A : Type 0} (n : ℕ) (xs ys : List A) → n ≤ length xs
    → keep_last n (xs ++ ys) ≡ keep_last n (keep_last n xs ++ ys)
keep_last-append n xs ys h =
    let count : length (keep_last n xs ++ ys) ≡ n + length ys
    = length-append (keep_last n xs) ys ∙ ap (λ m. m + length ys) (length-keep_last n xs h) in
    ap (λ zs. keep_last n (zs ++ ys)) (sym (split_last n xs))
    ∙ ap (keep_last n) (append_assoc (take (length xs - n) xs) (keep_last n xs) ys)
    ∙ keep_last_past n (take (length xs - n) xs) (keep_last n xs ++ ys)
    (subst (λ m. n ≤ m) (sym count) (le-add_right n (length ys)))
