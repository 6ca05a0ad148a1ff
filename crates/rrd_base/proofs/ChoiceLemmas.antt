-- The archive that is taken, archive by archive.
use Rattle.std.specs.Prelude.{◌≡◌, ℕ, ◌+◌, Bool, true, false, not, ◌&&◌, ◌||◌, cond, List, [], ◌∷◌, ◌++◌, length, Option, Some, None, ℤ, int_lt, int_le}
use Rattle.rrd_base.proofs.Names.{refl, sym, ◌∙◌, ap, ltb, ⊎_elim, arith, append_assoc, append-nil, abs_diff, find, filter, list_any, enumerate_from, option_or, option_map_or, cases_Bool, cond-false, cond-true, or_parts, or_from, both_ways, not-true, not-false, nat_tests, ints, map-append, filter-append, find-append, list_any-append, Function, RraDef, Candidate, FetchRequest, Searched, searched, is_preferred, same_function, candidate, candidates, best, covers, is_nearer, is_farther, taken}

-- ---- the best of a list

-- an order in which items may be equally good
record IsOrder {A : Type 0} (lt : A → A → Bool) : Type 0 where
  pub not_itself : (a : A) → lt a a ≡ false
  pub goes_on : (a b c : A) → lt a b ≡ true → lt b c ≡ true → lt a c ≡ true
  pub between : (a b c : A) → lt a b ≡ true → lt c b ≡ false → lt a c ≡ true

abbrev unbeaten : {A : Type 0} → (A → A → Bool) → List A → A → Bool
unbeaten lt items one = not (list_any (λ other. lt other one) items)

found_passes : {A : Type 0} (p : A → Bool) (xs : List A) (b : A) → find p xs ≡ Some b → p b ≡ true
found_passes p [] b h = absurd cc
found_passes p (x ∷ xs) b h =
    ⊎_elim
    (λ (yes : p x ≡ true). let this : Some x ≡ Some b = sym (cond-true (p x) (Some x) (find p xs) yes) ∙ h in let same : x ≡ b = cc in sym (ap p same) ∙ yes)
    (λ (no : p x ≡ false). found_passes p xs b (sym (cond-false (p x) (Some x) (find p xs) no) ∙ h))
    (cases_Bool (p x))

-- what is found among the items that pass a test passes it
found_among : {A : Type 0} (p q : A → Bool) (xs : List A) (b : A) → find p (filter q xs) ≡ Some b → q b ≡ true
found_among p q [] b h = absurd cc
found_among p q (x ∷ xs) b h =
    ⊎_elim
    (λ (in_it : q x ≡ true).
    let whole : find p (x ∷ filter q xs) ≡ Some b = sym (ap (find p) (cond-true (q x) (x ∷ filter q xs) (filter q xs) in_it)) ∙ h in
    ⊎_elim
    (λ (yes : p x ≡ true). let this : Some x ≡ Some b = sym (cond-true (p x) (Some x) (find p (filter q xs)) yes) ∙ whole in let same : x ≡ b = cc in sym (ap q same) ∙ in_it)
    (λ (no : p x ≡ false). found_among p q xs b (sym (cond-false (p x) (Some x) (find p (filter q xs)) no) ∙ whole))
    (cases_Bool (p x)))
    (λ (out : q x ≡ false). found_among p q xs b (sym (ap (find p) (cond-false (q x) (x ∷ filter q xs) (filter q xs) out)) ∙ h))
    (cases_Bool (q x))

-- and where none passes it, neither does what is found
found_outside : {A : Type 0} (p q : A → Bool) (xs : List A) (b : A) → filter q xs ≡ [] → find p xs ≡ Some b → q b ≡ false
found_outside p q [] b e h = absurd cc
found_outside p q (x ∷ xs) b e h =
    ⊎_elim
    (λ (in_it : q x ≡ true). let some : x ∷ filter q xs ≡ [] = sym (cond-true (q x) (x ∷ filter q xs) (filter q xs) in_it) ∙ e in absurd cc)
    (λ (out : q x ≡ false).
    ⊎_elim
    (λ (yes : p x ≡ true). let this : Some x ≡ Some b = sym (cond-true (p x) (Some x) (find p xs) yes) ∙ h in let same : x ≡ b = cc in sym (ap q same) ∙ out)
    (λ (no : p x ≡ false). found_outside p q xs b (sym (cond-false (q x) (x ∷ filter q xs) (filter q xs) out) ∙ e) (sym (cond-false (p x) (Some x) (find p xs) no) ∙ h))
    (cases_Bool (p x)))
    (cases_Bool (q x))

-- a stricter test finds the same, if that passes it
found_still : {A : Type 0} (p q : A → Bool) (xs : List A) (b : A) → ((x : A) → p x ≡ false → q x ≡ false) → find p xs ≡ Some b → q b ≡ true → find q xs ≡ Some b
found_still p q [] b h e k = absurd cc
found_still p q (x ∷ xs) b h e k =
    ⊎_elim
    (λ (yes : p x ≡ true). grind arith)
    (λ (no : p x ≡ false). cond-false (q x) (Some x) (find q xs) (h x no) ∙ found_still p q xs b h (sym (cond-false (p x) (Some x) (find p xs) no) ∙ e) k)
    (cases_Bool (p x))

or_true : (b : Bool) → (b || true) ≡ true
or_true b = grind arith

pub or_false : (b : Bool) → (b || false) ≡ b
or_false b = grind arith

beaten_by_last : {A : Type 0} (lt : A → A → Bool) (items : List A) (c x : A) → lt c x ≡ true → unbeaten lt (items ++ c ∷ []) x ≡ false
beaten_by_last lt items c x h = grind (arith, list_any-append, or_true)

same_with_last : {A : Type 0} (lt : A → A → Bool) (items : List A) (c x : A) → lt c x ≡ false → unbeaten lt (items ++ c ∷ []) x ≡ unbeaten lt items x
same_with_last lt items c x h = grind (arith, list_any-append, or_false)

-- one that beats an unbeaten one beats them all
all_beaten : {A : Type 0} (lt : A → A → Bool) → IsOrder lt → (items xs : List A) (b c : A) → list_any (λ other. lt other b) xs ≡ false → lt c b ≡ true → find (unbeaten lt (items ++ c ∷ [])) xs ≡ None
all_beaten lt order items [] b c h k = refl
all_beaten lt order items (x ∷ xs) b c h k =
    let parts = or_parts (lt x b) (list_any (λ other. lt other b) xs) h in
    cc (cond-false (unbeaten lt (items ++ c ∷ []) x) (Some x) (find (unbeaten lt (items ++ c ∷ [])) xs) (beaten_by_last lt items c x (order.between c b x k parts.0)), all_beaten lt order items xs b c parts.1 k)

-- and is beaten by none
none_beats : {A : Type 0} (lt : A → A → Bool) → IsOrder lt → (xs : List A) (b c : A) → list_any (λ other. lt other b) xs ≡ false → lt c b ≡ true → list_any (λ other. lt other c) xs ≡ false
none_beats lt order [] b c h k = refl
none_beats lt order (x ∷ xs) b c h k =
    let parts = or_parts (lt x b) (list_any (λ other. lt other b) xs) h in
    grind (arith, or_from, both_ways, cases_Bool, none_beats lt order xs b c parts.1 k)

best_one : {A : Type 0} (lt : A → A → Bool) → IsOrder lt → (c : A) → best lt (c ∷ []) ≡ Some c
best_one lt order c = cond-true (unbeaten lt (c ∷ []) c) (Some c) None (ap (λ t. not (t || false)) (order.not_itself c))

stricter : {A : Type 0} (lt : A → A → Bool) (items : List A) (c x : A) → unbeaten lt items x ≡ false → unbeaten lt (items ++ c ∷ []) x ≡ false
stricter lt items c x h = grind (arith, list_any-append, not-false)

best_more : {A : Type 0} (lt : A → A → Bool) → IsOrder lt → (items : List A) (b c : A) → best lt items ≡ Some b → best lt (items ++ c ∷ []) ≡ Some (cond (lt c b) c b)
best_more lt order items b c h =
    let p = unbeaten lt (items ++ c ∷ []) in
    let ok = found_passes (unbeaten lt items) items b h in
    let none = not-true (list_any (λ other. lt other b) items) ok in
    ⊎_elim
    (λ (yes : lt c b ≡ true).
    let last : p c ≡ true = same_with_last lt items c c (order.not_itself c) ∙ ap not (none_beats lt order items b c none yes) in
    find-append p items (c ∷ [])
    ∙ ap (λ o. option_or o (cond (p c) (Some c) None)) (all_beaten lt order items items b c none yes)
    ∙ cond-true (p c) (Some c) None last
    ∙ sym (ap Some (cond-true (lt c b) c b yes)))
    (λ (no : lt c b ≡ false).
    let still : find p items ≡ Some b = found_still (unbeaten lt items) p items b (stricter lt items c) h (same_with_last lt items c b no ∙ ok) in
    find-append p items (c ∷ [])
    ∙ ap (λ o. option_or o (cond (p c) (Some c) None)) still
    ∙ sym (ap Some (cond-false (lt c b) c b no)))
    (cases_Bool (lt c b))

-- some item is the best one
best_some : {A : Type 0} (lt : A → A → Bool) → IsOrder lt → (done rest : List A) (b : A) → best lt done ≡ Some b → (found : A) × (best lt (done ++ rest) ≡ Some found)
best_some lt order done [] b h = (b, ap (best lt) (append-nil done) ∙ h)
best_some lt order done (c ∷ rest) b h = grind (arith, best_some lt order (done ++ c ∷ []) rest (cond (lt c b) c b) (best_more lt order done b c h), best_more, append_assoc)

-- ---- the two orders

abbrev off : ℕ → Candidate → ℕ
off asked one = abs_diff one.resolution asked

nearer_order : (asked : ℕ) → IsOrder (is_nearer asked)
nearer_order asked = grind arith

abbrev far : ℤ → ℕ → ℤ → ℕ → Bool
far r m s n = int_lt r s || (int_le r s && ltb m n)

far_itself : (r : ℤ) (m : ℕ) → far r m r m ≡ false
far_itself r m = grind (arith, ints, nat_tests)

far_on : (r s t : ℤ) (m n o : ℕ) → far r m s n ≡ true → far s n t o ≡ true → far r m t o ≡ true
far_on r s t m n o h k = grind (arith, ints, nat_tests)

far_between : (r s t : ℤ) (m n o : ℕ) → far r m s n ≡ true → far t o s n ≡ false → far r m t o ≡ true
far_between r s t m n o h k = grind (arith, ints, nat_tests)

farther_order : (asked : ℕ) → IsOrder (is_farther asked)
farther_order asked = grind (arith, far_itself, far_on, far_between)

-- ---- one archive more

abbrev pub instead : ℕ → ℕ → Option Candidate → Candidate → Option Candidate
instead asked start found c = Some (option_map_or (λ (b : Candidate). cond (is_preferred asked start c b) c b) found c)

-- it covers the start: only those that do are compared with it
covering_more : (asked start : ℕ) (list some : List Candidate) (c : Candidate) → filter (covers start) list ≡ some → covers start c ≡ true → best (is_nearer asked) (some ++ c ∷ []) ≡ instead asked start (option_or (best (is_nearer asked) some) (best (is_farther asked) list)) c
covering_more asked start list [] c e h = grind (arith, best_one (is_nearer asked) (nearer_order asked) c, nearer_order asked, found_outside, cond-true, cond-false)
covering_more asked start list (first ∷ some) c e h =
    let found = best_some (is_nearer asked) (nearer_order asked) (first ∷ []) some first (best_one (is_nearer asked) (nearer_order asked) first) in
    let b = found.0 in
    let covers_b = found_among (unbeaten (is_nearer asked) (first ∷ some)) (covers start) list b (ap (find (unbeaten (is_nearer asked) (first ∷ some))) e ∙ found.1) in
    grind (arith, best_more (is_nearer asked) (nearer_order asked) (first ∷ some) b c found.1, nearer_order asked, cond-true (covers start b) (is_nearer asked c b) true covers_b)

-- it doesn't: it counts only where none does
other_more : (asked start : ℕ) (list some : List Candidate) (c : Candidate) → filter (covers start) list ≡ some → covers start c ≡ false → option_or (best (is_nearer asked) some) (best (is_farther asked) (list ++ c ∷ [])) ≡ instead asked start (option_or (best (is_nearer asked) some) (best (is_farther asked) list)) c
other_more asked start [] [] c e h = best_one (is_farther asked) (farther_order asked) c
other_more asked start (first ∷ list) [] c e h =
    let found = best_some (is_farther asked) (farther_order asked) (first ∷ []) list first (best_one (is_farther asked) (farther_order asked) first) in
    let t = found.0 in
    let out = found_outside (unbeaten (is_farther asked) (first ∷ list)) (covers start) (first ∷ list) t e found.1 in
    grind (arith, best_more (is_farther asked) (farther_order asked) (first ∷ list) t c found.1, farther_order asked, cond-false (covers start t) false (is_farther asked c t) out)
other_more asked start list (first ∷ some) c e h =
    let found = best_some (is_nearer asked) (nearer_order asked) (first ∷ []) some first (best_one (is_nearer asked) (nearer_order asked) first) in
    let b = found.0 in
    let covers_b = found_among (unbeaten (is_nearer asked) (first ∷ some)) (covers start) list b (ap (find (unbeaten (is_nearer asked) (first ∷ some))) e ∙ found.1) in
    cc (found.1, cond-false (covers start c) (cond (covers start b) (is_nearer asked c b) true) (cond (covers start b) false (is_farther asked c b)) h ∙ cond-true (covers start b) false (is_farther asked c b) covers_b)

pub taken_more : (asked start : ℕ) (list : List Candidate) (c : Candidate) → taken asked start (list ++ c ∷ []) ≡ instead asked start (taken asked start list) c
taken_more asked start list c = grind (arith, filter-append, cond-true, covering_more, cond-false, append-nil, other_more, cases_Bool)

-- ---- the candidates

enumerated_more : (n : ℕ) (defs : List RraDef) (def : RraDef) → enumerate_from n (defs ++ def ∷ []) ≡ enumerate_from n defs ++ (n + length defs, def) ∷ []
enumerated_more n [] def = ap (λ m. (m, def) ∷ []) {x = n} {y = n + 0} (omega arith)
enumerated_more n (first ∷ defs) def = grind (arith, enumerated_more (n + 1) defs def)

pub candidates_more : (step last : ℕ) (function : Function) (defs : List RraDef) (def : RraDef) → candidates step last function (defs ++ def ∷ []) ≡ candidates step last function defs ++ cond (same_function def.function function) (candidate step last (length defs, def) ∷ []) []
candidates_more step last function defs def = grind (arith, enumerated_more, filter-append, map-append)

-- ---- the search

with_best : ℕ → ℕ → FetchRequest → Option Candidate → Searched
with_best step last request found = record { step = step; last = last; request = request; best = found }

-- an archive that is offered is compared with what was taken before
abbrev pub compared : Searched → ℕ → RraDef → Searched
compared old number def = record old { best = instead old.request.asked old.request.start old.best (candidate old.step old.last (number, def)) }

pub other_function : (old : Searched) (step last : ℕ) (request : FetchRequest) (defs : List RraDef) (def : RraDef) → old ≡ searched step last request defs → same_function def.function old.request.function ≡ false → old ≡ searched step last request (defs ++ def ∷ [])
unfolding with_best
other_function old step last request defs def is other = grind (arith, candidates_more, cond-false, append-nil, taken)

pub one_compared : (old : Searched) (number step last : ℕ) (request : FetchRequest) (defs : List RraDef) (def : RraDef) → number ≡ length defs → old ≡ searched step last request defs → same_function def.function old.request.function ≡ true → compared old number def ≡ searched step last request (defs ++ def ∷ [])
unfolding with_best
one_compared old number step last request defs def count is same = grind (arith, candidates_more, cond-true, taken_more)

pub first_taken : (asked start : ℕ) (found : Option Candidate) (next c : Candidate) → found ≡ None → next ≡ c → Some next ≡ instead asked start found c
first_taken asked start found next c none e = ap Some e ∙ ap (λ o. instead asked start o c) (sym none)

pub next_taken : (asked start : ℕ) (found : Option Candidate) (next c b : Candidate) → found ≡ Some b → next ≡ c → is_preferred asked start next b ≡ true → Some next ≡ instead asked start found c
next_taken asked start found next c b some e better = grind arith

pub old_stays : (asked start : ℕ) (found : Option Candidate) (next c b : Candidate) → found ≡ Some b → next ≡ c → is_preferred asked start next b ≡ false → found ≡ instead asked start found c
old_stays asked start found next c b some e worse = grind arith
