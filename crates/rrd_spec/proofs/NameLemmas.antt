-- Names differ after a tune, and what its options give.
use Rattle.std.specs.Prelude.{◌≡◌, true, false, cond, not, ◌&&◌, ◌||◌, List, [], ◌∷◌, map, Option, Some, None}
use Rattle.rrd_spec.proofs.Names.{arith, refl, ◌∙◌, ap, ⊎_elim, cond_both, cases_Bool, or_parts, or_from, and_cases, both_ways, not-false, bytes_eq-Decides, list_any, Name, DsDef, Asked, asked, tuned, names, has_source, is_double, Tuning, same_name}

pub same_is : (a b : Name) → same_name a b ≡ true → a ≡ b
same_is a b h = (bytes_eq-Decides a b).0 h

pub same_itself : (a b : Name) → a ≡ b → same_name a b ≡ true
same_itself a b e = (bytes_eq-Decides a b).1 e

apart : (a b : Name) → (a ≡ b → ⊥) → same_name a b ≡ false
apart a b h = ⊎_elim (λ (yes : same_name a b ≡ true). absurd (h (same_is a b yes))) (λ (no : same_name a b ≡ false). no) (cases_Bool (same_name a b))

differ : (a b : Name) → same_name a b ≡ false → a ≡ b → ⊥
differ a b h e = both_ways (same_name a b) h (same_itself a b e)

-- a name in place of another
renamed : Name → Name → Name → Name
renamed old new name = cond (same_name old name) new name

renamed_apart : (old new m n : Name) → same_name m n ≡ false → same_name m new ≡ false → same_name n new ≡ false → same_name (renamed old new m) (renamed old new n) ≡ false
unfolding renamed
renamed_apart old new m n h k l = grind (arith, cond_both, differ, same_is, apart)

none_renamed : (old new name : Name) (list : List Name) → list_any (same_name name) list ≡ false → same_name name new ≡ false → list_any (λ n. same_name n new) list ≡ false → list_any (same_name (renamed old new name)) (map (renamed old new) list) ≡ false
none_renamed old new name [] h k l = refl
none_renamed old new name (n ∷ list) h k l =
    let a = or_parts (same_name name n) (list_any (same_name name) list) h in
    let b = or_parts (same_name n new) (list_any (λ n. same_name n new) list) l in
    or_from _ _ (renamed_apart old new name n a.0 k b.0) (none_renamed old new name list a.1 k b.1)

renamed_differ : (old new : Name) (list : List Name) → is_double list ≡ false → list_any (λ n. same_name n new) list ≡ false → is_double (map (renamed old new) list) ≡ false
renamed_differ old new [] h l = refl
renamed_differ old new (name ∷ list) h l =
    let a = or_parts (list_any (same_name name) list) (is_double list) h in
    let b = or_parts (same_name name new) (list_any (λ n. same_name n new) list) l in
    or_from _ _ (none_renamed old new name list a.0 b.0 b.1) (renamed_differ old new list a.1 b.1)

pub names_tuned : (tuning : Tuning) (sources : List DsDef) → names (map (tuned tuning) sources) ≡ map (λ n. asked tuning.rename n n) (names sources)
names_tuned tuning [] = refl
names_tuned tuning (source ∷ sources) = ap (λ rest. asked tuning.rename source.name source.name ∷ rest) (names_tuned tuning sources)

map_itself : {A : Type 0} (f : A → A) (xs : List A) → ((x : A) → f x ≡ x) → map f xs ≡ xs
map_itself f [] h = refl
map_itself f (x ∷ xs) h = let one = h x in let rest = map_itself f xs h in cc

has_source_names : (sources : List DsDef) (name : Name) → list_any (λ n. same_name n name) (names sources) ≡ has_source sources name
has_source_names [] name = refl
has_source_names (source ∷ sources) name = ap (λ b. same_name source.name name || b) (has_source_names sources name)

pub names_differ : (rename : Option (Asked Name)) (sources : List DsDef) → is_double (names sources) ≡ false → ((option : Asked Name) → rename ≡ Some option → (not (same_name option.0 option.1) && has_source sources option.1) ≡ false) → is_double (map (λ n. asked rename n n) (names sources)) ≡ false
unfolding renamed
names_differ None sources h k = ap is_double (map_itself (λ n. n) (names sources) (λ n. refl)) ∙ h
names_differ (Some option) sources h k =
    ⊎_elim
    (λ (same : not (same_name option.0 option.1) ≡ false).
    let e = same_is option.0 option.1 (not-false (same_name option.0 option.1) same) in
    grind (arith, map_itself, cond_both, same_is))
    (λ (free : has_source sources option.1 ≡ false). renamed_differ option.0 option.1 (names sources) h (has_source_names sources option.1 ∙ free))
    (and_cases (not (same_name option.0 option.1)) (has_source sources option.1) (k option refl))
