-- An update's values, name by name.
use Rattle.std.specs.Prelude.{◌≡◌, ℕ, zero, suc, ◌+◌, ◌<◌, Bool, false, cond, List, [], ◌∷◌, length, drop}
use Rattle.rrd_base.proofs.Names.{refl, sym, ◌∙◌, ap, get_or, arith, or_parts, list_any, Name, same_name, DsDef, Given, names, is_double, value_for}
use Rattle.rrd_spec.proofs.NameLemmas.{same_itself}

-- a sample without values
no_value : (names : List Name) (source : DsDef) → value_for names [] source ≡ Given.Unknown
no_value [] source = refl
no_value (n ∷ ns) source = refl

neither : (found : Bool) (source : DsDef) (names : List Name) → cond found Given.Unknown (value_for names [] source) ≡ Given.Unknown
neither found source names = grind (arith, no_value)

-- the value at the first place that is left, or one further on
value_here : (names : List Name) (values : List Given) (i : ℕ) (d : Name) (source : DsDef) → i < length names → value_for (drop i names) (drop i values) source ≡ cond (same_name (get_or names i d) source.name) (get_or values i Given.Unknown) (value_for (drop (suc i) names) (drop (suc i) values) source)
value_here [] values i d source h = absurd (omega arith)
value_here (n ∷ ns) [] i d source h = grind (arith, neither, no_value)
value_here (n ∷ ns) (v ∷ vs) zero d source h = refl
value_here (n ∷ ns) (v ∷ vs) (suc i) d source h = value_here ns vs i d source (omega arith)

-- the same where the name at this place is the source's or not
pub value_at : (names : List Name) (values : List Given) (i : ℕ) (name : Name) (source : DsDef) (found : Bool) → i < length names → name ≡ get_or names i name → same_name name source.name ≡ found → value_for (drop i names) (drop i values) source ≡ cond found (get_or values i Given.Unknown) (value_for (drop (i + 1) names) (drop (i + 1) values) source)
value_at names values i name source found h is same = cc (value_here names values i name source h, ap (λ n. same_name n source.name) (sym is) ∙ same, ap (λ n. cond found (get_or values i Given.Unknown) (value_for (drop n names) (drop n values) source)) {x = suc i} {y = i + 1} (omega arith))

-- ---- without a template

another : (name : Name) (sources : List DsDef) (i : ℕ) (d : DsDef) → list_any (same_name name) (names sources) ≡ false → i < length sources → same_name name (get_or sources i d).name ≡ false
another name [] i d none h = absurd (omega arith)
another name (s ∷ ss) zero d none h = (or_parts (same_name name s.name) (list_any (same_name name) (names ss)) none).0
another name (s ∷ ss) (suc i) d none h = another name ss i d (or_parts (same_name name s.name) (list_any (same_name name) (names ss)) none).1 (omega arith)

-- where names differ, the value for a source is that in its place
pub own_value : (sources : List DsDef) (values : List Given) (i : ℕ) (d : DsDef) → is_double (names sources) ≡ false → i < length sources → get_or values i Given.Unknown ≡ value_for (names sources) values (get_or sources i d)
own_value [] values i d differ h = absurd (omega arith)
own_value (s ∷ ss) [] i d differ h = refl
own_value (s ∷ ss) (v ∷ vs) zero d differ h = sym (ap (λ b. cond b v (value_for (names ss) vs s)) (same_itself s.name s.name refl))
own_value (s ∷ ss) (v ∷ vs) (suc i) d differ h =
    let parts = or_parts (list_any (same_name s.name) (names ss)) (is_double (names ss)) differ in
    cc (own_value ss vs i d parts.1 (omega arith), another s.name ss i d parts.0 (omega arith))
