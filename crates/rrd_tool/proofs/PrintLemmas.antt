-- Texts one after another.
use Rattle.std.specs.Prelude.{◌≡◌, Ok, Err, ◌+◌, ◌-◌, ◌*◌, ◌/◌, ◌++◌, ℕ, List, Option, zero, suc, [], ◌∷◌, ◌≤◌, ◌<◌, codes, take, length, slice_get}
use Rattle.rrd_tool.proofs.Names.{◌∙◌, sym, ap, refl, append_assoc, append-nil, add-one, arith, inl, inr, get_or, take_more, cases_lt, slice_get_read, Appends, option_map_or, DsDef, AppendsFront, writes_stop, writes_then, names_text, texts_below}

pub below_more : (f : ℕ → List ℕ) (n : ℕ) → texts_below f (n + 1) ≡ texts_below f n ++ f n
below_more f n = rw add-one refl

below_split : (f : ℕ → List ℕ) (n k : ℕ) → k ≤ n → (rest : List ℕ) × (texts_below f n ≡ texts_below f k ++ rest)
below_split f zero k le = grind arith
below_split f (suc n) k le = elim (cases_lt k (suc n)) [
  | inl lt ↦ let split = below_split f n k (omega arith) in (split.0 ++ f n, ap (λ l. l ++ f n) split.1 ∙ append_assoc (texts_below f k) split.0 (f n))
  | inr ge ↦ let same : k ≡ suc n = omega arith in ([], rw same (sym (append-nil (texts_below f n ++ f n))))
]

-- a fault among the first texts is one among all
pub front_below : (a b : Option (List ℕ)) (f : ℕ → List ℕ) (k n : ℕ) → k ≤ n → AppendsFront a b (texts_below f k) → AppendsFront a b (texts_below f n)
front_below a b f k n le p =
    let split = below_split f n k le in
    rw split.1 (writes_stop a b (texts_below f k) split.0 p)

-- one more of them is written
pub one_more : (a b c : Option (List ℕ)) (f : ℕ → List ℕ) (k : ℕ) → Appends a b (texts_below f k) → Appends b c (f k) → Appends a c (texts_below f (k + 1))
one_more a b c f k p q = rw (below_more f k) (writes_then {T = Unit {0}} a b c (texts_below f k) (f k) (Ok (tt {0})) p q)

-- writing the next of them fails
pub one_stops : (a b c : Option (List ℕ)) (f : ℕ → List ℕ) (k n : ℕ) → k < n → Appends a b (texts_below f k) → AppendsFront b c (f k) → AppendsFront a c (texts_below f n)
one_stops a b c f k n less p q =
    let both : AppendsFront a c (texts_below f k ++ f k) = writes_then {T = Unit {0}} a b c (texts_below f k) (f k) (Err (record {})) p q in
    let more : AppendsFront a c (texts_below f (k + 1)) = rw (below_more f k) both in
    front_below a c f (k + 1) n (omega (arith, less)) more

-- the text of what stands in a place
pub at_place : {A : Type 0} (f : A → List ℕ) (items : List A) (i : ℕ) (x : A) → i < length items → x ≡ get_or items i x → option_map_or f (slice_get items i) [] ≡ f x
at_place f items i x inside is = rw (slice_get_read items (length items) i x refl inside is) refl

names-append : (xs ys : List DsDef) → names_text (xs ++ ys) ≡ names_text xs ++ names_text ys
names-append [] ys = refl
names-append (x ∷ xs) ys = ap (λ l. codes " " ++ x.name ++ l) (names-append xs ys) ∙ sym (append_assoc (codes " " ++ x.name) (names_text xs) (names_text ys))

-- one more name
pub names_more : (sources : List DsDef) (i : ℕ) (source : DsDef) → i < length sources → source ≡ get_or sources i source
    → names_text (take (i + 1) sources) ≡ names_text (take i sources) ++ codes " " ++ source.name
names_more sources i source inside is = cc (take_more sources i source inside, names-append (take i sources) (get_or sources i source ∷ []), is, append-nil (codes " " ++ source.name), append_assoc (names_text (take i sources)) (codes " ") source.name)

-- the rows up to the last one end by then
pub within : (k res lo hi : ℕ) → 0 < res → k < (hi - lo) / res → lo + (k + 1) * res ≤ hi
within k res lo hi some below = grind arith
