-- How many turns there are.
use Rattle.std.specs.Prelude.{◌≡◌, ℕ, zero, suc, ◌+◌, ◌-◌, ◌*◌, ◌/◌, ◌<◌, ◌≤◌, List, [], ◌∷◌, length, take, map, replicate, sum}
use Rattle.rrd_base.proofs.Names.{refl, sym, ◌∙◌, ap, subst, get_or, arith, div-div-eq-div-mul, length-replicate, mul-le, fold, Cell, RraDef, Rra, Content, definitions, rows_of_archives, IsValid, archive_passed, passed, rows_shown, most_of_sample, rows_pushed, least_of_steps, most_of_steps}

-- ---- archive by archive

from_any : (a : ℕ) (xs : List ℕ) → fold ◌+◌ a xs ≡ a + sum xs
from_any a [] = omega arith
from_any a (x ∷ xs) = from_any (a + x) xs ∙ omega (arith, from_any x xs, from_any (0 + x) xs)

pub sum_first : (n : ℕ) (ns : List ℕ) → sum (n ∷ ns) ≡ n + sum ns
sum_first n ns = from_any (0 + n) ns ∙ omega arith

sum_next : (f : RraDef → ℕ) (archives : List Rra) (i : ℕ) (d : Rra) → i < length archives → sum (map f (definitions (take (suc i) archives))) ≡ sum (map f (definitions (take i archives))) + f (get_or archives i d).def
sum_next f [] i d h = absurd (omega arith)
sum_next f (a ∷ rest) zero d h = let one = sum_first (f a.def) [] in omega arith
sum_next f (a ∷ rest) (suc i) d h = grind (arith, sum_first, sum_next f rest i d (omega arith))

pub sum_more : (f : RraDef → ℕ) (archives : List Rra) (i : ℕ) (d : Rra) → i < length archives → sum (map f (definitions (take (i + 1) archives))) ≡ sum (map f (definitions (take i archives))) + f (get_or archives i d).def
sum_more f archives i d h = ap (λ k. sum (map f (definitions (take k archives)))) {x = i + 1} {y = suc i} (omega arith) ∙ sum_next f archives i d h

pub sum_within : (f : RraDef → ℕ) (archives : List Rra) (i : ℕ) → sum (map f (definitions (take i archives))) ≤ sum (map f (definitions archives))
sum_within f archives zero = omega arith
sum_within f [] (suc i) = omega arith
sum_within f (a ∷ rest) (suc i) = grind (arith, sum_first, sum_within f rest i)

-- ---- no more than a valid database allows

most_in_all : (step from to : ℕ) (archives : List Rra) → sum (map (λ (def : RraDef). 8 + rows_shown step from to def) (definitions archives)) ≤ 8 * length archives + sum (rows_of_archives archives)
most_in_all step from to [] = omega arith
most_in_all step from to (a ∷ rest) = grind (arith, sum_first, most_in_all step from to rest)

pub few_turns : (base : Content) (from to : ℕ) → IsValid base → most_of_sample (length base.sources) base.step (definitions base.archives) from to ≤ 9000000
few_turns base from to is =
    let n = length base.sources in
    let m = length base.archives in
    let r = sum (rows_of_archives base.archives) in
    let s = sum (map (λ (def : RraDef). 8 + rows_shown base.step from to def) (definitions base.archives)) in
    let all = mul-le n (3 + s) n (3 + (8 * m + r)) (omega arith) (omega (arith, most_in_all base.step from to base.archives)) in
    grind arith

-- ---- a sample, by the steps that end in its interval

rows_by_steps : (step last time k : ℕ) (def : RraDef) → time / step ≡ last / step + k → rows_shown step last time def ≡ rows_pushed (last / step) k def
rows_by_steps step last time k def at = cc (ap (λ n. n - last / (step * def.steps)) (sym (div-div-eq-div-mul time step def.steps)) ∙ ap (λ n. time / step / def.steps - n) (sym (div-div-eq-div-mul last step def.steps)) ∙ ap (λ n. n / def.steps - last / step / def.steps) at)

pub least_by_steps : (step last time k : ℕ) (archives : List Rra) → time / step ≡ last / step + k → sum (map (rows_shown step last time) (definitions archives)) ≡ least_of_steps (last / step) k (definitions archives)
least_by_steps step last time k [] at = refl
least_by_steps step last time k (a ∷ rest) at = grind (arith, sum_first, rows_by_steps, least_by_steps step last time k rest)

pub most_by_steps : (step last time k : ℕ) (archives : List Rra) → time / step ≡ last / step + k → most_of_steps (last / step) k (definitions archives) ≤ sum (map (λ (def : RraDef). 8 + rows_shown step last time def) (definitions archives))
most_by_steps step last time k [] at = omega arith
most_by_steps step last time k (a ∷ rest) at = grind (arith, sum_first, rows_by_steps, most_by_steps step last time k rest)

-- none of the rows ends where no step does
pub least_of_none : (before : ℕ) (archives : List Rra) → least_of_steps before 0 (definitions archives) ≡ 0
least_of_none before [] = refl
least_of_none before (a ∷ rest) = grind (arith, sum_first, least_of_none before rest)

-- ---- what seconds leave as it is

defs_stay : (sources before : ℕ) (steps : List (List Cell)) (archives : List Rra) → definitions (map (archive_passed sources before steps) archives) ≡ definitions archives
unfolding archive_passed
defs_stay sources before steps [] = refl
defs_stay sources before steps (a ∷ rest) = ap (λ defs. a.def ∷ defs) (defs_stay sources before steps rest)

pub record Leaves (base now : Content) (n : ℕ) : Type 0 where
  pub last : now.last ≡ base.last + n
  pub step : now.step ≡ base.step
  pub sources : now.sources ≡ base.sources
  pub raws : now.raws ≡ base.raws
  pub defs : definitions now.archives ≡ definitions base.archives

pub passed_leaves : (base : Content) (n : ℕ) (row : List Cell) → Leaves base (passed base (replicate n row)) n
unfolding passed
passed_leaves base n row = record {
  last = ap (λ k. base.last + k) (length-replicate n row);
  step = refl;
  sources = refl;
  raws = refl;
  defs = defs_stay (length base.sources) (base.last / base.step) _ base.archives;
}

pub leaves_of : (base now : Content) (n : ℕ) (row : List Cell) → now ≡ passed base (replicate n row) → Leaves base now n
leaves_of base now n row e = subst (λ x. Leaves base x n) (sym e) (passed_leaves base n row)
