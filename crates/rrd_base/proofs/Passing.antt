-- Seconds that pass within a step, and what they leave of a valid content.
use Rattle.std.specs.Prelude.{◌≡◌, ℕ, zero, suc, ◌+◌, ◌*◌, ◌/◌, ◌%◌, ◌<◌, ◌≤◌, List, [], ◌∷◌, length, map, replicate}
use Rattle.rrd_base.proofs.Names.{sym, ◌∙◌, ap, subst, arith, length-replicate, div-mul-add, div-add-mod', fold, AllByRecursion, Cell, Function, Average, Part, nothing, with_each, step_cell, PartsGrow, StaysValidFor, PassesWithin, archive_passed, passed, SecondsOver, Content, Rra, All-replicate, IsPart, AreParts, IsRow, IsValid, base_of_valid}

-- parts with so many seconds more, by the law of parts
pub parts_more : (grow : (function : Function) (sources n : ℕ) (parts : List Part) (row : List Cell) → PartsGrow function sources n parts row) (function : Function) (sources k n : ℕ) (parts : List Part) (row : List Cell) → AreParts function sources k parts → IsRow sources row → AreParts function sources (k + n) (fold (with_each function) parts (replicate n row))
parts_more grow function sources k zero parts row is good = subst (λ m. AreParts function sources m parts) {x = k} {y = k + zero} (omega arith) is
parts_more grow function sources k (suc n) parts row is good = grind (arith, parts_more grow function sources (k + 1) n (with_each function parts row) row (grow function sources k parts row is good) good)

-- what each part of a list has
pub few_known : (function : Function) (k limit : ℕ) (parts : List Part) → k ≤ limit → AllByRecursion (IsPart function k) parts → AllByRecursion (λ (p : Part). p.known ≤ limit) parts
few_known function k limit [] h is = tt
few_known function k limit (part ∷ parts) h is = let few = is.0.few in (omega arith, few_known function k limit parts h is.1)

pub still_fit : (function : Function) (k n limit : ℕ) (parts : List Part) → k + n ≤ limit → AllByRecursion (IsPart function k) parts → AllByRecursion (λ (p : Part). p.known + n ≤ limit) parts
still_fit function k n limit [] h is = tt
still_fit function k n limit (part ∷ parts) h is = let few = is.0.few in (omega arith, still_fit function k n limit parts h is.1)

-- where a step ends
pub within_div : (last n step : ℕ) → 0 < step → last + n < (last / step + 1) * step → (last + n) / step ≡ last / step
within_div last n step some h = grind arith

-- the seconds up to the end of the step are no more than the step
pub within_step : (last n step : ℕ) → 0 < step → last + n ≤ (last / step + 1) * step → last % step + n ≤ step
within_step last n step some h = let split = div-add-mod' last step in omega arith

-- ---- a content of these parts

-- by the law of seconds within a step
pub leaves : (within : (base : Content) (seconds : List (List Cell)) → PassesWithin base seconds) (base : Content) (n : ℕ) (row : List Cell) (parts : List Part) → IsValid base → base.last + n < (base.last / base.step + 1) * base.step → parts ≡ fold (with_each Average) base.parts (replicate n row) → let now : Content = record base { last = base.last + n; parts = parts } in now ≡ passed base (replicate n row)
leaves within base n row parts is h e =
    let ys = replicate n row in
    let count = length-replicate n row in
    sym (within base ys (base_of_valid base is) (omega arith)
    ∙ ap (λ m. let c : Content = record base { last = base.last + m; parts = fold (with_each Average) base.parts ys } in c) count
    ∙ ap (λ ps. let c : Content = record base { last = base.last + n; parts = ps } in c) (sym e))

with_filled : Content → ℕ → List Part → List Rra → Content
with_filled base last parts archives = record base { last = last; parts = parts; archives = archives }

-- by the law of seconds that pass at once
pub ends : (over : (base : Content) (left count : ℕ) (rates : List Cell) → SecondsOver base left count rates) (base : Content) (n k : ℕ) (row cells : List Cell) (parts : List Part) (archives : List Rra) → IsValid base → IsRow (length base.sources) row → base.last + n ≡ (base.last / base.step + 1) * base.step → cells ≡ map (step_cell base.step) (fold (with_each Average) base.parts (replicate n row)) → parts ≡ replicate (length base.sources) nothing → archives ≡ map (archive_passed (length base.sources) (base.last / base.step) (cells ∷ replicate k row)) base.archives → let now : Content = record base { last = base.last + (n + k * base.step); parts = parts; archives = archives } in now ≡ passed base (replicate (n + k * base.step) row)
unfolding with_filled
ends over base n k row cells parts archives is row_is h e p a =
    cc (p, a, e, over base n k row (base_of_valid base is) h row_is.one_each)

-- by the law of seconds, what they leave is valid
pub stays : (content_stays : (base : Content) (seconds : List (List Cell)) → StaysValidFor base seconds) (base now : Content) (n : ℕ) (row : List Cell) → IsValid base → IsRow (length base.sources) row → base.last + n ≤ 9999999999 → now ≡ passed base (replicate n row) → IsValid now
stays content_stays base now n row is row_is in_time e =
    subst IsValid (sym e)
    (content_stays base (replicate n row) is (All-replicate (IsRow (length base.sources)) n row row_is)
    (subst (λ m. base.last + m ≤ 9999999999) (sym (length-replicate n row)) in_time))

-- ---- the number of a step's end

ended_at : (last n k step : ℕ) → last + n ≡ (last / step + 1) * step → last + (n + k * step) ≡ (last / step + (1 + k)) * step + 0
ended_at last n k step h = omega arith

pub ended_div : (last n k step : ℕ) → 0 < step → last + n ≡ (last / step + 1) * step → (last + (n + k * step)) / step ≡ last / step + (1 + k)
ended_div last n k step some h = ap (λ m. m / step) (ended_at last n k step h) ∙ div-mul-add (last / step + (1 + k)) step 0 some
