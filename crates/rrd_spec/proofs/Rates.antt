-- Rates stay in their bounds.
use Rattle.std.specs.Prelude.{◌≡◌, ℕ, zero, suc, ◌+◌, ◌-◌, ◌<◌, ◌≤◌, List, [], ◌∷◌, length, map, ℤ, pos, ◌+ℤ◌, ◌-ℤ◌, ◌≤ℤ◌, unsigned_abs, ◌^◌, Option}
use Rattle.rrd_spec.proofs.Names.{common_steps, refl, ap, arith, ◌*ℤ◌, ◌<ℤ◌, neg_ℤ, ints, cond_both, lt-leb, le-leb, fold, range_with_len, AllByRecursion, Cell, Raw, Kind, Gauge, Counter, Derive, Absolute, top, rise, raised_if_negative, plain_rate, cell_within, rate, IsAccepted, IsBounded, near_limit, DsDef, Sampled, Moment, moment_after, rates, samples, second, seconds, IsHistory, AreAccepted, IsRow}
use Rattle.rrd_spec.specs.History.{Reading}

-- ---- one source

raised_cases : (by z : ℤ) (P : ℤ → Type 0) → (z <ℤ pos 0 → P (z +ℤ by)) → (pos 0 ≤ℤ z → P z) → P (raised_if_negative by z)
raised_cases by z P f g = grind arith

-- a wrap at 2 ^ 32 leaves no more than one at 2 ^ 64 makes up for
record Raised (z : ℤ) : Type 0 where
  low : neg_ℤ (pos (2 ^ 64)) <ℤ (z -ℤ pos (2 ^ 32))
  high : z <ℤ pos (2 ^ 64)

rise_bounded : (old new : ℤ) → pos 0 ≤ℤ old → old <ℤ pos (2 ^ 64) → pos 0 ≤ℤ new → new <ℤ pos (2 ^ 64) → unsigned_abs (rise old new) ≤ 2 ^ 64 - 1
rise_bounded old new a b c d = grind (arith, common_steps, pos, raised_cases)

plain_bounded : (kind : Kind) (old new : Raw) (interval : ℕ) → 0 < interval → IsAccepted kind old → IsAccepted kind new → IsBounded (plain_rate kind old new interval)
plain_bounded kind old Raw.Unknown interval some a b = tt
plain_bounded Gauge old (Raw.Known new) interval some a b = omega arith
plain_bounded Absolute old (Raw.Known new) interval some a b = near_limit new interval top some (omega arith)
plain_bounded Counter Raw.Unknown (Raw.Known new) interval some a b = tt
plain_bounded Counter (Raw.Known old) (Raw.Known new) interval some a b =
    near_limit (rise old new *ℤ pos (10 ^ 6)) interval top some (omega (arith, ints, rise_bounded old new a.0 a.1 b.0 b.1))
plain_bounded Derive Raw.Unknown (Raw.Known new) interval some a b = tt
plain_bounded Derive (Raw.Known old) (Raw.Known new) interval some a b =
    near_limit ((new -ℤ old) *ℤ pos (10 ^ 6)) interval top some (omega (arith, ints, a.0, a.1, b.0, b.1))

within_bounded : (min max : Option ℤ) (cell : Cell) → IsBounded cell → IsBounded (cell_within min max cell)
within_bounded min max Cell.Unknown h = tt
within_bounded min max (Cell.Known value) h = grind arith

pub rate_bounded : (kind : Kind) (old new : Raw) (interval heartbeat : ℕ) (min max : Option ℤ) → 0 < interval → IsAccepted kind old → IsAccepted kind new → IsBounded (rate kind old new interval heartbeat min max)
rate_bounded kind old new interval heartbeat min max some a b = grind (arith, common_steps, cond_both, within_bounded, plain_bounded)

-- ---- all sources

length-rates : (sources : List DsDef) (interval : ℕ) (olds news : List Raw) → AreAccepted sources olds → AreAccepted sources news → length (rates sources interval olds news) ≡ length sources
length-rates [] interval olds news a b = refl
length-rates (source ∷ sources) interval [] news a b = absurd a
length-rates (source ∷ sources) interval (old ∷ olds) [] a b = absurd b
length-rates (source ∷ sources) interval (old ∷ olds) (new ∷ news) a b = ap suc (length-rates sources interval olds news a.1 b.1)

rates_bounded : (sources : List DsDef) (interval : ℕ) (olds news : List Raw) → 0 < interval → AreAccepted sources olds → AreAccepted sources news → AllByRecursion IsBounded (rates sources interval olds news)
rates_bounded [] interval olds news some a b = tt
rates_bounded (source ∷ sources) interval [] news some a b = absurd a
rates_bounded (source ∷ sources) interval (old ∷ olds) [] some a b = absurd b
rates_bounded (source ∷ sources) interval (old ∷ olds) (new ∷ news) some a b = grind (arith, rate_bounded, rates_bounded sources interval olds news some a.1 b.1)

second_row : (now : Moment) (list : List Reading) (at : ℕ) → AreAccepted now.sources now.raws → AllByRecursion (λ (sample : Reading). AreAccepted now.sources sample.raws) list → IsHistory now (map Sampled list) → now.last < at → at ≤ (fold moment_after now (map Sampled list)).last → IsRow (length now.sources) (second (samples now (map Sampled list)) at)
second_row now [] at a is h low high = absurd (omega arith)
second_row now (sample ∷ list) at a is h low high = grind (arith, lt-leb, second_row (moment_after now (Sampled sample)) list, le-leb, length-rates, rates_bounded)

map_range_all : {B : Type 0} (P : B → Type 0) (f : ℕ → B) (a n : ℕ) → ((i : ℕ) → a ≤ i → i < a + n → P (f i)) → AllByRecursion P (map f (range_with_len a n))
map_range_all P f a zero h = tt
map_range_all P f a (suc n) h = (h a (omega arith) (omega arith), map_range_all P f (a + 1) n (λ i low high. h i (omega arith) (omega arith)))

pub seconds_rows : (now : Moment) (list : List Reading) → AreAccepted now.sources now.raws → AllByRecursion (λ (sample : Reading). AreAccepted now.sources sample.raws) list → IsHistory now (map Sampled list) → AllByRecursion (IsRow (length now.sources)) (seconds (samples now (map Sampled list)) now.last (fold moment_after now (map Sampled list)).last)
seconds_rows now list a is h =
    let end = (fold moment_after now (map Sampled list)).last in
    map_range_all (IsRow (length now.sources)) (second (samples now (map Sampled list))) (now.last + 1) (end - now.last)
    (λ i low high. second_row now list i a is h (omega arith) (omega arith))
