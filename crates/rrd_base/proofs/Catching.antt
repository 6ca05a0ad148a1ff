-- Seconds up to a time: the rest of a step, whole steps, and the begin of the next.
use Rattle.std.specs.Prelude.{◌≡◌, ℕ, ◌+◌, ◌-◌, ◌*◌, ◌/◌, ◌%◌, ◌<◌, ◌≤◌, List, [], ◌∷◌, length, replicate, sum, map}
use Rattle.rrd_base.proofs.Names.{sym, ◌∙◌, ap, subst, arith, replicate-append-replicate, div-mul-add, mod_below, mul-le, Cell, RraDef, Raw, Sample, Content, Reading, Sampled, IsBase, definitions, content_listed, passed, PassesInPieces, SampledPasses, rows_shown, in_all, least_of_sample, most_of_sample, AreAccepted, IsRow, IsValid, least_of_ends, least_to, most_of_ends, most_to, most_of_steps, base_of_valid}
use Rattle.rrd_base.proofs.Passing.{ended_div, within_div}
use Rattle.rrd_base.proofs.TurnLemmas.{Leaves, leaves_of, passed_leaves, least_by_steps, most_by_steps, least_of_none}
use Rattle.rrd_spec.proofs.GroupLemmas.{next_ahead}

end_ahead : (last step : ℕ) → 0 < step → last + ((last / step + 1) * step - last) ≡ (last / step + 1) * step
end_ahead last step some = omega (arith, next_ahead last step some)

-- the end of the step in progress
abbrev pub end_of_step : Content → ℕ
end_of_step base = (base.last / base.step + 1) * base.step

-- how many whole steps pass after it, up to a time
abbrev pub steps_after : Content → ℕ → ℕ
steps_after base time = (time - end_of_step base) / base.step

-- all seconds up to the end of the last whole step
abbrev pub seconds_to_steps : Content → ℕ → ℕ
seconds_to_steps base time = end_of_step base - base.last + steps_after base time * base.step

-- a content after them
pub record AtLast (base now : Content) (time : ℕ) (row : List Cell) : Type 0 where
  pub within : now.last + (time - end_of_step base) % base.step < (now.last / now.step + 1) * now.step
  pub in_time : now.last + (time - end_of_step base) % base.step ≤ time
  pub row_is : IsRow (length now.sources) row
  pub same : Leaves base now (seconds_to_steps base time)

pub at_last : (base now : Content) (time : ℕ) (row : List Cell) → IsValid base → IsRow (length base.sources) row → end_of_step base ≤ time → now ≡ passed base (replicate (seconds_to_steps base time) row) → AtLast base now time row
at_last base now time row is row_is h e =
    let s = base.step in
    let f = end_of_step base - base.last in
    let k = steps_after base time in
    let left = (time - end_of_step base) % s in
    let same = leaves_of base now (seconds_to_steps base time) row e in
    let fills = end_ahead base.last s is.some_step in
    let number : now.last / now.step ≡ base.last / s + (1 + k) = ap (λ n. n / now.step) same.last ∙ ap (λ m. (base.last + (f + k * s)) / m) same.step ∙ ended_div base.last f k s is.some_step fills in
    record {
      within = subst (λ q. now.last + left < (q + 1) * now.step) (sym number) (subst (λ m. now.last + left < (base.last / s + (1 + k) + 1) * m) (sym same.step) (subst (λ n. n + left < (base.last / s + (1 + k) + 1) * s) (sym same.last) (omega arith)));
      in_time = subst (λ n. n + left ≤ time) (sym same.last) (omega arith);
      row_is = subst (λ ss. IsRow (length ss) row) (sym same.sources) row_is;
      same = same;
    }

-- what both pieces come to, by the law of seconds in two pieces
pub caught_up : (pieces : (base : Content) (xs ys : List (List Cell)) → PassesInPieces base xs ys) (base late now : Content) (time : ℕ) (row : List Cell) → IsValid base → end_of_step base ≤ time → late ≡ passed base (replicate (seconds_to_steps base time) row) → now ≡ passed late (replicate ((time - end_of_step base) % base.step) row) → now ≡ passed base (replicate (time - base.last) row)
caught_up pieces base late now time row is h e g =
    let s = base.step in
    let left = (time - end_of_step base) % s in
    let n = seconds_to_steps base time in
    cc (g, e, pieces base (replicate n row) (replicate left row) (base_of_valid base is), replicate-append-replicate n left row, ap (λ m. passed base (replicate m row)) {x = n + left} {y = time - base.last} (omega arith))

-- ---- their turns

number_at : (last step time : ℕ) → 0 < step → (last / step + 1) * step ≤ time → time / step ≡ last / step + (1 + (time - (last / step + 1) * step) / step)
number_at last step time some h =
    let more = time - (last / step + 1) * step in
    ap (λ n. n / step) {x = time} {y = (last / step + (1 + more / step)) * step + more % step} (omega arith) ∙ div-mul-add (last / step + (1 + more / step)) step (more % step) (mod_below more step some)

pub least_caught : (base : Content) (time : ℕ) → IsValid base → end_of_step base ≤ time → least_to base time ≡ least_of_ends base (steps_after base time)
least_caught base time is h = grind (arith, least_by_steps, number_at)

pub most_caught : (base : Content) (time : ℕ) → IsValid base → end_of_step base ≤ time → most_of_ends base (steps_after base time) + length base.sources ≤ most_to base time
most_caught base time is h =
    let n = length base.sources in
    let defs = definitions base.archives in
    let a = most_of_steps (base.last / base.step) (1 + steps_after base time) defs in
    let y = sum (map (λ (def : RraDef). 8 + rows_shown base.step base.last time def) defs) in
    let m = mul-le n a n y (omega arith) (most_by_steps base.step base.last time (1 + steps_after base time) base.archives (number_at base.last base.step time is.some_step h)) in
    omega arith

-- none of the rows ends within the step
pub least_within : (base : Content) (time : ℕ) → IsValid base → base.last < time → time < end_of_step base → least_to base time ≡ 0
least_within base time is later h =
    let n = length base.sources in
    let e : time / base.step ≡ base.last / base.step + 0 = ap (λ m. m / base.step) {x = time} {y = base.last + (time - base.last)} (omega arith) ∙ within_div base.last (time - base.last) base.step is.some_step (omega arith) ∙ omega arith in
    ap (λ x. n * x) (least_by_steps base.step base.last time 0 base.archives e ∙ least_of_none (base.last / base.step) base.archives) ∙ omega arith

pub most_within : (base : Content) (time : ℕ) → length base.sources ≤ most_to base time
most_within base time = grind arith

-- ---- a sample, and the samples of an update

-- other raw values, which the sources accept
pub with_raws : (base : Content) (raws : List Raw) → IsValid base → AreAccepted base.sources raws → IsValid (record base { raws = raws })
with_raws base raws is accepted = assumption (is, accepted)

-- a sample leaves the steps and the archives' settings, by the law of samples
pub record SameShape (base now : Content) : Type 0 where
  pub step : now.step ≡ base.step
  pub defs : definitions now.archives ≡ definitions base.archives

pub sample_leaves : (passes : (base : Content) (reading : Reading) → SampledPasses base reading) (base now : Content) (reading : Reading) → IsBase base → base.last < reading.time → now ≡ content_listed base (Sampled reading ∷ []) → SameShape base now
sample_leaves passes base now reading is later e = grind (arith, passed_leaves)

-- turns of the next sample, and of those after it
pub turns_next : (turns : ℕ → ℕ → ℕ) (last next : ℕ) (left rest : List Sample) (sample : Sample) → left ≡ sample ∷ rest → next ≡ sample.time → in_all turns last left ≡ turns last sample.time + in_all turns next rest
turns_next turns last next left rest sample h e = ap (in_all turns last) h ∙ ap (λ m. turns last sample.time + in_all turns m rest) (sym e)

pub same_least : (base now : Content) (from to : ℕ) → now.sources ≡ base.sources → SameShape base now → least_of_sample (length now.sources) now.step (definitions now.archives) from to ≡ least_of_sample (length base.sources) base.step (definitions base.archives) from to
same_least base now from to s is = cc (s, is.step, is.defs)

pub same_most : (base now : Content) (from to : ℕ) → now.sources ≡ base.sources → SameShape base now → most_of_sample (length now.sources) now.step (definitions now.archives) from to ≡ most_of_sample (length base.sources) base.step (definitions base.archives) from to
same_most base now from to s is = cc (s, is.step, is.defs)
