-- A history in two pieces.
use Rattle.std.specs.Prelude.{◌≡◌, ℕ, zero, suc, ◌+◌, ◌-◌, ◌/◌, ◌<◌, ◌≤◌, List, [], ◌∷◌, ◌++◌, length, map}
use Rattle.rrd_spec.proofs.Names.{common_steps, refl, ◌∙◌, ap, arith, le-leb, lt-leb, map-append, fold-append, length-map-range_with_len, fold, range_with_len, seconds_to_steps, steps_of, parts_of, steps_to_rows, rows_of, row_parts_of, Rra, Content, Event, Sampled, Tuned, Resized, Added, Removed, Moment, moment_after, moment_of, moment_at_end, rates, Taken, samples, second, seconds, seconds_of, IsHistory, archive_of, content_listed}
use Rattle.rrd_spec.proofs.GroupLemmas.{goes_on, map_range_same, length-finished, reached_before}

-- ---- samples

samples-append : (now : Moment) (es fs : List Event) → samples now (es ++ fs) ≡ samples now es ++ samples (fold moment_after now es) fs
samples-append now [] fs = refl
samples-append now (Sampled sample ∷ es) fs = ap (λ rest. record { time = sample.time; rates = rates now.sources (sample.time - now.last) now.raws sample.raws } ∷ rest) (samples-append (moment_after now (Sampled sample)) es fs)
samples-append now (Tuned sources ∷ es) fs = samples-append (moment_after now (Tuned sources)) es fs
samples-append now (Resized archive rows ∷ es) fs = samples-append now es fs
samples-append now (Added def ∷ es) fs = samples-append now es fs
samples-append now (Removed archive ∷ es) fs = samples-append now es fs

-- the last time doesn't fall
pub last_rises : (now : Moment) (es : List Event) → IsHistory now es → now.last ≤ (fold moment_after now es).last
last_rises now [] h = omega arith
last_rises now (Sampled sample ∷ es) h = omega (arith, h.0, last_rises (moment_after now (Sampled sample)) es h.1)
last_rises now (Tuned sources ∷ es) h = last_rises (moment_after now (Tuned sources)) es h.1
last_rises now (Resized archive rows ∷ es) h = last_rises now es h.1
last_rises now (Added def ∷ es) h = last_rises now es h.2
last_rises now (Removed archive ∷ es) h = last_rises now es h

-- a second is the first history's up to its last time
second_before : (now : Moment) (es : List Event) (later : List Taken) (at : ℕ) → IsHistory now es → now.last < at → at ≤ (fold moment_after now es).last → second (samples now es ++ later) at ≡ second (samples now es) at
second_before now [] later at h low high = absurd (omega arith)
second_before now (Sampled sample ∷ es) later at h low high = grind (arith, common_steps, lt-leb, second_before (moment_after now (Sampled sample)) es later, le-leb)
second_before now (Tuned sources ∷ es) later at h low high = second_before (moment_after now (Tuned sources)) es later at h.1 low high
second_before now (Resized archive rows ∷ es) later at h low high = second_before now es later at h.1 low high
second_before now (Added def ∷ es) later at h low high = second_before now es later at h.2 low high
second_before now (Removed archive ∷ es) later at h low high = second_before now es later at h low high

-- and the second one's from then on
pub second_after : (now : Moment) (es : List Event) (later : List Taken) (at : ℕ) → IsHistory now es → (fold moment_after now es).last < at → second (samples now es ++ later) at ≡ second later at
second_after now [] later at h low = refl
second_after now (Sampled sample ∷ es) later at h low =
    let next = moment_after now (Sampled sample) in
    grind (arith, common_steps, last_rises, lt-leb, second_after next es later)
second_after now (Tuned sources ∷ es) later at h low = second_after (moment_after now (Tuned sources)) es later at h.1 low
second_after now (Resized archive rows ∷ es) later at h low = second_after now es later at h.1 low
second_after now (Added def ∷ es) later at h low = second_after now es later at h.2 low
second_after now (Removed archive ∷ es) later at h low = second_after now es later at h low

range_split : (a m n : ℕ) → range_with_len a (m + n) ≡ range_with_len a m ++ range_with_len (a + m) n
range_split a zero n = grind arith
range_split a (suc m) n = cc (ap (range_with_len a) {x = suc m + n} {y = suc (m + n)} (omega arith), range_split (a + 1) m n ∙ ap (λ b. range_with_len (a + 1) m ++ range_with_len b n) {x = a + 1 + m} {y = a + suc m} (omega arith))

seconds-append : (now : Moment) (es fs : List Event) → IsHistory now es → IsHistory (fold moment_after now es) fs → seconds (samples now (es ++ fs)) now.last (fold moment_after now (es ++ fs)).last ≡ seconds (samples now es) now.last (fold moment_after now es).last ++ seconds (samples (fold moment_after now es) fs) (fold moment_after now es).last (fold moment_after (fold moment_after now es) fs).last
seconds-append now es fs h k =
    let mid = fold moment_after now es in
    let end = fold moment_after mid fs in
    let first = now.last + 1 in
    let m = mid.last - now.last in
    let n = end.last - mid.last in
    let low = last_rises now es h in
    let high = last_rises mid fs k in
    let later = samples mid fs in
    let all = samples now es ++ later in
    ap (λ taken. map (second taken) (range_with_len first ((fold moment_after now (es ++ fs)).last - now.last))) (samples-append now es fs)
    ∙ ap (λ (e : Moment). map (second all) (range_with_len first (e.last - now.last))) (fold-append moment_after now es fs)
    ∙ ap (λ t. map (second all) (range_with_len first t)) {x = end.last - now.last} {y = m + n} (omega arith)
    ∙ ap (map (second all)) (range_split first m n)
    ∙ map-append (second all) (range_with_len first m) (range_with_len (first + m) n)
    ∙ ap (λ zs. zs ++ map (second all) (range_with_len (first + m) n)) (map_range_same (second all) (second (samples now es)) first m (λ i a b. second_before now es later i h (omega arith) (omega arith)))
    ∙ ap (λ b. map (second (samples now es)) (range_with_len first m) ++ map (second all) (range_with_len b n)) {x = first + m} {y = mid.last + 1} (omega arith)
    ∙ ap (λ zs. map (second (samples now es)) (range_with_len first m) ++ zs) (map_range_same (second all) (second later) (mid.last + 1) n (λ i a b. second_after now es later i h (omega arith)))

-- ---- the content after the first piece, as a base

pub length-sources : (now : Moment) (es : List Event) → IsHistory now es → length (fold moment_after now es).sources ≡ length now.sources
length-sources now [] h = refl
length-sources now (Sampled sample ∷ es) h = length-sources (moment_after now (Sampled sample)) es h.1
length-sources now (Tuned sources ∷ es) h = length-sources (moment_after now (Tuned sources)) es h.1 ∙ h.0
length-sources now (Resized archive rows ∷ es) h = length-sources now es h.1
length-sources now (Added def ∷ es) h = length-sources now es h.2
length-sources now (Removed archive ∷ es) h = length-sources now es h

pub seconds_of-append : (base : Content) (es fs : List Event) → IsHistory (moment_of base) es → IsHistory (moment_at_end base es) fs → seconds_of base (es ++ fs) ≡ seconds_of base es ++ seconds_of (content_listed base es) fs
unfolding content_listed seconds_of
seconds_of-append base es fs h k = seconds-append (moment_of base) es fs h k

pub length-seconds_of : (base : Content) (es : List Event) → IsHistory (moment_of base) es → base.last + length (seconds_of base es) ≡ (moment_at_end base es).last
unfolding seconds_of
length-seconds_of base es h =
    omega (arith, last_rises (moment_of base) es h, length-map-range_with_len (second (samples (moment_of base) es)) (base.last + 1) ((moment_at_end base es).last - base.last))

pub steps_of-append : (base : Content) (es fs : List Event) → 0 < base.step → IsHistory (moment_of base) es → IsHistory (moment_at_end base es) fs → steps_of base (es ++ fs) ≡ steps_of base es ++ steps_of (content_listed base es) fs
unfolding content_listed steps_of parts_of
steps_of-append base es fs pos h k = grind (arith, goes_on, seconds_of-append, length-seconds_of, length-sources)

pub parts_of-append : (base : Content) (es fs : List Event) → 0 < base.step → IsHistory (moment_of base) es → IsHistory (moment_at_end base es) fs → parts_of base (es ++ fs) ≡ parts_of (content_listed base es) fs
unfolding content_listed parts_of
parts_of-append base es fs pos h k =
    let B = seconds_of (content_listed base es) fs in
    grind (arith, goes_on (seconds_to_steps base.step (length base.sources)) base.last base.parts (seconds_of base es) B pos, seconds_of-append base es fs h k, length-seconds_of base es h, length-sources (moment_of base) es h)

pub length-steps_of : (base : Content) (es : List Event) → 0 < base.step → IsHistory (moment_of base) es → base.last / base.step + length (steps_of base es) ≡ (moment_at_end base es).last / base.step
unfolding steps_of
length-steps_of base es pos h = grind (arith, length-finished (seconds_to_steps base.step (length base.sources)) base.last base.parts (seconds_of base es), length-seconds_of base es h, reached_before base.last (length (seconds_of base es)) base.step pos)

pub rows_of-append : (base : Content) (index : ℕ) (archive : Rra) (es fs : List Event) → 0 < base.step → 0 < archive.def.steps → IsHistory (moment_of base) es → IsHistory (moment_at_end base es) fs → rows_of base archive (es ++ fs) ≡ rows_of base archive es ++ rows_of (content_listed base es) (archive_of base es (index, archive)) fs
unfolding content_listed rows_of row_parts_of
rows_of-append base index archive es fs pos some h k = grind (arith, goes_on, steps_of-append, length-steps_of, length-sources)

pub row_parts_of-append : (base : Content) (index : ℕ) (archive : Rra) (es fs : List Event) → 0 < base.step → 0 < archive.def.steps → IsHistory (moment_of base) es → IsHistory (moment_at_end base es) fs → row_parts_of base archive (es ++ fs) ≡ row_parts_of (content_listed base es) (archive_of base es (index, archive)) fs
unfolding content_listed rows_of row_parts_of
row_parts_of-append base index archive es fs pos some h k =
    let B = steps_of (content_listed base es) fs in
    let on = goes_on (steps_to_rows archive.def (length base.sources)) (base.last / base.step) archive.parts (steps_of base es) B some in
    cc (steps_of-append base es fs pos h k, on.unfinished_is, length-steps_of base es pos h, length-sources (moment_of base) es h)

-- ---- two histories, one after the other

pub IsHistory-append : (now : Moment) (es fs : List Event) → IsHistory now es → IsHistory (fold moment_after now es) fs → IsHistory now (es ++ fs)
IsHistory-append now [] fs h k = k
IsHistory-append now (Sampled sample ∷ es) fs h k = (h.0, IsHistory-append (moment_after now (Sampled sample)) es fs h.1 k)
IsHistory-append now (Tuned sources ∷ es) fs h k = (h.0, IsHistory-append (moment_after now (Tuned sources)) es fs h.1 k)
IsHistory-append now (Resized archive rows ∷ es) fs h k = (h.0, IsHistory-append now es fs h.1 k)
IsHistory-append now (Added def ∷ es) fs h k = (h.0, h.1, IsHistory-append now es fs h.2 k)
IsHistory-append now (Removed archive ∷ es) fs h k = IsHistory-append now es fs h k
