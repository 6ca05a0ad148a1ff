-- Seconds that pass in pieces, and a sample's.
use Rattle.std.specs.Prelude.{◌≡◌, ℕ, zero, suc, ◌+◌, ◌-◌, ◌*◌, ◌/◌, ◌<◌, ◌≤◌, List, [], ◌∷◌, ◌++◌, length, map, replicate}
use Rattle.rrd_spec.proofs.Names.{common_steps, refl, sym, ◌∙◌, ap, arith, length-append, append_assoc, append-nil, le-leb, fold, range_with_len, enumerate_from, AllByRecursion, Cell, Average, finished, unfinished, Part, with_each, seconds_to_steps, steps_of, parts_of, steps_to_rows, rows_of, row_parts_of, Rra, Content, Sampled, rates, seconds_of, IsArchive, IsBase, keep_last, kept_rows, archive_of, content_listed, archive_passed, passed, length-keep_last, keep_last-append}
use Rattle.rrd_spec.specs.History.{Reading}
use Rattle.rrd_spec.proofs.GroupLemmas.{finished_nil, unfinished_nil, finished_within, unfinished_within, goes_on, length-finished, reached_before}
use Rattle.rrd_spec.proofs.RowLemmas.{filled_already}

pub archive_passed-append : (sources before middle : ℕ) (archive : Rra) (xs ys : List (List Cell)) → 0 < archive.def.steps → before + length xs ≡ middle → archive_passed sources before (xs ++ ys) archive ≡ archive_passed sources middle ys (archive_passed sources before xs archive)
unfolding archive_passed
archive_passed-append sources before middle archive xs ys some at =
    let rule = steps_to_rows archive.def sources in
    let part = unfinished rule before archive.parts xs in
    let on = goes_on rule before archive.parts xs ys some in
    let old = archive.rows in
    let first = finished rule before archive.parts xs in
    let later = finished rule middle part ys in
    let parts : unfinished rule before archive.parts (xs ++ ys) ≡ unfinished rule middle part ys = on.unfinished_is ∙ ap (λ n. unfinished rule n part ys) at in
    let all : finished rule before archive.parts (xs ++ ys) ≡ first ++ later = on.finished_is ∙ ap (λ n. first ++ finished rule n part ys) at in
    let count : length (keep_last (length old) (old ++ first)) ≡ length old = length-keep_last (length old) (old ++ first) (omega (arith, length-append old first)) in
    let rows : keep_last (length old) (old ++ finished rule before archive.parts (xs ++ ys)) ≡ keep_last (length (keep_last (length old) (old ++ first))) (keep_last (length old) (old ++ first) ++ later)
    = ap (λ zs. keep_last (length old) (old ++ zs)) all
    ∙ ap (keep_last (length old)) (sym (append_assoc old first later))
    ∙ keep_last-append (length old) (old ++ first) later (omega (arith, length-append old first))
    ∙ ap (λ n. keep_last n (keep_last (length old) (old ++ first) ++ later)) (sym count) in
    cc

archives_passed-append : (sources before middle : ℕ) (archives : List Rra) (xs ys : List (List Cell)) → AllByRecursion IsArchive archives → before + length xs ≡ middle → map (archive_passed sources before (xs ++ ys)) archives ≡ map (archive_passed sources middle ys) (map (archive_passed sources before xs) archives)
archives_passed-append sources before middle [] xs ys is at = refl
archives_passed-append sources before middle (archive ∷ archives) xs ys is at = grind (arith, archive_passed-append, archives_passed-append sources before middle archives xs ys is.1)

unfoldable pub with_passed : Content → ℕ → List Part → List Rra → Content
with_passed base last parts archives = record base { last = last; parts = parts; archives = archives }

pub passed-append : (base : Content) (xs ys : List (List Cell)) → IsBase base → passed base (xs ++ ys) ≡ passed (passed base xs) ys
unfolding passed with_passed
passed-append base xs ys is =
    let n = length base.sources in
    let rule = seconds_to_steps base.step n in
    let middle = base.last + length xs in
    let on = goes_on rule base.last base.parts xs ys is.some_step in
    let steps = finished rule base.last base.parts xs in
    let count : base.last / base.step + length steps ≡ middle / base.step = omega (arith, length-finished rule base.last base.parts xs, reached_before base.last (length xs) base.step is.some_step) in
    grind (arith, length-append, archives_passed-append)

-- a sample's seconds
map_same : {B : Type 0} (f : ℕ → B) (b : B) (a n : ℕ) → ((i : ℕ) → a ≤ i → i < a + n → f i ≡ b) → map f (range_with_len a n) ≡ replicate n b
map_same f b a zero h = refl
map_same f b a (suc n) h = grind (arith, map_same f b (a + 1) n (λ i low high. h i (omega arith) (omega arith)))

seconds_of_sample : (base : Content) (sample : Reading) → base.last < sample.time → seconds_of base (Sampled sample ∷ []) ≡ replicate (sample.time - base.last) (rates base.sources (sample.time - base.last) base.raws sample.raws)
unfolding seconds_of
seconds_of_sample base sample h = grind (arith, map_same, le-leb)

archive_of_sample : (base : Content) (index : ℕ) (archive : Rra) (sample : Reading) → IsArchive archive → base.last < sample.time → archive_of base (Sampled sample ∷ []) (index, archive) ≡ archive_passed (length base.sources) (base.last / base.step) (steps_of base (Sampled sample ∷ [])) archive
unfolding archive_passed rows_of row_parts_of kept_rows
archive_of_sample base index archive sample is h = grind (arith, common_steps, length-append, filled_already)

archives_of_sample : (base : Content) (index : ℕ) (archives : List Rra) (sample : Reading) → AllByRecursion IsArchive archives → base.last < sample.time → map (archive_of base (Sampled sample ∷ [])) (enumerate_from index archives) ≡ map (archive_passed (length base.sources) (base.last / base.step) (steps_of base (Sampled sample ∷ []))) archives
archives_of_sample base index [] sample is h = refl
archives_of_sample base index (archive ∷ archives) sample is h = grind (arith, archive_of_sample, archives_of_sample base (index + 1) archives sample is.1 h)

pub content_of_sample : (base : Content) (sample : Reading) → IsBase base → base.last < sample.time → content_listed base (Sampled sample ∷ []) ≡ record (passed base (replicate (sample.time - base.last) (rates base.sources (sample.time - base.last) base.raws sample.raws))) { raws = sample.raws }
unfolding content_listed passed with_passed steps_of parts_of
content_of_sample base sample is h = grind (arith, common_steps, seconds_of_sample, archives_of_sample)

-- ---- one step at a time

unfoldable pub with_rows : Rra → List Part → List (List Cell) → Rra
with_rows archive parts rows = record archive { parts = parts; rows = rows }

archive_passed-nil : (sources before : ℕ) (archive : Rra) → 0 < archive.def.steps → archive_passed sources before [] archive ≡ archive
unfolding archive_passed with_rows
archive_passed-nil sources before archive some = grind (arith, finished_nil, unfinished_nil, append-nil)

archives_passed-nil : (sources before : ℕ) (archives : List Rra) → AllByRecursion IsArchive archives → map (archive_passed sources before []) archives ≡ archives
archives_passed-nil sources before [] is = refl
archives_passed-nil sources before (archive ∷ archives) is = grind (arith, archive_passed-nil, archives_passed-nil sources before archives is.1)

-- seconds that leave their step unfinished
pub passed_within : (base : Content) (ys : List (List Cell)) → IsBase base → base.last + length ys < (base.last / base.step + 1) * base.step → passed base ys ≡ record base { last = base.last + length ys; parts = fold (with_each Average) base.parts ys }
unfolding passed with_passed
passed_within base ys is h = grind (arith, unfinished_within, finished_within, archives_passed-nil)
