-- The content of a history in two pieces: the first piece's content is a base for the second one.
use Rattle.std.specs.Prelude.{◌≡◌, ℕ, ◌+◌, ◌-◌, ◌*◌, ◌/◌, ◌<◌, ◌≤◌, List, [], ◌∷◌, ◌++◌, length, map, replicate, Bool, true, false, cond}
use Rattle.rrd_spec.proofs.Names.{common_steps, refl, sym, ◌∙◌, ap, arith, length-append, append_assoc, eqb, div-div-eq-div-mul, fold-append, mul-lt, fold, enumerate_from, AllByRecursion, Cell, Part, steps_to_rows, rows_of, Rra, Content, Event, Sampled, Tuned, Resized, Added, Removed, Moment, moment_after, moment_of, moment_at_end, rows_after, IsHistory, IsArchive, IsBase, steps_of, rows_never_lost, keep_last, filled_up, kept_rows, archive_of, content_listed}
use Rattle.rrd_spec.proofs.GroupLemmas.{length-finished, reached_before}
use Rattle.rrd_spec.proofs.HistoryLemmas.{length-sources, length-steps_of, parts_of-append, rows_of-append, row_parts_of-append}
use Rattle.rrd_spec.proofs.RowLemmas.{rows_again, room_first, room_last, room-append, length-filled_up}

-- how many rows ended
pub length-rows_of : (base : Content) (archive : Rra) (es : List Event) → 0 < base.step → 0 < archive.def.steps → IsHistory (moment_of base) es → base.last / (base.step * archive.def.steps) + length (rows_of base archive es) ≡ (moment_at_end base es).last / (base.step * archive.def.steps)
unfolding rows_of
length-rows_of base archive es pos some h =
    let steps = archive.def.steps in
    let before = base.last / base.step in
    grind (arith, length-finished (steps_to_rows archive.def (length base.sources)) before archive.parts (steps_of base es), length-steps_of base es pos h, reached_before before (length (steps_of base es)) steps some, div-div-eq-div-mul base.last base.step steps, div-div-eq-div-mul (moment_at_end base es).last base.step steps)

-- an archive has as many rows as its settings say
pub length-kept_rows : (base : Content) (index : ℕ) (archive : Rra) (es : List Event) → 0 < base.step → IsArchive archive → IsHistory (moment_of base) es → length (kept_rows base index archive es) ≡ fold (rows_after index) archive.def.rows es
unfolding kept_rows
length-kept_rows base index archive es pos is h = grind (arith, common_steps, length-append, length-rows_of, room_first, length-filled_up, room_last)

pub mul_positive : (a b : ℕ) → 0 < a → 0 < b → 0 < a * b
mul_positive a b h k = omega (arith, mul-lt 0 0 a b h k)

pub div_rises : (m n size : ℕ) → 0 < size → m ≤ n → m / size ≤ n / size
div_rises m n size pos h = omega (arith, reached_before m (n - m) size pos, ap (λ k. k / size) {x = m + (n - m)} {y = n} (omega arith))

kept_rows-append : (base : Content) (index : ℕ) (archive : Rra) (es fs : List Event) → 0 < base.step → IsArchive archive → IsHistory (moment_of base) es → IsHistory (moment_at_end base es) fs → kept_rows base index archive (es ++ fs) ≡ kept_rows (content_listed base es) index (archive_of base es (index, archive)) fs
unfolding kept_rows content_listed
kept_rows-append base index archive es fs pos is h k =
    let res = base.step * archive.def.steps in
    let now = moment_of base in
    let mid = moment_at_end base es in
    let end = fold moment_after mid fs in
    let middle = content_listed base es in
    let moved = archive_of base es (index, archive) in
    let rows = archive.def.rows in
    let rows_mid = fold (rows_after index) rows es in
    let rows_end = fold (rows_after index) rows_mid fs in
    let nan = replicate (length base.sources) Cell.Unknown in
    let old = archive.rows ++ rows_of base archive es in
    let new = rows_of middle moved fs in
    let since_mid = λ (time : ℕ). mid.last / res - time / res in
    let since_end = λ (time : ℕ). end.last / res - time / res in
    let then = rows_never_lost index since_mid rows now es in
    let later = rows_never_lost index since_end rows_mid mid fs in
    let some_res : 0 < res = mul_positive base.step archive.def.steps pos is.some_steps in
    let count_old = length-rows_of base archive es pos is.some_steps h in
    let count_new : mid.last / res + length new ≡ end.last / res = length-rows_of middle moved fs pos is.some_steps k in
    let steps_back : (t : ℕ) → t ≤ mid.last → since_end t ≡ since_mid t + length new = λ t below. omega (arith, div_rises t mid.last res some_res below) in
    let count_then = room_first index since_mid rows now es in
    let fits_then = room_last index since_mid rows now es in
    let count_later = room_first index since_end rows_mid mid fs in
    let fits_later = room_last index since_end rows_mid mid fs in
    let count_all = length-append archive.rows (rows_of base archive es) in
    ap (λ n. filled_up n nan (keep_last (rows_never_lost index (λ (time : ℕ). (moment_at_end base (es ++ fs)).last / res - time / res) rows now (es ++ fs)) (archive.rows ++ rows_of base archive (es ++ fs)))) (fold-append (rows_after index) rows es fs)
    ∙ ap (λ (e : Moment). filled_up rows_end nan (keep_last (rows_never_lost index (λ (time : ℕ). e.last / res - time / res) rows now (es ++ fs)) (archive.rows ++ rows_of base archive (es ++ fs)))) (fold-append moment_after now es fs)
    ∙ ap (λ zs. filled_up rows_end nan (keep_last (rows_never_lost index since_end rows now (es ++ fs)) (archive.rows ++ zs))) (rows_of-append base index archive es fs pos is.some_steps h k)
    ∙ ap (λ zs. filled_up rows_end nan (keep_last (rows_never_lost index since_end rows now (es ++ fs)) zs)) (sym (append_assoc archive.rows (rows_of base archive es) new))
    ∙ ap (λ n. filled_up rows_end nan (keep_last n (old ++ new))) (room-append index since_mid since_end (length new) rows now es fs h steps_back)
    ∙ rows_again rows_mid rows_end then later nan old new (omega (arith, is.rows_are)) (omega arith) (omega arith) (omega arith)
    ∙ ap (λ n. filled_up rows_end (replicate n Cell.Unknown) (keep_last later (kept_rows base index archive es ++ new))) (sym (length-sources now es h))

archive_of-append : (base : Content) (index : ℕ) (archive : Rra) (es fs : List Event) → 0 < base.step → IsArchive archive → IsHistory (moment_of base) es → IsHistory (moment_at_end base es) fs → archive_of base (es ++ fs) (index, archive) ≡ archive_of (content_listed base es) fs (index, archive_of base es (index, archive))
archive_of-append base index archive es fs pos is h k = grind (arith, fold-append, row_parts_of-append, kept_rows-append)

archives-append : (base : Content) (es fs : List Event) (index : ℕ) (archives : List Rra) → 0 < base.step → AllByRecursion IsArchive archives → IsHistory (moment_of base) es → IsHistory (moment_at_end base es) fs → map (archive_of base (es ++ fs)) (enumerate_from index archives) ≡ map (archive_of (content_listed base es) fs) (enumerate_from index (map (archive_of base es) (enumerate_from index archives)))
archives-append base es fs index [] pos is h k = refl
archives-append base es fs index (archive ∷ archives) pos is h k = grind (arith, archive_of-append, archives-append base es fs (index + 1) archives pos is.1 h k)

unfoldable pub with_moment : Content → Moment → List Part → List Rra → Content
with_moment base moment parts archives = record base { sources = moment.sources; last = moment.last; raws = moment.raws; parts = parts; archives = archives }

pub listed-append : (base : Content) (es fs : List Event) → IsBase base → IsHistory (moment_of base) es → IsHistory (moment_at_end base es) fs → content_listed base (es ++ fs) ≡ content_listed (content_listed base es) fs
unfolding content_listed with_moment
listed-append base es fs is h k = grind (arith, fold-append, parts_of-append, archives-append)

-- ---- the content is a base again
pub rows_stay : (index rows : ℕ) (now : Moment) (es : List Event) → 0 < rows → IsHistory now es → 0 < fold (rows_after index) rows es
rows_stay index rows now [] some h = some
rows_stay index rows now (Sampled sample ∷ es) some h = rows_stay index rows (moment_after now (Sampled sample)) es some h.1
rows_stay index rows now (Tuned sources ∷ es) some h = rows_stay index rows (moment_after now (Tuned sources)) es some h.1
rows_stay index rows now (Added def ∷ es) some h = rows_stay index rows now es some h.2
rows_stay index rows now (Removed archive ∷ es) some h = rows_stay index rows now es some h
rows_stay index rows now (Resized archive new ∷ es) some h =
    rows_stay index (cond (eqb archive index) new rows) now es (either (eqb archive index)) h.1
  where
    either : (b : Bool) → 0 < cond b new rows
    either true = h.0
    either false = some

archives_stay : (base : Content) (es : List Event) (index : ℕ) (archives : List Rra) → 0 < base.step → AllByRecursion IsArchive archives → IsHistory (moment_of base) es → AllByRecursion IsArchive (map (archive_of base es) (enumerate_from index archives))
archives_stay base es index [] pos is h = tt
archives_stay base es index (archive ∷ archives) pos is h = grind (arith, rows_stay, length-kept_rows, archives_stay base es (index + 1) archives pos is.1 h)

pub IsBase-listed : (base : Content) (es : List Event) → IsBase base → IsHistory (moment_of base) es → IsBase (content_listed base es)
unfolding content_listed
IsBase-listed base es is h = record { some_step = is.some_step; archives_are = archives_stay base es 0 base.archives is.some_step is.archives_are h }
