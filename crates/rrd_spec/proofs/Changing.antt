-- What an accepted tune or resize changes.
use Rattle.std.specs.Prelude.{◌≡◌, ℕ, zero, suc, ◌+◌, ◌-◌, ◌*◌, ◌/◌, ◌<◌, min, cond, List, [], ◌∷◌, length, map, replicate}
use Rattle.rrd_spec.proofs.Names.{common_steps, refl, sym, ◌∙◌, ap, eqb, ltb, get_or, arith, append-nil, eq-eqb, leb-false, ltb-false, or_parts, length-drop, length-map, enumerate_from, AllByRecursion, Cell, Change, Tuning, ResizeChanges, ResizeFits, TuneChanges, rows_then, Resizing, rows_of_archives, tuned, rows_at, with_rows_at, base_of_valid, sound, Rra, Content, Resized, Tuned, moment_of, IsArchive, row_parts_of, rows_never_lost, keep_last, filled_up, kept_rows, archive_of, grows_too_far, is_bad_rows, present}
use Rattle.rrd_spec.proofs.Accepted.{accepted_passes, some_rows}
use Rattle.rrd_spec.proofs.LivesPlain.{is_listed}
use Rattle.rrd_spec.proofs.ArchiveTunes.{tune_alone}
use Rattle.rrd_spec.proofs.Moving.{moved_is}
use Rattle.rrd_spec.proofs.Quiet.{content_resized, content_tuned, made, resized_elsewhere, resized_other, row_parts_same, rows_none}
use Rattle.rrd_spec.proofs.RowLemmas.{length-filled_up}
use Rattle.rrd_spec.proofs.Staying.{few_changed, few_rows_at}

-- ---- a tune

pub tune_changes : (base : Content) (tuning : Tuning) → TuneChanges base tuning
tune_changes base tuning is none =
    let sources = map (tuned tuning) base.sources in
    tune_alone base tuning none ∙ sym (is_listed base (Tuned sources ∷ []) is (length-map base.sources (tuned tuning), tt) tt) ∙ content_tuned base sources is

-- ---- a resize

pub resize_fits : (base : Content) (archive : ℕ) (change : Change) (rows : ℕ) → ResizeFits base archive change rows
resize_fits base archive change rows is h =
    let passes = accepted_passes base (Resizing archive change rows) h in
    let old = get_or (rows_of_archives base.archives) archive 0 in
    record {
      there = omega (arith, (leb-false (length (rows_of_archives base.archives)) archive passes.0), length-map base.archives (λ (a : Rra). a.def.rows));
      few_asked = ltb-false 1000000 rows (or_parts (eqb rows 0) (ltb 1000000 rows) (or_parts (is_bad_rows present rows) (grows_too_far present change old rows) passes.1.0).0).1;
      some_then = some_rows change old rows passes.1.0 passes.1.1.0;
      few_then = few_changed change old rows (few_rows_at (length base.sources) (base.last / base.step) archive base.archives is.archives_are) passes.1.0;
    }

-- the newest rows of one archive
newest : Content → ℕ → List (List Cell) → List (List Cell)
newest base n rows = filled_up n (replicate (length base.sources) Cell.Unknown) (keep_last n rows)

length-newest : (base : Content) (n : ℕ) (rows : List (List Cell)) → length (newest base n rows) ≡ n
unfolding newest
length-newest base n rows = length-filled_up n (replicate (length base.sources) Cell.Unknown) (keep_last n rows) (omega (arith, length-drop (length rows - n) rows))

kept_resized : (base : Content) (at n index : ℕ) (archive : Rra) → at ≡ index → IsArchive archive → kept_rows base index archive (Resized at n ∷ []) ≡ newest base n archive.rows
unfolding kept_rows newest
kept_resized base at n index archive e is =
    let es = Resized at n ∷ [] in
    let res = base.step * archive.def.steps in
    let rows = archive.rows in
    let since = λ (time : ℕ). base.last / res - time / res in
    let after : cond (eqb at index) n archive.def.rows ≡ n = ap (λ b. cond b n archive.def.rows) (eq-eqb at index e) in
    let places : rows_never_lost index since archive.def.rows (moment_of base) es ≡ min (length rows) n = omega (arith, is.rows_are, after) in
    let cut : length rows - min (length rows) n ≡ length rows - n = omega arith in
    cc (after, places, rows_none base es refl archive, append-nil rows, cut)

-- the archive with these rows
abbrev pub with_rows : Rra → List (List Cell) → Rra
with_rows archive rows = record archive { def = record archive.def { rows = length rows }; rows = rows }

resized_one : (base : Content) (at n index : ℕ) (archive : Rra) → at ≡ index → IsArchive archive → archive_of base (Resized at n ∷ []) (index, archive) ≡ with_rows archive (newest base n archive.rows)
unfolding made
resized_one base at n index archive e is =
    let es = Resized at n ∷ [] in
    ap (λ m. made archive m (row_parts_of base archive es) (kept_rows base index archive es)) {x = cond (eqb at index) n archive.def.rows} {y = n} (ap (λ b. cond b n archive.def.rows) (eq-eqb at index e))
    ∙ ap (λ ps. made archive n ps (kept_rows base index archive es)) (row_parts_same base es refl archive is.some_steps)
    ∙ ap (made archive n archive.parts) (kept_resized base at n index archive e is)
    ∙ ap (λ m. made archive m archive.parts (newest base n archive.rows)) (sym (length-newest base n archive.rows))

resized_at : (base : Content) (at n first k : ℕ) (archives : List Rra) → at ≡ first + k → k < length archives → AllByRecursion IsArchive archives → map (archive_of base (Resized at n ∷ [])) (enumerate_from first archives) ≡ with_rows_at archives k (newest base n (rows_at archives k))
resized_at base at n first k [] e h is = absurd (omega arith)
resized_at base at n first zero (archive ∷ archives) e h is = grind (arith, common_steps, resized_one, resized_elsewhere)
resized_at base at n first (suc k) (archive ∷ archives) e h is =
    let one = resized_other base at n first archive (λ f. absurd (omega arith)) is.0 in
    let rest = resized_at base at n (first + 1) k archives (omega arith) (omega arith) is.1 in
    cc

pub resize_changes : (base : Content) (archive : ℕ) (change : Change) (rows : ℕ) → ResizeChanges base archive change rows
unfolding newest
resize_changes base archive change rows is h =
    let n = rows_then base archive change rows in
    let there = (resize_fits base archive change rows is h).there in
    let base_is = base_of_valid base is in
    cc (moved_is base (Resizing archive change rows) (sound base is) h tt, content_resized base archive n base_is, resized_at base archive n 0 archive base.archives (omega arith) there base_is.archives_are)
