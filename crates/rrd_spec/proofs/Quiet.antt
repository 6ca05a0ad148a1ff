-- Events in which no time passes.
use Rattle.std.specs.Prelude.{◌≡◌, ℕ, ◌+◌, ◌-◌, ◌*◌, ◌/◌, ◌<◌, ◌≤◌, cond, List, [], ◌∷◌, ◌++◌, length, map, replicate}
use Rattle.rrd_spec.proofs.Names.{refl, ◌∙◌, ap, arith, append-nil, ne_eqb, fold, range_with_len, enumerate_from, AllByRecursion, Cell, Raw, DsDef, Part, Rra, Content, Event, Tuned, Resized, moment_of, moment_at_end, raws_under, samples, second, seconds_of, rows_after, IsArchive, IsBase, steps_of, parts_of, seconds_to_steps, rows_of, row_parts_of, steps_to_rows, rows_never_lost, keep_last, filled_up, kept_rows, archive_of, content_listed, finished, unfinished, keep_all}
use Rattle.rrd_spec.proofs.RowLemmas.{filled_already}
use Rattle.rrd_spec.proofs.GroupLemmas.{finished_nil, unfinished_nil}

module _ (base : Content) (es : List Event) (same : (moment_at_end base es).last ≡ base.last) where
  pub seconds_none : seconds_of base es ≡ []
  unfolding seconds_of
  seconds_none = ap (λ n. map (second (samples (moment_of base) es)) (range_with_len (base.last + 1) n)) {x = (moment_at_end base es).last - base.last} {y = 0} (omega arith)

  pub steps_none : steps_of base es ≡ []
  unfolding steps_of
  steps_none = ap (finished (seconds_to_steps base.step (length base.sources)) base.last base.parts) seconds_none ∙ finished_nil (seconds_to_steps base.step (length base.sources)) base.last base.parts

  pub parts_same : 0 < base.step → parts_of base es ≡ base.parts
  unfolding parts_of
  parts_same some = ap (unfinished (seconds_to_steps base.step (length base.sources)) base.last base.parts) seconds_none ∙ unfinished_nil (seconds_to_steps base.step (length base.sources)) base.last base.parts some

  pub rows_none : (archive : Rra) → rows_of base archive es ≡ []
  unfolding rows_of
  rows_none archive = ap (finished (steps_to_rows archive.def (length base.sources)) (base.last / base.step) archive.parts) steps_none ∙ finished_nil (steps_to_rows archive.def (length base.sources)) (base.last / base.step) archive.parts

  pub row_parts_same : (archive : Rra) → 0 < archive.def.steps → row_parts_of base archive es ≡ archive.parts
  unfolding row_parts_of
  row_parts_same archive some = ap (unfinished (steps_to_rows archive.def (length base.sources)) (base.last / base.step) archive.parts) steps_none ∙ unfinished_nil (steps_to_rows archive.def (length base.sources)) (base.last / base.step) archive.parts some

  kept_same : (index : ℕ) (archive : Rra) → IsArchive archive → ((rows : ℕ) → fold (rows_after index) rows es ≡ rows) → ((rows : ℕ) (since : ℕ → ℕ) → since base.last ≡ 0 → rows_never_lost index since rows (moment_of base) es ≡ rows) → kept_rows base index archive es ≡ archive.rows
  unfolding kept_rows
  kept_same index archive is rows_stay room_stays =
      let res = base.step * archive.def.steps in
      let nan = replicate (length base.sources) Cell.Unknown in
      let since = λ (time : ℕ). (moment_at_end base es).last / res - time / res in
      let now : (moment_at_end base es).last / res ≡ base.last / res = ap (λ t. t / res) same in
      let places : rows_never_lost index since archive.def.rows (moment_of base) es ≡ archive.def.rows = room_stays archive.def.rows since (omega arith) in
      ap (λ n. filled_up n nan (keep_last (rows_never_lost index since archive.def.rows (moment_of base) es) (archive.rows ++ rows_of base archive es))) (rows_stay archive.def.rows)
      ∙ ap (λ n. filled_up archive.def.rows nan (keep_last n (archive.rows ++ rows_of base archive es))) places
      ∙ ap (λ zs. filled_up archive.def.rows nan (keep_last archive.def.rows (archive.rows ++ zs))) (rows_none archive)
      ∙ ap (λ zs. filled_up archive.def.rows nan (keep_last archive.def.rows zs)) (append-nil archive.rows)
      ∙ ap (filled_up archive.def.rows nan) (keep_all archive.def.rows archive.rows (omega (arith, is.rows_are)))
      ∙ filled_already archive.def.rows nan archive.rows is.rows_are

unfoldable pub made : Rra → ℕ → List Part → List (List Cell) → Rra
made archive n parts rows = record { def = record archive.def { rows = n }; parts = parts; rows = rows }

pub archive_stays : (base : Content) (es : List Event) (index : ℕ) (archive : Rra) → (moment_at_end base es).last ≡ base.last → IsArchive archive → ((rows : ℕ) → fold (rows_after index) rows es ≡ rows) → ((rows : ℕ) (since : ℕ → ℕ) → since base.last ≡ 0 → rows_never_lost index since rows (moment_of base) es ≡ rows) → archive_of base es (index, archive) ≡ archive
unfolding made
archive_stays base es index archive same is rows_stay room_stays =
    ap (λ n. made archive n (row_parts_of base archive es) (kept_rows base index archive es)) (rows_stay archive.def.rows)
    ∙ ap (λ ps. made archive archive.def.rows ps (kept_rows base index archive es)) (row_parts_same base es same archive is.some_steps)
    ∙ ap (made archive archive.def.rows archive.parts) (kept_same base es same index archive is rows_stay room_stays)

pub archives_stay : (base : Content) (es : List Event) (first : ℕ) (archives : List Rra) → (moment_at_end base es).last ≡ base.last → AllByRecursion IsArchive archives → ((index rows : ℕ) → first ≤ index → fold (rows_after index) rows es ≡ rows) → ((index rows : ℕ) (since : ℕ → ℕ) → first ≤ index → since base.last ≡ 0 → rows_never_lost index since rows (moment_of base) es ≡ rows) → map (archive_of base es) (enumerate_from first archives) ≡ archives
archives_stay base es first [] same is rows_stay room_stays = refl
archives_stay base es first (archive ∷ archives) same is rows_stay room_stays = grind (arith, archive_stays, archives_stay base es (first + 1) archives same is.1 (λ index rows low. rows_stay index rows (omega arith)) (λ index rows since low h. room_stays index rows since (omega arith) h))

unfoldable pub with_all : Content → List DsDef → ℕ → List Raw → List Part → List Rra → Content
with_all base sources last raws parts archives = record base { sources = sources; last = last; raws = raws; parts = parts; archives = archives }

-- no event
pub content_nil : (base : Content) → IsBase base → content_listed base [] ≡ base
unfolding content_listed with_all
content_nil base is =
    ap (λ ps. with_all base base.sources base.last base.raws ps (map (archive_of base []) (enumerate_from 0 base.archives))) (parts_same base [] refl is.some_step)
    ∙ ap (with_all base base.sources base.last base.raws base.parts) (archives_stay base [] 0 base.archives refl is.archives_are (λ index rows low. refl) (λ index rows since low h. omega arith))

-- other settings of the sources
pub content_tuned : (base : Content) (sources : List DsDef) → IsBase base → content_listed base (Tuned sources ∷ []) ≡ record base { sources = sources; raws = raws_under base.sources sources base.raws }
unfolding content_listed with_all
content_tuned base sources is =
    let es = Tuned sources ∷ [] in
    cc (parts_same base es refl is.some_step, archives_stay base es 0 base.archives refl is.archives_are (λ index rows low. refl) (λ index rows since low h. omega arith))

-- another number of rows
other_fold : (at rows index old : ℕ) → (at ≡ index → ⊥) → fold (rows_after index) old (Resized at rows ∷ []) ≡ old
other_fold at rows index old h = ap (λ b. cond b rows old) (ne_eqb at index h)

other_room : (base : Content) (at rows index old : ℕ) (since : ℕ → ℕ) → (at ≡ index → ⊥) → since base.last ≡ 0 → rows_never_lost index since old (moment_of base) (Resized at rows ∷ []) ≡ old
other_room base at rows index old since h k = let e = other_fold at rows index old h in omega arith

pub resized_other : (base : Content) (at rows index : ℕ) (archive : Rra) → (at ≡ index → ⊥) → IsArchive archive → archive_of base (Resized at rows ∷ []) (index, archive) ≡ archive
resized_other base at rows index archive h is = archive_stays base (Resized at rows ∷ []) index archive refl is (λ old. other_fold at rows index old h) (λ old since k. other_room base at rows index old since h k)

pub resized_elsewhere : (base : Content) (at rows first : ℕ) (archives : List Rra) → at < first → AllByRecursion IsArchive archives → map (archive_of base (Resized at rows ∷ [])) (enumerate_from first archives) ≡ archives
resized_elsewhere base at rows first archives h is = grind (arith, archives_stay, other_fold, other_room)

-- the parts of the sources stay too
pub content_resized : (base : Content) (at rows : ℕ) → IsBase base → content_listed base (Resized at rows ∷ []) ≡ record base { archives = map (archive_of base (Resized at rows ∷ [])) (enumerate_from 0 base.archives) }
unfolding content_listed with_all
content_resized base at rows is =
    ap (λ ps. with_all base base.sources base.last base.raws ps (map (archive_of base (Resized at rows ∷ [])) (enumerate_from 0 base.archives))) (parts_same base (Resized at rows ∷ []) refl is.some_step)
