-- A history in which archives come and go, in two pieces.
use Rattle.std.specs.Prelude.{◌≡◌, ℕ, zero, suc, ◌+◌, ◌-◌, ◌*◌, ◌/◌, ◌<◌, ◌≤◌, List, [], ◌∷◌, ◌++◌, length, map, drop, take}
use Rattle.rrd_spec.proofs.Names.{common_steps, refl, sym, ◌∙◌, ap, arith, append_assoc, append-nil, length-append, drop-append-le, drop-map, take-map, map-append, fold-append, fold, remove, AllByRecursion, RraDef, Content, Event, Sampled, Tuned, Resized, Added, Removed, Moment, moment_after, moment_of, moment_at_end, rows_after, seconds_of, IsHistory, IsBase, Life, life_of, life_added, with_event, change_at, lives_after, lives_from, lives, row_parts, steps_to_rows, steps_before, steps_for, parts_of, steps_of, content_listed, CutsLives, archive_for, content_lived, kept_for, rows_for, All-append, All-drop, All-map, All-take}
use Rattle.rrd_spec.proofs.ContentLemmas.{div_rises, mul_positive}
use Rattle.rrd_spec.proofs.GroupLemmas.{goes_on}
use Rattle.rrd_spec.proofs.HistoryLemmas.{length-sources, length-steps_of, parts_of-append, steps_of-append}
use Rattle.rrd_spec.proofs.Lives.{LifeAt, All-change_at, IsBase-lived, few_missed, length-rows_for, lives_are, steps_until}
use Rattle.rrd_spec.proofs.RowLemmas.{room-append, room_first, room_last, rows_again}
unfoldable use Rattle.rrd_spec.proofs.ContentLemmas.{with_moment}
unfoldable use Rattle.rrd_spec.proofs.LivesPlain.{still}
unfoldable use Rattle.rrd_spec.proofs.Quiet.{made}

-- ---- the steps of the second piece, after the content of the first

same_steps : (base : Content) (es fs : List Event) → steps_of (content_listed base es) fs ≡ steps_of (content_lived base es) fs
unfolding content_listed content_lived steps_of seconds_of
same_steps base es fs = refl

same_parts : (base : Content) (es fs : List Event) → parts_of (content_listed base es) fs ≡ parts_of (content_lived base es) fs
unfolding content_listed content_lived parts_of seconds_of
same_parts base es fs = refl

steps-cut : (base : Content) (es fs : List Event) → 0 < base.step → IsHistory (moment_of base) es → IsHistory (moment_at_end base es) fs → steps_of base (es ++ fs) ≡ steps_of base es ++ steps_of (content_lived base es) fs
steps-cut base es fs some h k = steps_of-append base es fs some h k ∙ ap (λ zs. steps_of base es ++ zs) (same_steps base es fs)

-- ---- an archive that was there at the cut

-- as the whole history has it, and as the second piece does
abbrev whole : Life → List Event → Life
whole life more = record life { since = life.since ++ more }

abbrev rest : Content → List Event → Life → List Event → Life
rest base es life more =
    record (life_of (content_lived base es) (archive_for base es life)) { since = more }

steps_for-cut : (base : Content) (es fs : List Event) (life : Life) (more : List Event) → 0 < base.step → IsHistory (moment_of base) es → IsHistory (moment_at_end base es) fs → LifeAt base (moment_at_end base es) life → steps_for base (whole life more) (es ++ fs) ≡ steps_for base life es ++ steps_of (content_lived base es) fs
steps_for-cut base es fs life more some h k at = cc (steps-cut base es fs some h k, drop-append-le life.missed (steps_of base es) (steps_of (content_lived base es) fs) (few_missed base es life some h at))

rows_for-cut : (base : Content) (es fs : List Event) (life : Life) (more : List Event) → 0 < base.step → IsHistory (moment_of base) es → IsHistory (moment_at_end base es) fs → LifeAt base (moment_at_end base es) life → rows_for base (es ++ fs) (whole life more) ≡ rows_for base es life ++ rows_for (content_lived base es) fs (rest base es life more)
unfolding rows_for row_parts content_lived
rows_for-cut base es fs life more some h k at = grind (arith, goes_on, steps_for-cut, steps_until, length-sources)

row_parts-cut : (base : Content) (es fs : List Event) (life : Life) (more : List Event) → 0 < base.step → IsHistory (moment_of base) es → IsHistory (moment_at_end base es) fs → LifeAt base (moment_at_end base es) life → row_parts base (whole life more) (es ++ fs) ≡ row_parts (content_lived base es) (rest base es life more) fs
unfolding row_parts content_lived
row_parts-cut base es fs life more some h k at =
    let rule = steps_to_rows life.begun.def (length base.sources) in
    let before = steps_before base life in
    let A = steps_for base life es in
    grind (arith, goes_on rule before life.begun.parts A (steps_of (content_lived base es) fs) at.archive_is.some_steps, steps_for-cut base es fs life more some h k, steps_until base es life some h, length-sources (moment_of base) es h)

-- without the first items, and as many of the second
drop_past : {A : Type 0} (n : ℕ) (xs ys : List A) → drop (n + length xs) (xs ++ ys) ≡ drop n ys
drop_past n [] ys = ap (λ m. drop m ys) {x = n + 0} {y = n} (omega arith)
drop_past n (x ∷ xs) ys = ap (λ m. drop m (x ∷ xs ++ ys)) {x = n + suc (length xs)} {y = suc (n + length xs)} (omega arith) ∙ drop_past n xs ys

kept_for-cut : (base : Content) (es fs : List Event) (life : Life) (more : List Event) → 0 < base.step → IsHistory (moment_of base) es → IsHistory (moment_at_end base es) fs → LifeAt base (moment_at_end base es) life → LifeAt (content_lived base es) (moment_at_end (content_lived base es) fs) (rest base es life more) → kept_for base (es ++ fs) (whole life more) ≡ kept_for (content_lived base es) fs (rest base es life more)
unfolding kept_for content_lived
kept_for-cut base es fs life more some h k at then_at =
    let def = life.begun.def in
    let res = base.step * def.steps in
    let now = life.birth in
    let mid = moment_at_end base es in
    let end = fold moment_after mid fs in
    let middle = content_lived base es in
    let later_life = rest base es life more in
    let rows = def.rows in
    let rows_mid = fold (rows_after 0) rows life.since in
    let new = rows_for middle fs later_life in
    let since_mid = λ (time : ℕ). mid.last / res - time / res in
    let since_end = λ (time : ℕ). end.last / res - time / res in
    let some_res : 0 < res = mul_positive base.step def.steps some at.archive_is.some_steps in
    let count_old = length-rows_for base es life some h at in
    let count_new : mid.last / res + length new ≡ end.last / res = length-rows_for middle fs later_life some k then_at in
    let here = ap (λ (m : Moment). m.last) at.now_is in
    let steps_back : (t : ℕ) → t ≤ (fold moment_after now life.since).last → since_end t ≡ since_mid t + length new = λ t below. omega (arith, div_rises t mid.last res some_res (omega (arith, below, here))) in
    grind (arith, room_first, room_last, length-append, room-append, fold-append, rows_for-cut, append_assoc, rows_again, length-sources)

-- ---- an archive that was added after the cut

-- as the whole history has it: it has missed the first piece's steps too
abbrev later : ℕ → Life → Life
later steps life = record life { missed = life.missed + steps }

rows_for-later : (base : Content) (es fs : List Event) (life : Life) → 0 < base.step → IsHistory (moment_of base) es → IsHistory (moment_at_end base es) fs → rows_for base (es ++ fs) (later (length (steps_of base es)) life) ≡ rows_for (content_lived base es) fs life
unfolding rows_for content_lived
rows_for-later base es fs life some h k = grind (arith, steps-cut, drop_past, length-sources)

row_parts-later : (base : Content) (es fs : List Event) (life : Life) → 0 < base.step → IsHistory (moment_of base) es → IsHistory (moment_at_end base es) fs → row_parts base (later (length (steps_of base es)) life) (es ++ fs) ≡ row_parts (content_lived base es) life fs
unfolding row_parts content_lived
row_parts-later base es fs life some h k = grind (arith, steps-cut, drop_past, length-sources)

kept_for-later : (base : Content) (es fs : List Event) (life : Life) → 0 < base.step → IsHistory (moment_of base) es → IsHistory (moment_at_end base es) fs → kept_for base (es ++ fs) (later (length (steps_of base es)) life) ≡ kept_for (content_lived base es) fs life
unfolding kept_for content_lived
kept_for-later base es fs life some h k = grind (arith, fold-append, rows_for-later, length-sources)

-- ---- all archives, side by side

-- an archive that was there at the cut, with what has happened to it since then; one that was added later
data Pair : Type 0 where
  Old : Life → List Event → Pair
  New : Life → Pair

abbrev left : ℕ → Pair → Life
left steps (Old life more) = whole life more
left steps (New life) = later steps life

abbrev right : Content → List Event → Pair → Life
right base es (Old life more) = rest base es life more
right base es (New life) = life

abbrev pair_with : Event → Pair → Pair
pair_with e (Old life more) = Old life (more ++ e ∷ [])
pair_with e (New life) = New (with_event e life)

abbrev pairs_after : Content → Moment → List Pair → Event → List Pair
pairs_after middle now ps (Sampled sample) = map (pair_with (Sampled sample)) ps
pairs_after middle now ps (Tuned sources) = map (pair_with (Tuned sources)) ps
pairs_after middle now ps (Resized archive rows) = change_at (pair_with (Resized 0 rows)) ps archive
pairs_after middle now ps (Added def) = ps ++ New (life_added middle now def) ∷ []
pairs_after middle now ps (Removed archive) = remove ps archive

abbrev pairs_from : Content → Moment → List Pair → List Event → List Pair
pairs_from middle now ps [] = ps
pairs_from middle now ps (e ∷ es) = pairs_from middle (moment_after now e) (pairs_after middle now ps e) es

map-both : {A B : Type 0} (g : A → B) (f : A → A) (f' : B → B) (xs : List A) → ((x : A) → g (f x) ≡ f' (g x)) → map g (map f xs) ≡ map f' (map g xs)
map-both g f f' [] h = refl
map-both g f f' (x ∷ xs) h = ap (λ y. y ∷ map g (map f xs)) (h x) ∙ ap (λ ys. f' (g x) ∷ ys) (map-both g f f' xs h)

map-change_at : {A B : Type 0} (g : A → B) (f : A → A) (f' : B → B) (xs : List A) (n : ℕ) → ((x : A) → g (f x) ≡ f' (g x)) → map g (change_at f xs n) ≡ change_at f' (map g xs) n
map-change_at g f f' [] n h = refl
map-change_at g f f' (x ∷ xs) zero h = ap (λ y. y ∷ map g xs) (h x)
map-change_at g f f' (x ∷ xs) (suc n) h = ap (λ ys. g x ∷ ys) (map-change_at g f f' xs n h)

pub map-remove : {A B : Type 0} (g : A → B) (xs : List A) (n : ℕ) → map g (remove xs n) ≡ remove (map g xs) n
map-remove g xs n = cc (map-append g (take n xs) (drop (suc n) xs), take-map g n xs, drop-map g (suc n) xs)

left-with : (steps : ℕ) (e : Event) (p : Pair) → left steps (pair_with e p) ≡ with_event e (left steps p)
left-with steps e p = grind (arith, append_assoc)

right-with : (base : Content) (es : List Event) (e : Event) (p : Pair) → right base es (pair_with e p) ≡ with_event e (right base es p)
right-with base es e p = grind arith

left-added : (base : Content) (es : List Event) (now : Moment) (def : RraDef) → 0 < base.step → IsHistory (moment_of base) es → (moment_at_end base es).last ≤ now.last → left (length (steps_of base es)) (New (life_added (content_lived base es) now def)) ≡ life_added base now def
unfolding content_lived still
left-added base es now def some h late = grind (arith, div_rises, still, length-sources, length-steps_of)

left-from : (base : Content) (es : List Event) (now : Moment) (ps : List Pair) (fs : List Event) → 0 < base.step → IsHistory (moment_of base) es → (moment_at_end base es).last ≤ now.last → IsHistory now fs → map (left (length (steps_of base es))) (pairs_from (content_lived base es) now ps fs) ≡ lives_from base now (map (left (length (steps_of base es))) ps) fs
left-from base es now ps [] some h late k = refl
left-from base es now ps (Sampled sample ∷ fs) some h late k =
    let n = length (steps_of base es) in
    let next = moment_after now (Sampled sample) in
    cc (left-from base es next (pairs_after (content_lived base es) now ps (Sampled sample)) fs some h (omega (arith, k.0)) k.1, map-both (left n) (pair_with (Sampled sample)) (with_event (Sampled sample)) ps (left-with n (Sampled sample)))
left-from base es now ps (Tuned sources ∷ fs) some h late k =
    let n = length (steps_of base es) in
    let next = moment_after now (Tuned sources) in
    cc (left-from base es next (pairs_after (content_lived base es) now ps (Tuned sources)) fs some h late k.1, map-both (left n) (pair_with (Tuned sources)) (with_event (Tuned sources)) ps (left-with n (Tuned sources)))
left-from base es now ps (Resized archive rows ∷ fs) some h late k = grind (arith, left-from base es now (pairs_after (content_lived base es) now ps (Resized archive rows)) fs some h late k.1, map-change_at, left-with)
left-from base es now ps (Added def ∷ fs) some h late k = grind (arith, left-from base es now (pairs_after (content_lived base es) now ps (Added def)) fs some h late k.2, map-append, left-added)
left-from base es now ps (Removed archive ∷ fs) some h late k = grind (arith, left-from base es now (pairs_after (content_lived base es) now ps (Removed archive)) fs some h late k, map-remove)

right-from : (base : Content) (es : List Event) (now : Moment) (ps : List Pair) (fs : List Event) → map (right base es) (pairs_from (content_lived base es) now ps fs) ≡ lives_from (content_lived base es) now (map (right base es) ps) fs
right-from base es now ps [] = refl
right-from base es now ps (Sampled sample ∷ fs) =
    let next = moment_after now (Sampled sample) in
    cc (right-from base es next (pairs_after (content_lived base es) now ps (Sampled sample)) fs, map-both (right base es) (pair_with (Sampled sample)) (with_event (Sampled sample)) ps (right-with base es (Sampled sample)))
right-from base es now ps (Tuned sources ∷ fs) =
    let next = moment_after now (Tuned sources) in
    cc (right-from base es next (pairs_after (content_lived base es) now ps (Tuned sources)) fs, map-both (right base es) (pair_with (Tuned sources)) (with_event (Tuned sources)) ps (right-with base es (Tuned sources)))
right-from base es now ps (Resized archive rows ∷ fs) = grind (arith, right-from base es now (pairs_after (content_lived base es) now ps (Resized archive rows)) fs, map-change_at, right-with)
right-from base es now ps (Added def ∷ fs) = cc (right-from base es now (pairs_after (content_lived base es) now ps (Added def)) fs, map-append (right base es) ps (New (life_added (content_lived base es) now def) ∷ []))
right-from base es now ps (Removed archive ∷ fs) = cc (right-from base es now (pairs_after (content_lived base es) now ps (Removed archive)) fs, map-remove (right base es) ps archive)

-- what was there at the cut was an archive of the first piece
abbrev OldIs : Content → List Event → Pair → Type 0
OldIs base es (Old life more) = LifeAt base (moment_at_end base es) life
OldIs base es (New life) = Unit {0}

old-with : (base : Content) (es : List Event) (e : Event) (p : Pair) → OldIs base es p → OldIs base es (pair_with e p)
old-with base es e p is = grind arith

old-from : (base : Content) (es : List Event) (middle : Content) (now : Moment) (ps : List Pair) (fs : List Event) → AllByRecursion (OldIs base es) ps → AllByRecursion (OldIs base es) (pairs_from middle now ps fs)
old-from base es middle now ps [] is = is
old-from base es middle now ps (Sampled sample ∷ fs) is = old-from base es middle (moment_after now (Sampled sample)) (pairs_after middle now ps (Sampled sample)) fs (All-map (OldIs base es) (OldIs base es) (pair_with (Sampled sample)) ps (old-with base es (Sampled sample)) is)
old-from base es middle now ps (Tuned sources ∷ fs) is = old-from base es middle (moment_after now (Tuned sources)) (pairs_after middle now ps (Tuned sources)) fs (All-map (OldIs base es) (OldIs base es) (pair_with (Tuned sources)) ps (old-with base es (Tuned sources)) is)
old-from base es middle now ps (Resized archive rows ∷ fs) is = old-from base es middle now (pairs_after middle now ps (Resized archive rows)) fs (All-change_at (OldIs base es) (pair_with (Resized 0 rows)) ps archive (old-with base es (Resized 0 rows)) is)
old-from base es middle now ps (Added def ∷ fs) is = old-from base es middle now (pairs_after middle now ps (Added def)) fs (All-append (OldIs base es) ps (New (life_added middle now def) ∷ []) is (tt, tt))
old-from base es middle now ps (Removed archive ∷ fs) is = old-from base es middle now (pairs_after middle now ps (Removed archive)) fs (All-append (OldIs base es) (take archive ps) (drop (suc archive) ps) (All-take (OldIs base es) archive ps is) (All-drop (OldIs base es) (suc archive) ps is))

-- ---- both are the same

pair-same : (base : Content) (es fs : List Event) (p : Pair) → 0 < base.step → IsHistory (moment_of base) es → IsHistory (moment_at_end base es) fs → OldIs base es p → LifeAt (content_lived base es) (moment_at_end (content_lived base es) fs) (right base es p) → archive_for base (es ++ fs) (left (length (steps_of base es)) p) ≡ archive_for (content_lived base es) fs (right base es p)
unfolding made
pair-same base es fs p some h k is at = grind (arith, fold-append, row_parts-cut, kept_for-cut, row_parts-later, kept_for-later)

pairs-same : (base : Content) (es fs : List Event) (ps : List Pair) → 0 < base.step → IsHistory (moment_of base) es → IsHistory (moment_at_end base es) fs → AllByRecursion (OldIs base es) ps → AllByRecursion (LifeAt (content_lived base es) (moment_at_end (content_lived base es) fs)) (map (right base es) ps) → map (archive_for base (es ++ fs)) (map (left (length (steps_of base es))) ps) ≡ map (archive_for (content_lived base es) fs) (map (right base es) ps)
pairs-same base es fs [] some h k is at = refl
pairs-same base es fs (p ∷ ps) some h k is at = cc (pair-same base es fs p some h k is.0 at.0, pairs-same base es fs ps some h k is.1 at.1)

-- ---- a content

lives_from-append : (base : Content) (now : Moment) (all : List Life) (es fs : List Event) → lives_from base now all (es ++ fs) ≡ lives_from base (fold moment_after now es) (lives_from base now all es) fs
lives_from-append base now all [] fs = refl
lives_from-append base now all (e ∷ es) fs = lives_from-append base (moment_after now e) (lives_after base now all e) es fs

at_cut : List Life → List Pair
at_cut all = map (λ life. Old life []) all

at_cut-left : (n : ℕ) (all : List Life) → map (left n) (at_cut all) ≡ all
unfolding at_cut
at_cut-left n [] = refl
at_cut-left n (life ∷ all) = grind (arith, common_steps, append-nil, at_cut-left n all)

at_cut-right : (base : Content) (es : List Event) (all : List Life) → map (right base es) (at_cut all) ≡ map (life_of (content_lived base es)) (map (archive_for base es) all)
unfolding at_cut
at_cut-right base es [] = refl
at_cut-right base es (life ∷ all) = ap (λ rest. life_of (content_lived base es) (archive_for base es life) ∷ rest) (at_cut-right base es all)

at_cut-old : (base : Content) (es : List Event) (all : List Life) → AllByRecursion (LifeAt base (moment_at_end base es)) all → AllByRecursion (OldIs base es) (at_cut all)
unfolding at_cut
at_cut-old base es all is = All-map (LifeAt base (moment_at_end base es)) (OldIs base es) (λ life. Old life []) all (λ life at. at) is

lives-right : (base : Content) (es fs : List Event) → map (right base es) (pairs_from (content_lived base es) (moment_at_end base es) (at_cut (lives base es)) fs) ≡ lives (content_lived base es) fs
unfolding content_lived
lives-right base es fs = cc (right-from base es (moment_at_end base es) (at_cut (lives base es)) fs, at_cut-right base es (lives base es))

history-right : (base : Content) (es fs : List Event) → IsHistory (moment_at_end base es) fs → IsHistory (moment_of (content_lived base es)) fs
unfolding content_lived
history-right base es fs k = k

archives-cut : (base : Content) (es fs : List Event) → IsBase base → IsHistory (moment_of base) es → IsHistory (moment_at_end base es) fs → map (archive_for base (es ++ fs)) (lives base (es ++ fs)) ≡ map (archive_for (content_lived base es) fs) (lives (content_lived base es) fs)
archives-cut base es fs is h k =
    let middle = content_lived base es in
    let mid = moment_at_end base es in
    let n = length (steps_of base es) in
    let ps = pairs_from middle mid (at_cut (lives base es)) fs in
    let all_left : map (left n) ps ≡ lives base (es ++ fs)
    = left-from base es mid (at_cut (lives base es)) fs is.some_step h (omega arith) k
    ∙ ap (λ all. lives_from base mid all fs) (at_cut-left n (lives base es))
    ∙ sym (lives_from-append base (moment_of base) (map (life_of base) base.archives) es fs) in
    let old = old-from base es middle mid (at_cut (lives base es)) fs (at_cut-old base es (lives base es) (lives_are base es is h)) in
    grind (arith, lives-right base es fs, lives_are middle fs (IsBase-lived base es is h) (history-right base es fs k), IsBase-lived base es is h, history-right base es fs k, pairs-same base es fs ps is.some_step h k old)

pub lived-cut : (base : Content) (es : List Event) → CutsLives base es
unfolding content_lived with_moment
lived-cut base es is h fs k = grind (arith, fold-append, parts_of-append, same_parts, archives-cut)
