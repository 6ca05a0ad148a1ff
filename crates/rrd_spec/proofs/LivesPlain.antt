-- A history in which no archive comes or goes, and one that is nothing but that.
use Rattle.std.specs.Prelude.{◌≡◌, ℕ, zero, suc, ◌+◌, ◌-◌, ◌/◌, ◌<◌, min, cond, ℤ, List, [], ◌∷◌, ◌++◌, length, map, replicate, drop, take}
use Rattle.rrd_spec.proofs.Names.{common_steps, refl, sym, ◌∙◌, ap, eqb, get_or, arith, append_assoc, append-nil, eq-eqb, ne_eqb, drop-map, length-replicate, map-append, take-map, fold, enumerate_from, AllByRecursion, Cell, Part, DsDef, RraDef, Rra, Content, Event, Sampled, Tuned, Resized, Added, Removed, Moment, moment_after, moment_of, moment_at_end, rows_after, IsArchive, row_of_age, Life, life_of, life_added, new_archive, with_event, change_at, lives_from, row_parts, row_parts_of, rows_of, IsListedByNumber, KeepsArchives, archive_of, content_listed, kept_rows, rows_never_lost, archive_for, content_lived, kept_for, rows_for, AddChanges, BlankAtFirst, RemoveChanges, All-drop, All-take}
use Rattle.rrd_spec.specs.History.{Reading}
use Rattle.rrd_spec.proofs.CellLemmas.{is_lived}
use Rattle.rrd_spec.proofs.GroupLemmas.{finished_nil, unfinished_nil}
use Rattle.rrd_spec.proofs.Quiet.{parts_same, steps_none}
use Rattle.rrd_spec.proofs.RowLemmas.{filled_already, room_first}

-- ---- what happens to the archive of a number, as it keeps it

own : ℕ → List Event → List Event
own i [] = []
own i (Sampled sample ∷ es) = Sampled sample ∷ own i es
own i (Tuned sources ∷ es) = Tuned sources ∷ own i es
own i (Resized archive n ∷ es) = cond (eqb archive i) (Resized 0 n ∷ own i es) (own i es)
own i (Added def ∷ es) = own i es
own i (Removed archive ∷ es) = own i es

rows_own : (i rows : ℕ) (es : List Event) → fold (rows_after 0) rows (own i es) ≡ fold (rows_after i) rows es
unfolding own
rows_own i rows [] = refl
rows_own i rows (Sampled sample ∷ es) = rows_own i rows es
rows_own i rows (Tuned sources ∷ es) = rows_own i rows es
rows_own i rows (Resized archive n ∷ es) = grind (arith, common_steps, rows_own i n es, rows_own i rows es)
rows_own i rows (Added def ∷ es) = rows_own i rows es
rows_own i rows (Removed archive ∷ es) = rows_own i rows es

room_own : (i : ℕ) (since : ℕ → ℕ) (rows : ℕ) (now : Moment) (es : List Event) → rows_never_lost 0 since rows now (own i es) ≡ rows_never_lost i since rows now es
unfolding own
room_own i since rows now [] = refl
room_own i since rows now (Sampled sample ∷ es) = ap (min (rows + since now.last)) (room_own i since rows (moment_after now (Sampled sample)) es)
room_own i since rows now (Tuned sources ∷ es) = ap (min (rows + since now.last)) (room_own i since rows (moment_after now (Tuned sources)) es)
room_own i since rows now (Resized archive n ∷ es) = grind (arith, common_steps, room_own i since n now es, room_own i since rows now es, room_first)
room_own i since rows now (Added def ∷ es) = omega (arith, room_own i since rows now es, room_first i since rows now es)
room_own i since rows now (Removed archive ∷ es) = omega (arith, room_own i since rows now es, room_first i since rows now es)

with_own : ℕ → List Event → List Life → List Life
with_own i es [] = []
with_own i es (life ∷ all) = record life { since = life.since ++ own i es } ∷ with_own (i + 1) es all

since_put : Life → List Event → Life
since_put life since = record life { since = since }

own-nil : (i : ℕ) (all : List Life) → with_own i [] all ≡ all
unfolding with_own own since_put
own-nil i [] = refl
own-nil i (life ∷ all) = ap (λ since. since_put life since ∷ with_own (i + 1) [] all) (append-nil life.since) ∙ ap (λ rest. life ∷ rest) (own-nil (i + 1) all)

own-sampled : (i : ℕ) (sample : Reading) (es : List Event) (all : List Life) → with_own i es (map (with_event (Sampled sample)) all) ≡ with_own i (Sampled sample ∷ es) all
unfolding with_own own since_put
own-sampled i sample es [] = refl
own-sampled i sample es (life ∷ all) = cc (append_assoc life.since (Sampled sample ∷ []) (own i es), own-sampled (i + 1) sample es all)

own-tuned : (i : ℕ) (sources : List DsDef) (es : List Event) (all : List Life) → with_own i es (map (with_event (Tuned sources)) all) ≡ with_own i (Tuned sources ∷ es) all
unfolding with_own own since_put
own-tuned i sources es [] = refl
own-tuned i sources es (life ∷ all) = cc (append_assoc life.since (Tuned sources ∷ []) (own i es), own-tuned (i + 1) sources es all)

own-elsewhere : (i archive n : ℕ) (es : List Event) (all : List Life) → archive < i → with_own i es all ≡ with_own i (Resized archive n ∷ es) all
unfolding with_own own since_put
own-elsewhere i archive n es [] h = refl
own-elsewhere i archive n es (life ∷ all) h = grind (arith, ne_eqb, own-elsewhere (i + 1) archive n es all (omega arith))

own-resized : (i archive n k : ℕ) (es : List Event) (all : List Life) → archive ≡ i + k → with_own i es (change_at (with_event (Resized 0 n)) all k) ≡ with_own i (Resized archive n ∷ es) all
unfolding with_own own since_put
own-resized i archive n k es [] e = refl
own-resized i archive n zero es (life ∷ all) e = grind (arith, eq-eqb, append_assoc, own-elsewhere)
own-resized i archive n (suc k) es (life ∷ all) e = grind (arith, ne_eqb, own-resized (i + 1) archive n k es all (omega (arith, e)))

lives_plain : (base : Content) (now : Moment) (all : List Life) (es : List Event) → KeepsArchives es → lives_from base now all es ≡ with_own 0 es all
lives_plain base now all [] keeps = sym (own-nil 0 all)
lives_plain base now all (Sampled sample ∷ es) keeps = lives_plain base (moment_after now (Sampled sample)) (map (with_event (Sampled sample)) all) es keeps ∙ own-sampled 0 sample es all
lives_plain base now all (Tuned sources ∷ es) keeps = lives_plain base (moment_after now (Tuned sources)) (map (with_event (Tuned sources)) all) es keeps ∙ own-tuned 0 sources es all
lives_plain base now all (Resized archive n ∷ es) keeps = lives_plain base now (change_at (with_event (Resized 0 n)) all archive) es keeps ∙ own-resized 0 archive n archive es all (omega arith)
lives_plain base now all x keeps = absurd keeps

-- ---- by number and by itself

unfoldable made : Rra → ℕ → List Part → List (List Cell) → Rra
made archive n parts rows = record { def = record archive.def { rows = n }; parts = parts; rows = rows }

archive_plain : (base : Content) (es : List Event) (i : ℕ) (archive : Rra) → archive_for base es (since_put (life_of base archive) (own i es)) ≡ archive_of base es (i, archive)
unfolding made since_put row_parts row_parts_of kept_for kept_rows rows_for rows_of
archive_plain base es i archive = grind (arith, rows_own, room_own)

archives_plain : (base : Content) (es : List Event) (i : ℕ) (archives : List Rra) → map (archive_for base es) (with_own i es (map (life_of base) archives)) ≡ map (archive_of base es) (enumerate_from i archives)
unfolding with_own since_put
archives_plain base es i [] = refl
archives_plain base es i (archive ∷ archives) = cc (archive_plain base es i archive, archives_plain base es (i + 1) archives)

pub is_listed : (base : Content) (es : List Event) → IsListedByNumber base es
unfolding content_listed content_lived
is_listed base es is h keeps = cc (sym (archives_plain base es 0 base.archives) ∙ ap (map (archive_for base es)) (sym (lives_plain base (moment_of base) (map (life_of base) base.archives) es keeps)), is_lived base es is h)

-- ---- an archive in which nothing has happened

unfoldable pub still : Rra → Moment → ℕ → Life
still begun birth missed = record { begun = begun; birth = birth; missed = missed; since = [] }

drop-none : {A : Type 0} (n : ℕ) → let none : List A = [] in drop n none ≡ none
drop-none n = grind arith

still_stays : (base : Content) (es : List Event) (begun : Rra) (birth : Moment) (missed : ℕ) → (moment_at_end base es).last ≡ base.last → birth.last ≡ base.last → IsArchive begun → archive_for base es (still begun birth missed) ≡ begun
unfolding made still row_parts kept_for rows_for
still_stays base es begun birth missed same born is = grind (arith, steps_none, drop-none, unfinished_nil, finished_nil, append-nil, filled_already)

all_still : (base : Content) (es : List Event) (archives : List Rra) → (moment_at_end base es).last ≡ base.last → AllByRecursion IsArchive archives → map (archive_for base es) (map (life_of base) archives) ≡ archives
unfolding still
all_still base es [] same is = refl
all_still base es (archive ∷ archives) same is = cc (still_stays base es archive (moment_of base) 0 same refl is.0, all_still base es archives same is.1)

with_all : Content → List Part → List Rra → Content
with_all base parts archives = record base { parts = parts; archives = archives }

pub add_changes : (base : Content) (def : RraDef) → AddChanges base def
unfolding content_lived with_all still
add_changes base def is steps rows =
    let es = Added def ∷ [] in
    let n = length base.sources in
    let new : IsArchive (new_archive n def) = record { some_steps = steps; some_rows = rows; rows_are = length-replicate def.rows (replicate n Cell.Unknown) } in
    grind (arith, is_lived base es is (steps, rows, tt), parts_same base es refl is.some_step, map-append (archive_for base es) (map (life_of base) base.archives) (life_added base (moment_of base) def ∷ []), all_still base es base.archives refl is.archives_are, still_stays base es (new_archive n def) (moment_of base) (base.last / base.step - base.last / base.step) refl refl new)

pub remove_changes : (base : Content) (number : ℕ) → RemoveChanges base number
unfolding content_lived with_all
remove_changes base number is =
    let es = Removed number ∷ [] in
    let all = base.archives in
    grind (arith, is_lived base es is tt, parts_same base es refl is.some_step, map-append (archive_for base es) (take number (map (life_of base) all)) (drop (suc number) (map (life_of base) all)), take-map (life_of base) number all, drop-map (life_of base) (suc number) all, all_still base es (take number all) refl (All-take IsArchive number all is.archives_are), all_still base es (drop (suc number) all) refl (All-drop IsArchive (suc number) all is.archives_are))

-- ---- before its birth

get_or-blank : {A : Type 0} (n i : ℕ) (u : A) → get_or (replicate n u) i u ≡ u
get_or-blank zero i u = refl
get_or-blank (suc n) zero u = refl
get_or-blank (suc n) (suc i) u = get_or-blank n i u

blank_of_age : (n : ℕ) (u : List Cell) (age : ℤ) → row_of_age (replicate n u) u age ≡ u
blank_of_age n u age = grind (arith, get_or-blank)

pub blank_at_first : (sources step last : ℕ) (def : RraDef) (time : ℤ) → BlankAtFirst sources step last def time
blank_at_first sources step last def time = blank_of_age def.rows (replicate sources Cell.Unknown) _
