-- What an archive shows at each time.
use Rattle.std.specs.Prelude.{◌≡◌, ℕ, zero, suc, ◌+◌, ◌-◌, ◌*◌, ◌/◌, ◌%◌, ◌<◌, ◌≤◌, Bool, true, false, cond, List, [], ◌∷◌, ◌++◌, length, map, replicate, Some, ℤ, pos, negsuc, ◌+ℤ◌, ◌-ℤ◌, ◌≤ℤ◌, unsigned_abs, int_lt, int_le, slice_get}
use Rattle.rrd_spec.proofs.Names.{common_steps, refl, sym, ◌∙◌, ap, subst, ltb, get_or, arith, length-append, ⊎_elim, ◌<ℤ◌, int_max, int_div_euclid, fold, range_with_len, AllByRecursion, div-div-eq-div-mul, cases_lt, cases_Bool, cond-false, cond-true, cond_both, lt-ltb, le-ltb, ints, int_rem_euclid_is, length-map, get_or-append_right, ext_get_or, length-map-range_with_len, get_or-map-range_with_len, mul-le, mul-lt, mod-mul-add, Cell, steps_of, rows_of, row, row_ending, Rra, Content, Event, Moment, moment_after, moment_of, moment_at_end, rows_after, IsHistory, IsBase, rows_never_lost, keep_last, filled_up, archive_for, content_lived, kept_for, rows_for, Life, lives, Rule, group_part, finished, row_of_age, row_at, row_then, newest, reach, prefixes, greatest, reach_after, horizon, row_by_time, time_of, rows_by_time, archive_by_time, content, resolution, IsListed, IsMultiple, ShowsByTime, ListsByNumber}
use Rattle.rrd_spec.proofs.Lives.{LifeAt, length-kept_for, length-rows_for, lives_are}
use Rattle.rrd_spec.proofs.HistoryLemmas.{last_rises, length-sources}
use Rattle.rrd_spec.proofs.RowLemmas.{length-filled_up, room_first, room_last, row_by_age}
use Rattle.rrd_spec.proofs.ContentLemmas.{div_rises}

-- ---- tests

before : (a b : ℤ) → a <ℤ b → int_lt a b ≡ true
before a b h = grind (arith, ints)

not_before : (a b : ℤ) → b ≤ℤ a → int_lt a b ≡ false
not_before a b h = grind (arith, ints)

at_or_before : (a b : ℤ) → a ≤ℤ b → int_le a b ≡ true
at_or_before a b h = grind (arith, ints)

after : (a b : ℤ) → b <ℤ a → int_le a b ≡ false
after a b h = grind (arith, ints)

-- ---- a multiple of a resolution, as a difference of two counts

-- the time is n rows after 1970 less m rows
record IsAt (size : ℕ) (time : ℤ) (n m : ℕ) : Type 0 where
  pub time_is : time ≡ pos (n * size) -ℤ pos (m * size)
  pub count_is : int_div_euclid time (pos size) ≡ pos n -ℤ pos m

multiple_at : (size : ℕ) (time : ℤ) → 0 < size → IsMultiple time size → (n : ℕ) × (m : ℕ) × IsAt size time n m
multiple_at size (pos t) some h =
    (t / size, 0, record { time_is = omega (arith, ints); count_is = omega (arith, ints) })
multiple_at size (negsuc t) some h =
    (0, t / size + 1, record { time_is = omega (arith, ints); count_is = omega (arith, ints) })

less_rows : (a b size : ℕ) → 0 < size → a < b → a * size < b * size
less_rows a b size some h = omega (arith, mul-le (a + 1) size b size (omega arith) (omega arith))

max_rows : (a b size : ℕ) → a ≤ b → a * size ≤ b * size
max_rows a b size h = mul-le a size b size h (omega arith)

-- so many rows, the newest being row e, lie after the time, or don't
reach_under : (size e r n m : ℕ) (time : ℤ) → 0 < size → IsAt size time n m → e + m < n + r → (pos (e * size) -ℤ pos (r * size)) <ℤ time
reach_under size e r n m time some at h = omega (arith, ints, less_rows (e + m) (n + r) size some h, at.time_is)

reach_over : (size e r n m : ℕ) (time : ℤ) → IsAt size time n m → n + r ≤ e + m → time ≤ℤ (pos (e * size) -ℤ pos (r * size))
reach_over size e r n m time at h = omega (arith, ints, max_rows (n + r) (e + m) size h, at.time_is)

ends_under : (size e n m : ℕ) (time : ℤ) → 0 < size → IsAt size time n m → e + m < n → pos (e * size) <ℤ time
ends_under size e n m time some at h = omega (arith, ints, less_rows (e + m) n size some h, at.time_is)

ends_over : (size e n m : ℕ) (time : ℤ) → IsAt size time n m → n ≤ e + m → time ≤ℤ pos (e * size)
ends_over size e n m time at h = omega (arith, ints, max_rows n (e + m) size h, at.time_is)

-- ---- the greatest of a list

max_under : (t a : ℤ) (xs : List ℤ) → a <ℤ t → AllByRecursion (λ x. x <ℤ t) xs → fold int_max a xs <ℤ t
max_under t a [] h k = h
max_under t a (x ∷ xs) h k = max_under t (int_max a x) xs (cond_both (int_lt x a) a x (λ z. z <ℤ t) (λ e. h) (λ e. k.0)) k.1

all_under : (t a : ℤ) (xs : List ℤ) → fold int_max a xs <ℤ t → (a <ℤ t) × AllByRecursion (λ x. x <ℤ t) xs
all_under t a [] h = (h, tt)
all_under t a (x ∷ xs) h = grind (arith, common_steps, all_under t (int_max a x) xs h)

-- ---- the room, and the horizon

rest_of_history : (now : Moment) (e : Event) (es : List Event) → IsHistory now (e ∷ es) → IsHistory (moment_after now e) es
rest_of_history now x es h = grind arith

abbrev reach_from : ℕ → ℕ → ℕ → Moment → List Event → ℤ
reach_from size index rows now events = reach size (fold (rows_after index) rows events) (fold moment_after now events).last

-- what holds after one event more
all_later : (P : ℤ → Type 0) (size index rows : ℕ) (now : Moment) (e : Event) (ps : List (List Event)) → AllByRecursion P (map (reach_from size index (rows_after index rows e) (moment_after now e)) ps) → AllByRecursion P (map (reach_from size index rows now) (map (λ p. e ∷ p) ps))
all_later P size index rows now e [] h = tt
all_later P size index rows now e (p ∷ ps) h = (h.0, all_later P size index rows now e ps h.1)

all_sooner : (P : ℤ → Type 0) (size index rows : ℕ) (now : Moment) (e : Event) (ps : List (List Event)) → AllByRecursion P (map (reach_from size index rows now) (map (λ p. e ∷ p) ps)) → AllByRecursion P (map (reach_from size index (rows_after index rows e) (moment_after now e)) ps)
all_sooner P size index rows now e [] h = tt
all_sooner P size index rows now e (p ∷ ps) h = (h.0, all_sooner P size index rows now e ps h.1)

-- a row that has always had a place is after what was reached at every moment
room_under : (size index end age n m : ℕ) (time : ℤ) → 0 < size → IsAt size time n m → age + n ≡ end / size + m → (rows : ℕ) (now : Moment) (es : List Event) → IsHistory now es → (fold moment_after now es).last ≡ end → age < rows_never_lost index (λ t. end / size - t / size) rows now es → AllByRecursion (λ x. x <ℤ time) (map (reach_from size index rows now) (prefixes es))
room_under size index end age n m time some at aged rows now [] h e k = grind (arith, common_steps, div_rises, reach_under)
room_under size index end age n m time some at aged rows now (event ∷ es) h e k =
    let low = last_rises now (event ∷ es) h in
    let below = div_rises now.last end size some (omega arith) in (
      reach_under size (now.last / size) rows n m time some at (omega arith),
      all_later (λ x. x <ℤ time) size index rows now event (prefixes es)
          (room_under size index end age n m time some at aged (rows_after index rows event) (moment_after now event) es (rest_of_history now event es h) e (omega arith)),
    )

under_room : (size index end age n m : ℕ) (time : ℤ) → 0 < size → IsAt size time n m → age + n ≡ end / size + m → (rows : ℕ) (now : Moment) (es : List Event) → IsHistory now es → (fold moment_after now es).last ≡ end → AllByRecursion (λ x. x <ℤ time) (map (reach_from size index rows now) (prefixes es)) → age < rows_never_lost index (λ t. end / size - t / size) rows now es
under_room size index end age n m time some at aged rows now [] h e k =
    ⊎_elim
    (λ (in_it : now.last / size + m < n + rows). omega arith)
    (λ (out : n + rows ≤ now.last / size + m). absurd (omega (arith, ints, k.0, reach_over size (now.last / size) rows n m time at out)))
    (cases_lt (now.last / size + m) (n + rows))
under_room size index end age n m time some at aged rows now (event ∷ es) h e k =
    let low = last_rises now (event ∷ es) h in
    let rest = under_room size index end age n m time some at aged (rows_after index rows event) (moment_after now event) es (rest_of_history now event es h) e (all_sooner (λ x. x <ℤ time) size index rows now event (prefixes es) k.1) in
    ⊎_elim
    (λ (in_it : now.last / size + m < n + rows). omega arith)
    (λ (out : n + rows ≤ now.last / size + m). absurd (omega (arith, ints, k.0, reach_over size (now.last / size) rows n m time at out)))
    (cases_lt (now.last / size + m) (n + rows))

greatest_under : (t : ℤ) (xs : List ℤ) → 0 < length xs → AllByRecursion (λ x. x <ℤ t) xs → greatest xs <ℤ t
greatest_under t xs some h = grind (arith, max_under)

under_greatest : (t : ℤ) (xs : List ℤ) → greatest xs <ℤ t → AllByRecursion (λ x. x <ℤ t) xs
under_greatest t xs h = grind (arith, all_under)

some_prefix : {A : Type 0} (xs : List A) → 0 < length (prefixes xs)
some_prefix [] = omega arith
some_prefix (x ∷ xs) = omega arith

in_sight : (step : ℕ) (life : Life) (end age n m : ℕ) (time : ℤ) → let size = resolution step life.begun.def in 0 < size → IsHistory life.birth life.since → (fold moment_after life.birth life.since).last ≡ end → IsAt size time n m → age + n ≡ end / size + m → age < rows_never_lost 0 (λ t. end / size - t / size) life.begun.def.rows life.birth life.since → int_le time (horizon step life) ≡ false
in_sight step life end age n m time some h e at aged k =
    after time (horizon step life)
    (greatest_under time (map (reach_after step life) (prefixes life.since)) (omega (arith, some_prefix life.since, length-map (prefixes life.since) (reach_after step life)))
    (room_under (resolution step life.begun.def) 0 end age n m time some at aged life.begun.def.rows life.birth life.since h e k))

out_of_sight : (step : ℕ) (life : Life) (end age n m : ℕ) (time : ℤ) → let size = resolution step life.begun.def in 0 < size → IsHistory life.birth life.since → (fold moment_after life.birth life.since).last ≡ end → IsAt size time n m → age + n ≡ end / size + m → rows_never_lost 0 (λ t. end / size - t / size) life.begun.def.rows life.birth life.since ≤ age → int_le time (horizon step life) ≡ true
out_of_sight step life end age n m time some h e at aged k =
    let size = resolution step life.begun.def in
    let reached = horizon step life in
    ⊎_elim
    (λ (hidden : int_le time reached ≡ true). hidden)
    (λ (seen : int_le time reached ≡ false).
    let after_it : reached <ℤ time = grind (arith, ints) in
    absurd (omega (arith, under_room size 0 end age n m time some at aged life.begun.def.rows life.birth life.since h e (under_greatest time (map (reach_after step life) (prefixes life.since)) after_it))))
    (cases_Bool (int_le time reached))

-- ---- the rows that an archive has, by their ages

shown_by_age : (rows room age : ℕ) (u : List Cell) (all : List (List Cell)) → room ≤ length all → room ≤ rows → row_of_age (filled_up rows u (keep_last room all)) u (pos age) ≡ cond (ltb age room) (get_or all (length all - 1 - age) u) u
shown_by_age rows room age u all some fits = grind (arith, common_steps, length-filled_up, cond-true, lt-ltb, row_by_age, cond-false, le-ltb)

finished_at : {A P B : Type 0} (rule : Rule A P B) (begun_at : ℕ) (begun : P) (items : List A) (i : ℕ) (d : B) → i < length (finished rule begun_at begun items) → get_or (finished rule begun_at begun items) i d ≡ rule.close (group_part rule begun_at begun items (begun_at / rule.size + i))
unfolding finished
finished_at rule begun_at begun items i d h =
    let close_at = λ (group : ℕ). rule.close (group_part rule begun_at begun items group) in
    let count = (begun_at + length items) / rule.size - begun_at / rule.size in
    get_or-map-range_with_len close_at (begun_at / rule.size) count i (begun_at / rule.size + i) d (omega (arith, length-map-range_with_len close_at (begun_at / rule.size) count)) refl

-- a row that ended since the archive began
new_row : (base : Content) (life : Life) (es : List Event) (i number : ℕ) (d : List Cell) → i < length (rows_for base es life) → life.birth.last / base.step / life.begun.def.steps + i ≡ number → get_or (rows_for base es life) i d ≡ row base life es number
unfolding rows_for
new_row base life es i number d h e = grind (arith, finished_at)

-- the number of the row that ends n - m rows after 1970
row_number : (size n m : ℕ) (time : ℤ) → 0 < size → IsAt size time n m → m < n → unsigned_abs time / size ≡ n - m
row_number size n m time some at h = grind arith

-- ---- the three cases of a row that is in sight

old_row : (size last : ℕ) (rows news : List (List Cell)) (u : List Cell) (age n m first end : ℕ) (time : ℤ) → IsAt size time n m → last / size ≡ first → first ≤ end → age + n ≡ end + m → n ≤ first + m → age < length rows + (end - first) → get_or (rows ++ news) (length rows + (end - first) - 1 - age) u ≡ row_of_age rows u (pos (last / size) -ℤ int_div_euclid time (pos size))
old_row size last rows news u age n m first end time at first_is rises aged older seen =
    let back = first + m - n in
    let ago : pos (last / size) -ℤ int_div_euclid time (pos size) ≡ pos back = omega (arith, ints, at.count_is) in
    grind (arith, common_steps, cond-true, lt-ltb)

recent_row : (base : Content) (life : Life) (es : List Event) (u : List Cell) (age n m first end : ℕ) (time : ℤ) → let size = resolution base.step life.begun.def in 0 < size → IsAt size time n m → life.birth.last / base.step / life.begun.def.steps ≡ first → length (rows_for base es life) ≡ end - first → age + n ≡ end + m → first + m < n → get_or (life.begun.rows ++ rows_for base es life) (length life.begun.rows + (end - first) - 1 - age) u ≡ row_ending base life es time
recent_row base life es u age n m first end time some at first_step count aged newer =
    let rows = life.begun.rows in
    let i = n - m - 1 - first in
    get_or-append_right rows (rows_for base es life) (length rows) (length rows + (end - first) - 1 - age) u refl (omega arith)
    ∙ ap (λ k. get_or (rows_for base es life) k u) {x = length rows + (end - first) - 1 - age - length rows} {y = i} (omega arith)
    ∙ new_row base life es i (n - m - 1) u (omega arith) (omega arith)
    ∙ sym (ap (λ k. row base life es (k - 1)) (row_number (resolution base.step life.begun.def) n m time some at (omega arith)))

-- ---- an archive

-- the kept row of a time, by its age
kept_by_time : (base : Content) (es : List Event) (life : Life) (time : ℤ) → 0 < base.step → IsHistory (moment_of base) es → LifeAt base (moment_at_end base es) life → IsMultiple time (resolution base.step life.begun.def) → row_of_age (kept_for base es life) (replicate (length base.sources) Cell.Unknown) (pos ((moment_at_end base es).last / resolution base.step life.begun.def) -ℤ int_div_euclid time (pos (resolution base.step life.begun.def))) ≡ row_by_time base life es time
unfolding kept_for
kept_by_time base es life time some_step h alive multiple =
    let size = resolution base.step life.begun.def in
    let is = alive.archive_is in
    let olds = life.begun.rows in
    let last = (moment_at_end base es).last in
    let first = life.birth.last / size in
    let end = last / size in
    let some : 0 < size = omega (arith, mul-lt 0 0 base.step life.begun.def.steps some_step is.some_steps) in
    let place = multiple_at size time some multiple in
    let n = place.0 in
    let m = place.1 in
    let at : IsAt size time n m = place.2 in
    let u = replicate (length base.sources) Cell.Unknown in
    let all = olds ++ rows_for base es life in
    let since = λ (t : ℕ). end - t / size in
    let now = life.birth in
    let here : (fold moment_after now life.since).last ≡ last = ap (λ (e : Moment). e.last) alive.now_is in
    let rows_end = fold (rows_after 0) life.begun.def.rows life.since in
    let kept_room = rows_never_lost 0 since life.begun.def.rows now life.since in
    let kept = filled_up rows_end u (keep_last kept_room all) in
    let count_new : first + length (rows_for base es life) ≡ end = length-rows_for base es life some_step h alive in
    let count_all = length-append olds (rows_for base es life) in
    let most = room_first 0 since life.begun.def.rows now life.since in
    let none_since : since (fold moment_after now life.since).last ≡ 0 = omega (arith, ap (λ t. t / size) here) in
    let fits = room_last 0 since life.begun.def.rows now life.since in
    let hidden = int_le time (horizon base.step life) in
    let ahead = int_lt (pos (newest size last)) time in
    let old = int_le time (pos (newest size life.birth.last)) in
    let begun_row = row_then (length base.sources) base.step life.birth.last life.begun time in
    let later = cond old begun_row (row_ending base life es time) in
    ⊎_elim
    (λ (after_end : end + m < n).
    let ago : pos end -ℤ int_div_euclid time (pos size) ≡ negsuc (n - (end + m) - 1) = omega (arith, ints, at.count_is) in
    grind (arith, cond-true, pos, ends_under))
    (λ (in_time : n ≤ end + m).
    let age = end + m - n in
    let ago : pos end -ℤ int_div_euclid time (pos size) ≡ pos age = omega (arith, ints, at.count_is) in
    let aged : age + n ≡ end + m = omega arith in
    let shown = shown_by_age rows_end kept_room age u all (omega (arith, is.rows_are)) (omega arith) in
    let not_ahead : cond ahead u later ≡ later = cond-false ahead u later (not_before (pos (newest size last)) time (ends_over size end n m time at in_time)) in
    ap (row_of_age kept u) ago ∙ shown
    ∙ ⊎_elim
    (λ (young : age < kept_room).
    let rest : cond hidden u (cond ahead u later) ≡ later = cond-false hidden u (cond ahead u later) (in_sight base.step life last age n m time some alive.history here at aged young) ∙ not_ahead in
    let place_is : get_or all (length all - 1 - age) u ≡ get_or all (length olds + (end - first) - 1 - age) u = ap (λ k. get_or all (k - 1 - age) u) {x = length all} {y = length olds + (end - first)} (omega arith) in
    cond-true (ltb age kept_room) (get_or all (length all - 1 - age) u) u (lt-ltb age kept_room young)
    ∙ place_is
    ∙ ⊎_elim
    (λ (newer : first + m < n).
    recent_row base life es u age n m first end time some at (div-div-eq-div-mul life.birth.last base.step life.begun.def.steps) (omega arith) aged newer
    ∙ sym (rest ∙ cond-false old begun_row (row_ending base life es time) (after time (pos (newest size life.birth.last)) (ends_under size first n m time some at newer))))
    (λ (older : n ≤ first + m). grind (arith, old_row, cond-true, at_or_before, pos, ends_over))
    (cases_lt (first + m) n))
    (λ (gone : kept_room ≤ age). grind (arith, cond-false (ltb age kept_room) (get_or all (length all - 1 - age) u) u (le-ltb age kept_room gone), le-ltb age kept_room gone, out_of_sight base.step life last age n m time some alive.history here))
    (cases_lt age kept_room))
    (cases_lt (end + m) n)
  where
    either : (b : Bool) (x : List Cell) → cond b x x ≡ x
    either true x = refl
    either false x = refl

row_shown : (base : Content) (es : List Event) (life : Life) (time : ℤ) → 0 < base.step → IsHistory (moment_of base) es → LifeAt base (moment_at_end base es) life → IsMultiple time (resolution base.step life.begun.def) → row_at (content_lived base es) (archive_for base es life) time ≡ row_by_time base life es time
unfolding content_lived
row_shown base es life time some_step h alive multiple = grind (arith, length-sources, kept_by_time)

-- ---- all rows of an archive

multiple_of : (size n m : ℕ) (time : ℤ) → 0 < size → time ≡ pos (n * size) -ℤ pos (m * size) → IsMultiple time size
multiple_of size n m time some is = cc (int_rem_euclid_is time (pos size) size m (n * size) some refl (omega (arith, ints, is)), ap (λ k. k % size) {x = n * size} {y = n * size + 0} (omega arith) ∙ mod-mul-add n size 0 some)

same_count : (size a b : ℕ) → 0 < size → a * size ≡ b * size → a ≡ b
same_count size a b some e = grind arith

-- how old the row of a place is
age_of : (size rows end place : ℕ) (time : ℤ) → 0 < size → place < rows → time ≡ (pos (end * size) -ℤ pos (rows * size)) +ℤ pos ((place + 1) * size) → IsMultiple time size × (pos end -ℤ int_div_euclid time (pos size) ≡ pos (rows - 1 - place))
age_of size rows end place time some within is =
    let whole : time ≡ pos ((end + (place + 1)) * size) -ℤ pos (rows * size) = omega (arith, ints, is) in
    let multiple = multiple_of size (end + (place + 1)) rows time some whole in
    let found = multiple_at size time some multiple in
    let n = found.0 in
    let m = found.1 in
    let at : IsAt size time n m = found.2 in
    let same : n + rows ≡ end + (place + 1) + m = same_count size (n + rows) (end + (place + 1) + m) some (omega (arith, ints, whole, at.time_is)) in
    (multiple, omega (arith, ints, at.count_is, same))

rows_are_by_time : (base : Content) (es : List Event) (life : Life) → 0 < base.step → IsHistory (moment_of base) es → LifeAt base (moment_at_end base es) life → kept_for base es life ≡ rows_by_time base es life
rows_are_by_time base es life some_step h alive =
    let size = resolution base.step life.begun.def in
    let last = (moment_at_end base es).last in
    let some : 0 < size = omega (arith, mul-lt 0 0 base.step life.begun.def.steps some_step alive.archive_is.some_steps) in
    let u = replicate (length base.sources) Cell.Unknown in
    let rows = fold (rows_after 0) life.begun.def.rows life.since in
    let kept = kept_for base es life in
    let one = λ (place : ℕ). row_by_time base life es (time_of size rows last place) in
    let count : length kept ≡ rows = length-kept_for base es life some_step h alive in
    let listed = length-map-range_with_len one 0 rows in
    ext_get_or u kept (map one (range_with_len 0 rows)) (omega (arith, count, listed))
    (λ place within.
    let here : place < rows = omega (arith, count, within) in
    let age = age_of size rows (last / size) place (time_of size rows last place) some here refl in
    let by_age : row_of_age kept u (pos (rows - 1 - place)) ≡ get_or kept place u
    = grind (arith, cond-true, lt-ltb) in
    sym by_age ∙ sym (ap (row_of_age kept u) age.1)
    ∙ kept_by_time base es life (time_of size rows last place) some_step h alive age.0
    ∙ sym (get_or-map-range_with_len one 0 rows place place u (omega (arith, listed, here)) (omega arith)))

each_by_time : (base : Content) (es : List Event) (all : List Life) → 0 < base.step → IsHistory (moment_of base) es → AllByRecursion (LifeAt base (moment_at_end base es)) all → map (archive_for base es) all ≡ map (archive_by_time base es) all
each_by_time base es [] some h is = refl
each_by_time base es (life ∷ all) some h is = cc (rows_are_by_time base es life some h is.0, each_by_time base es all some h is.1)

pub is_lived : (base : Content) (es : List Event) → IsListed base es
unfolding content_lived
is_lived base es is h = ap (λ archives. let x : Content = record (content base es) { archives = archives } in x) (each_by_time base es (lives base es) is.some_step h (lives_are base es is h))

-- ---- each archive of a content

shown_is : (f : Life → Rra) (all : List Life) (index : ℕ) (life : Life) (shown : Rra) → slice_get all index ≡ Some life → slice_get (map f all) index ≡ Some shown → f life ≡ shown
shown_is f [] index life shown h k = absurd cc
shown_is f (first ∷ all) zero life shown h k = grind (arith, common_steps)
shown_is f (first ∷ all) (suc index) life shown h k = shown_is f all index life shown h k

one_alive : (base : Content) (now : Moment) (all : List Life) (index : ℕ) (life : Life) → AllByRecursion (LifeAt base now) all → slice_get all index ≡ Some life → LifeAt base now life
one_alive base now [] index life is h = absurd cc
one_alive base now (first ∷ all) zero life is h = let here : first ≡ life = cc in subst (LifeAt base now) here is.0
one_alive base now (first ∷ all) (suc index) life is h = one_alive base now all index life is.1 h

shows_listed : (base : Content) (es : List Event) → IsBase base → IsHistory (moment_of base) es → (index : ℕ) (life : Life) (shown : Rra) → slice_get (lives base es) index ≡ Some life → slice_get (content_lived base es).archives index ≡ Some shown → (time : ℤ) → IsMultiple time (resolution base.step life.begun.def) → row_at (content_lived base es) shown time ≡ row_by_time base life es time
unfolding content_lived
shows_listed base es is h index life shown there then time multiple =
    let this = shown_is (archive_for base es) (lives base es) index life shown there then in
    grind (arith, one_alive, lives_are, row_shown)

pub shows_by_time : (base : Content) (es : List Event) → ShowsByTime base es
shows_by_time base es is h = subst
    (λ (x : Content). (index : ℕ) (life : Life) (shown : Rra) → slice_get (lives base es) index ≡ Some life → slice_get x.archives index ≡ Some shown → (time : ℤ) → IsMultiple time (resolution base.step life.begun.def) → row_at x shown time ≡ row_by_time base life es time)
    (is_lived base es is h)
    (shows_listed base es is h)

-- ---- steps and rows by themselves

finished_by_number : {A P B : Type 0} (rule : Rule A P B) (begun_at : ℕ) (begun : P) (items : List A) → finished rule begun_at begun items ≡ map (λ group. rule.close (group_part rule begun_at begun items group)) (range_with_len (begun_at / rule.size) (length (finished rule begun_at begun items)))
unfolding finished
finished_by_number rule begun_at begun items =
    let close_at = λ (group : ℕ). rule.close (group_part rule begun_at begun items group) in
    let first = begun_at / rule.size in
    ap (λ n. map close_at (range_with_len first n)) (sym (length-map-range_with_len close_at first ((begun_at + length items) / rule.size - first)))

pub lists_by_number : (base : Content) (archive : Rra) (events : List Event) → ListsByNumber base archive events
unfolding steps_of rows_of
lists_by_number base archive events = grind (arith, finished_by_number)
