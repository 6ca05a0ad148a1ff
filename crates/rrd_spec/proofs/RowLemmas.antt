-- An archive's rows after a history in two pieces.
use Rattle.std.specs.Prelude.{◌≡◌, ℕ, ◌+◌, ◌-◌, ◌<◌, ◌≤◌, min, cond, List, [], ◌∷◌, ◌++◌, length, take, replicate}
use Rattle.rrd_spec.proofs.Names.{common_steps, sym, ◌∙◌, ap, arith, length-append, append_assoc, append-nil, take_all, get_or, ltb, ⊎_elim, cases_lt, lt-ltb, le-ltb, drop-append-le, drop-replicate, length-replicate, replicate-append-replicate, fold, Event, Sampled, Tuned, Resized, Added, Removed, Moment, moment_after, rows_after, IsHistory, rows_never_lost, keep_last, filled_up, keep_all, keep_last_past, length-keep_last, split_last}
use Rattle.rrd_spec.proofs.HistoryLemmas.{last_rises}

-- ---- lists

-- what is full already stays
pub filled_already : {A : Type 0} (n : ℕ) (u : A) (xs : List A) → length xs ≡ n → filled_up n u xs ≡ xs
filled_already n u xs h = ap (λ m. replicate m u ++ xs) {x = n - length xs} {y = 0} (omega arith)

pub length-filled_up : {A : Type 0} (n : ℕ) (u : A) (xs : List A) → length xs ≤ n → length (filled_up n u xs) ≡ n
length-filled_up n u xs h = omega (arith, length-append (replicate (n - length xs) u) xs, length-replicate (n - length xs) u)

filled_up-replicate : {A : Type 0} (n q : ℕ) (u : A) (xs : List A) → q + length xs ≤ n → filled_up n u (replicate q u ++ xs) ≡ filled_up n u xs
filled_up-replicate n q u xs h =
    let count : length (replicate q u ++ xs) ≡ q + length xs = omega (arith, length-append (replicate q u) xs, length-replicate q u) in
    cc (count, append_assoc (replicate (n - (q + length xs)) u) (replicate q u) xs, replicate-append-replicate (n - (q + length xs)) q u, ap (λ m. replicate m u ++ xs) {x = n - (q + length xs) + q} {y = n - length xs} (omega arith))

-- to keep the last of what was kept before is to keep the last of all
pub rows_again : {A : Type 0} (before after then now : ℕ) (u : A) (xs ys : List A) → then ≤ length xs → then ≤ before → now ≤ before + length ys → now ≤ after → filled_up after u (keep_last (min (then + length ys) now) (xs ++ ys)) ≡ filled_up after u (keep_last now (filled_up before u (keep_last then xs) ++ ys))
rows_again before after then now u xs ys some fits some_now fits_now =
    let kept = keep_last then xs in
    let count : length kept ≡ then = length-keep_last then xs some in
    let pads = replicate (before - length kept) u in
    let n = length ys in
    let front = take (length xs - then) xs in
    let both = kept ++ ys in
    let count_both : length both ≡ then + n = omega (arith, length-append kept ys) in
    let whole : xs ++ ys ≡ front ++ both = ap (λ zs. zs ++ ys) (sym (split_last then xs)) ∙ append_assoc front kept ys in
    let left : keep_last (min (then + n) now) (xs ++ ys) ≡ keep_last (min (then + n) now) both = ap (keep_last (min (then + n) now)) whole ∙ keep_last_past (min (then + n) now) front both (omega arith) in
    let right : (pads ++ kept) ++ ys ≡ pads ++ both = append_assoc pads kept ys in
    ⊎_elim
    (λ (padded : then + n < now).
    let few : keep_last (min (then + n) now) both ≡ both = ap (λ m. keep_last m both) {x = min (then + n) now} {y = then + n} (omega arith) ∙ keep_all (then + n) both (omega arith) in
    let cut = length (pads ++ both) - now in
    let count_pads = length-replicate (before - length kept) u in
    let count_all = length-append pads both in
    let more : keep_last now (pads ++ both) ≡ replicate (before - length kept - cut) u ++ both = drop-append-le cut pads both (omega arith) ∙ ap (λ us. us ++ both) (drop-replicate cut (before - length kept) u) in
    ap (filled_up after u) (left ∙ few) ∙ sym (filled_up-replicate after (before - length kept - cut) u both (omega arith)) ∙ ap (filled_up after u) (sym more ∙ ap (keep_last now) (sym right)))
    (λ (enough : now ≤ then + n).
    let same : keep_last (min (then + n) now) both ≡ keep_last now both = ap (λ m. keep_last m both) {x = min (then + n) now} {y = now} (omega arith) in
    let past : keep_last now (pads ++ both) ≡ keep_last now both = keep_last_past now pads both (omega arith) in
    ap (filled_up after u) (left ∙ same ∙ sym past ∙ ap (keep_last now) (sym right)))
    (cases_lt (then + n) now)

-- ---- how many rows have had a place

pub room_first : (index : ℕ) (since : ℕ → ℕ) (rows : ℕ) (now : Moment) (es : List Event) → rows_never_lost index since rows now es ≤ rows + since now.last
room_first index since rows now [] = omega arith
room_first index since rows now (e ∷ es) = omega arith

pub room_last : (index : ℕ) (since : ℕ → ℕ) (rows : ℕ) (now : Moment) (es : List Event) → rows_never_lost index since rows now es ≤ fold (rows_after index) rows es + since (fold moment_after now es).last
room_last index since rows now [] = omega arith
room_last index since rows now (e ∷ es) = omega (arith, room_last index since (rows_after index rows e) (moment_after now e) es)

pub room-append : (index : ℕ) (first second : ℕ → ℕ) (n rows : ℕ) (now : Moment) (es fs : List Event) → IsHistory now es → ((t : ℕ) → t ≤ (fold moment_after now es).last → second t ≡ first t + n) → rows_never_lost index second rows now (es ++ fs) ≡ min (rows_never_lost index first rows now es + n) (rows_never_lost index second (fold (rows_after index) rows es) (fold moment_after now es) fs)
room-append index first second n rows now [] fs h e = grind (arith, room_first)
room-append index first second n rows now (Sampled sample ∷ es) fs h e =
    let next = moment_after now (Sampled sample) in
    omega (arith, room-append index first second n rows next es fs h.1 e, e now.last (omega (arith, h.0, last_rises next es h.1)))
room-append index first second n rows now (Tuned sources ∷ es) fs h e =
    let next = moment_after now (Tuned sources) in
    omega (arith, room-append index first second n rows next es fs h.1 e, e now.last (last_rises next es h.1))
room-append index first second n rows now (Resized archive new ∷ es) fs h e = grind (arith, room-append index first second n (rows_after index rows (Resized archive new)) now es fs h.1 e, last_rises)
room-append index first second n rows now (Added def ∷ es) fs h e = grind (arith, room-append index first second n rows now es fs h.2 e, last_rises)
room-append index first second n rows now (Removed archive ∷ es) fs h e = grind (arith, room-append index first second n rows now es fs h e, last_rises)

-- the rows that were dropped, before those that stayed, are the rows as they were
pub put_back_rows : {A : Type 0} (old new : List A) (f : ℕ) → length new ≡ f → take (min f (length old)) old ++ take (length old - min f (length old)) (keep_last (length old) (old ++ new)) ≡ old
put_back_rows old new f e = grind (arith, common_steps, length-append, take_all, append-nil)

-- a row by its age
pub row_by_age : {A : Type 0} (rows room age : ℕ) (u : A) (all : List A) → age < rows → room ≤ length all → room ≤ rows → get_or (filled_up rows u (keep_last room all)) (rows - 1 - age) u ≡ cond (ltb age room) (get_or all (length all - 1 - age) u) u
row_by_age rows room age u all h k m =
    let kept = keep_last room all in
    let count = length-keep_last room all k in
    let pads = replicate (rows - length kept) u in
    let count_pads = length-replicate (rows - length kept) u in
    ⊎_elim
    (λ (young : age < room). grind (arith, common_steps, lt-ltb))
    (λ (old : room ≤ age). grind (arith, common_steps, le-ltb))
    (cases_lt age room)
