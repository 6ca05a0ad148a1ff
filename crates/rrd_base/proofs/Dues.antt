-- Which piece is due, by what the fields hold.
use Rattle.std.specs.Prelude.{◌≡◌, ◌+◌, ◌*◌, ◌<◌, ◌≤◌, ℕ, zero, suc, List, [], ◌∷◌, ◌++◌, Some, None, length, map, take, drop, min, sum, nat_lt, if◌then◌else◌}
use Rattle.rrd_base.proofs.Names.{resolution, SourceDue, HeadDue, PrepDue, CellDue, EntryDue, NothingDue, ◌∙◌, sym, ap, subst, arith, refl, get_or, length-append, length-take, length-drop, AllByRecursion, flat_map, lt-ltb, le-ltb, length-map, Cell, Head, head_of, Rra, after_heads, due, prep_or, rows_in_all, unprepared, ArePrepared, Coming, IsArchiveSoFar, IsRebuilding, filed_in, AreFewer, cells_by_slot, AreAccepted, IsRow, DsDef, RraDef, Raw, Part, All-take, All-drop, All-weaker, AsManyCells, HasOneEach}
use Rattle.rrd_spec.specs.Files.Filed.{sources_of}
use Rattle.rrd_base.proofs.Rebuilt.{fold_sum, journal_length}
use native.Mathlib.Nat as nat

-- ---- the archive without all preparations

pub unprepared_last : (sources : ℕ) (front : List Rra) (last : Rra) → ArePrepared sources (front ++ last ∷ []) → unprepared sources (map head_of (front ++ last ∷ [])) ≡ unprepared sources (head_of last ∷ [])
unprepared_last sources [] last is = refl
unprepared_last sources (a ∷ []) last is = rw (le-ltb (length a.parts) sources (omega (arith, is.0))) refl
unprepared_last sources (a ∷ b ∷ front) last is = rw (le-ltb (length a.parts) sources (omega (arith, is.0))) (unprepared_last sources (b ∷ front) last is.1)

-- ---- how many cells there are

-- by the law of the cells in slots
abbrev pub AllAsMany : Type 0
AllAsMany = (resolution last sources : ℕ) (rows : List (List Cell)) → AsManyCells resolution last sources rows

pub one_each : (sources : ℕ) (rows : List (List Cell)) → AllByRecursion (IsRow sources) rows → AllByRecursion (HasOneEach sources) rows
one_each sources rows all = All-weaker (IsRow sources) (HasOneEach sources) rows (λ (row : List Cell) (is : IsRow sources row). is.one_each) all

pub archive_wide : AllAsMany → (sources step last : ℕ) (a : Rra) → 0 < step → IsArchiveSoFar sources step last a → length (cells_by_slot step last a) ≡ sources * a.def.rows
archive_wide as_many sources step last a some is =
    let size : 0 < resolution step a.def = nat.mul-pos some is.def_is.some_steps in
    as_many (resolution step a.def) last sources a.rows size (one_each sources a.rows is.each_row) ∙ (nat.mul_comm (length a.rows) sources ∙ ap (λ n. sources * n) is.rows_are)

pub archives_wide : AllAsMany → (sources step last : ℕ) (archives : List Rra) → 0 < step → AllByRecursion (IsArchiveSoFar sources step last) archives → length (flat_map (cells_by_slot step last) archives) ≡ sources * rows_in_all (map head_of archives)
archives_wide as_many sources step last [] some all = omega arith
archives_wide as_many sources step last (a ∷ archives) some all =
    let here = archive_wide as_many sources step last a some all.0 in
    let later = archives_wide as_many sources step last archives some all.1 in
    let more : length (flat_map (cells_by_slot step last) (a ∷ archives)) ≡ length (cells_by_slot step last a) + length (flat_map (cells_by_slot step last) archives) = grind (arith, length-append) in
    let product : sources * (a.def.rows + rows_in_all (map head_of archives)) ≡ sources * a.def.rows + sources * rows_in_all (map head_of archives) = nat.mul-add sources a.def.rows (rows_in_all (map head_of archives)) in
    let total : rows_in_all (map head_of (a ∷ archives)) ≡ a.def.rows + rows_in_all (map head_of archives) = fold_sum a.def.rows (map (λ (head : Head). head.def.rows) (map head_of archives)) in
    grind arith

pub none_there : {A : Type 0} (xs : List A) → length xs ≡ 0 → xs ≡ []
none_there [] n = refl
none_there (x ∷ xs) n = absurd (omega arith)

pub split_at : {A : Type 0} (xs : List A) (i : ℕ) (x : A) → length xs ≡ suc i → x ≡ get_or xs i x → xs ≡ take i xs ++ x ∷ []
split_at (y ∷ []) zero x n e = ap (λ z. z ∷ []) (sym e)
split_at (y ∷ xs) (suc i) x n e = ap (λ r. y ∷ r) (split_at xs i x (omega arith) e)
split_at y i x n e = absurd (omega arith)

-- ---- what is due

pub lengths_same : (defs : List DsDef) (raws : List Raw) → AreAccepted defs raws → length raws ≡ length defs
lengths_same [] [] is = refl
lengths_same (def ∷ defs) (raw ∷ raws) is = ap suc (lengths_same defs raws is.1)
lengths_same x y is = absurd is

sources_many : (defs : List DsDef) (raws : List Raw) (parts : List Part) → length raws ≡ length defs → length parts ≡ length defs → length (sources_of defs raws parts) ≡ length defs
sources_many [] raws parts a b = refl
sources_many (def ∷ defs) [] parts a b = absurd (omega arith)
sources_many (def ∷ defs) (raw ∷ raws) [] a b = absurd (omega arith)
sources_many (def ∷ defs) (raw ∷ raws) (part ∷ parts) a b = ap suc (sources_many defs raws parts (omega arith) (omega arith))

pub sources_count : (d : Coming) → IsRebuilding d → length (filed_in d).sources ≡ length d.sources
sources_count d is = sources_many d.sources d.raws d.preps (lengths_same d.sources d.raws is.raws_are) is.one_part_each

pub due_source : (d : Coming) → IsRebuilding d → length d.sources < d.sources_due → due (filed_in d) ≡ SourceDue
unfolding due
due_source d is h = let n : length (filed_in d).sources < d.sources_due = omega (arith, h, sources_count d is) in rw (lt-ltb (length (filed_in d).sources) d.sources_due n) refl

pub due_then : (d : Coming) → IsRebuilding d → d.sources_due ≤ length d.sources → due (filed_in d) ≡ prep_or (unprepared d.sources_due (map head_of d.archives)) (after_heads (filed_in d))
unfolding due
due_then d is h = let n : d.sources_due ≤ length (filed_in d).sources = omega (arith, h, sources_count d is) in rw (le-ltb (length (filed_in d).sources) d.sources_due n) refl

pub unprepared_is : (d : Coming) (x : Rra) (i : ℕ) → IsRebuilding d → length d.archives ≡ suc i → x ≡ get_or d.archives i x → unprepared d.sources_due (map head_of d.archives) ≡ unprepared d.sources_due (head_of x ∷ [])
unprepared_is d x i is n e =
    let s = split_at d.archives i x n e in
    ap (λ xs. unprepared d.sources_due (map head_of xs)) s ∙ unprepared_last d.sources_due (take i d.archives) x (subst (ArePrepared d.sources_due) s is.archives_prepared)

pub unprepared_some : (d : Coming) (x : Rra) (i : ℕ) → IsRebuilding d → length d.archives ≡ suc i → x ≡ get_or d.archives i x → length x.parts < d.sources_due → unprepared d.sources_due (map head_of d.archives) ≡ Some x.def
unprepared_some d x i is n e few = unprepared_is d x i is n e ∙ rw (lt-ltb (length x.parts) d.sources_due few) refl

pub due_prep : (d : Coming) (def : RraDef) → IsRebuilding d → d.sources_due ≤ length d.sources → unprepared d.sources_due (map head_of d.archives) ≡ Some def → due (filed_in d) ≡ PrepDue def
due_prep d def is h p = due_then d is h ∙ ap (λ o. prep_or o (after_heads (filed_in d))) p

pub prepared_none : (d : Coming) → length d.archives ≡ 0 → unprepared d.sources_due (map head_of d.archives) ≡ None
prepared_none d n = rw (none_there d.archives n) refl

pub prepared_last : (d : Coming) (x : Rra) (i : ℕ) → IsRebuilding d → length d.archives ≡ suc i → x ≡ get_or d.archives i x → d.sources_due ≤ length x.parts → unprepared d.sources_due (map head_of d.archives) ≡ None
prepared_last d x i is n e many = unprepared_is d x i is n e ∙ rw (le-ltb (length x.parts) d.sources_due many) refl

pub due_after : (d : Coming) → IsRebuilding d → d.sources_due ≤ length d.sources → unprepared d.sources_due (map head_of d.archives) ≡ None → due (filed_in d) ≡ after_heads (filed_in d)
due_after d is h p = due_then d is h ∙ ap (λ o. prep_or o (after_heads (filed_in d))) p

pub due_head : (d : Coming) → IsRebuilding d → length d.archives < d.archives_due → after_heads (filed_in d) ≡ HeadDue
due_head d is h = let n : length (map head_of d.archives) < d.archives_due = omega (arith, h, length-map d.archives head_of) in rw (lt-ltb (length (map head_of d.archives)) d.archives_due n) refl

after_cells : (d : Coming) → d.archives_due ≤ length d.archives → after_heads (filed_in d) ≡ (if nat_lt (length (filed_in d).cells) (d.sources_due * rows_in_all (map head_of d.archives)) then CellDue else (if nat_lt (length (filed_in d).entries) d.entries_due then EntryDue else NothingDue))
after_cells d h = let n : d.archives_due ≤ length (map head_of d.archives) = omega (arith, h, length-map d.archives head_of) in rw (le-ltb (length (map head_of d.archives)) d.archives_due n) refl

-- how many cells came
pub cells_count : AllAsMany → (d : Coming) → IsRebuilding d → length (filed_in d).cells ≡ d.sources_due * rows_in_all (map head_of (take d.archive d.archives)) + min d.filled (d.sources_due * rows_in_all (map head_of (drop d.archive d.archives)))
cells_count as_many d is =
    let f = cells_by_slot d.step d.last in
    let front = flat_map f (take d.archive d.archives) in
    let back = flat_map f (drop d.archive d.archives) in
    let some = is.header_is.some_step in
    let all : length (front ++ take d.filled back) ≡ length front + length (take d.filled back) = length-append front (take d.filled back) in
    let taken : length (take d.filled back) ≡ min d.filled (length back) = length-take d.filled back in
    let one : length front ≡ d.sources_due * rows_in_all (map head_of (take d.archive d.archives)) = archives_wide as_many d.sources_due d.step d.last (take d.archive d.archives) some (All-take (IsArchiveSoFar d.sources_due d.step d.last) d.archive d.archives is.archives_are) in
    let two : length back ≡ d.sources_due * rows_in_all (map head_of (drop d.archive d.archives)) = archives_wide as_many d.sources_due d.step d.last (drop d.archive d.archives) some (All-drop (IsArchiveSoFar d.sources_due d.step d.last) d.archive d.archives is.archives_are) in
    all ∙ (λ i. one i + (taken ∙ ap (λ n. min d.filled n) two) i)

rows_split : (n : ℕ) (archives : List Rra) → rows_in_all (map head_of archives) ≡ rows_in_all (map head_of (take n archives)) + rows_in_all (map head_of (drop n archives))
rows_split zero archives = omega arith
rows_split (suc n) [] = refl
rows_split (suc n) (a ∷ archives) = grind (arith, fold_sum, rows_split n archives)

pub total : (d : Coming) → d.sources_due * rows_in_all (map head_of d.archives) ≡ d.sources_due * rows_in_all (map head_of (take d.archive d.archives)) + d.sources_due * rows_in_all (map head_of (drop d.archive d.archives))
total d = ap (λ n. d.sources_due * n) (rows_split d.archive d.archives) ∙ nat.mul-add d.sources_due _ _

few_left : (sources filled : ℕ) (archives : List Rra) → 0 < length archives → AreFewer sources archives filled → filled < sources * rows_in_all (map head_of archives)
few_left sources filled [] some few = absurd (omega arith)
few_left sources filled (a ∷ archives) some few =
    let rows = map (λ (head : Head). head.def.rows) (map head_of archives) in
    let one : sum (a.def.rows ∷ rows) ≡ a.def.rows + sum rows = fold_sum a.def.rows rows in
    let two : sources * (a.def.rows + sum rows) ≡ sources * a.def.rows + sources * sum rows = nat.mul-add sources a.def.rows (sum rows) in
    subst (λ n. filled < sources * n) (sym one) (omega (arith, two, few))

pub due_cell : AllAsMany → (d : Coming) → IsRebuilding d → d.archives_due ≤ length d.archives → d.archive < length d.archives → after_heads (filed_in d) ≡ CellDue
due_cell as_many d is h there =
    let left : 0 < length (drop d.archive d.archives) = omega (arith, there, length-drop d.archive d.archives) in
    grind (arith, few_left, cells_count, total, after_cells, lt-ltb)

past_cells : AllAsMany → (d : Coming) → IsRebuilding d → d.archives_due ≤ length d.archives → length d.archives ≤ d.archive → after_heads (filed_in d) ≡ (if nat_lt (length (filed_in d).entries) d.entries_due then EntryDue else NothingDue)
past_cells as_many d is h past =
    let none : drop d.archive d.archives ≡ [] = none_there (drop d.archive d.archives) (omega (arith, past, length-drop d.archive d.archives)) in
    grind (arith, cells_count, total, after_cells, le-ltb)

pub due_entry : AllAsMany → (d : Coming) → IsRebuilding d → d.archives_due ≤ length d.archives → length d.archives ≤ d.archive → length d.journal < d.entries_due → after_heads (filed_in d) ≡ EntryDue
due_entry as_many d is h past some = grind (arith, journal_length, past_cells, lt-ltb)

pub due_nothing : AllAsMany → (d : Coming) → IsRebuilding d → d.archives_due ≤ length d.archives → length d.archives ≤ d.archive → d.entries_due ≤ length d.journal → after_heads (filed_in d) ≡ NothingDue
due_nothing as_many d is h past none = grind (arith, journal_length, past_cells, le-ltb)
