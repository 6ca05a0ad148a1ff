-- A database of which all pieces came is whole and valid.
use Rattle.std.specs.Prelude.{◌≡◌, ◌+◌, ◌*◌, ◌/◌, ◌≤◌, ℕ, List, [], ◌∷◌, None, length, map, true, false, take, drop, ◌++◌, ◌⊎◌, Bool, min, sum}
use Rattle.rrd_base.proofs.Names.{limits_of, Version, resolution, HeadDue, NothingDue, ◌∙◌, sym, ap, subst, arith, inl, inr, length-append, length-take, take_all, AllByRecursion, fold, find, flat_map, enumerate_from, range_with_len, cases_lt, lt-ltb, le-ltb, length-map, length-reverse, take-append-drop, DsDef, Raw, Part, Filed, filed, head_of, Rra, after_heads, due, rows_in_all, unprepared, Coming, IsArchiveSoFar, IsRebuilding, cells_before, content_so_far, filed_in, cells_by_slot, row_in, entry_of, journal_of, IsRow, IsValidArchiveWithin, IsValidDatabaseWithin, IsValidWithin, Cell, option_map_or, flat_map-append, length-range_with_len}
use Rattle.rrd_spec.specs.Files.Filed.{sources_of}
use native.Mathlib.Nat as nat

bool_cases : (b : Bool) → (b ≡ true) ⊎ (b ≡ false)
bool_cases b = grind arith

-- where nothing is due all has come
pub record AllCame (f : Filed) : Type 0 where
  pub sources : f.header.sources ≤ length f.sources
  pub preps : unprepared f.header.sources f.heads ≡ None
  pub heads : f.header.archives ≤ length f.heads
  pub cells : f.header.sources * rows_in_all f.heads ≤ length f.cells
  pub entries : f.header.entries ≤ length f.entries

head_due : HeadDue ≡ NothingDue → ⊥
head_due e = cc

after : (f : Filed) → after_heads f ≡ NothingDue → (f.header.archives ≤ length f.heads) × (f.header.sources * rows_in_all f.heads ≤ length f.cells) × (f.header.entries ≤ length f.entries)
after f e = grind arith

pub all_came : (f : Filed) → due f ≡ NothingDue → AllCame f
unfolding due
all_came f e = grind arith

-- all preparations came
pub archives_whole : (version : Version) (sources step last : ℕ) (archives : List Rra) → AllByRecursion (IsArchiveSoFar sources step last) archives → unprepared sources (map head_of archives) ≡ None → AllByRecursion (IsValidArchiveWithin (limits_of version) sources (last / step)) archives
archives_whole version sources step last [] all e = tt
archives_whole version sources step last (a ∷ archives) all e = elim (cases_lt (length a.parts) sources) [
  | inl lt ↦ absurd (let e2 = rw (lt-ltb (length a.parts) sources lt) at e in cc)
  | inr le ↦ let e2 = rw (le-ltb (length a.parts) sources le) at e in (
    record {
      some_steps = all.0.def_is.some_steps;
      few_steps = all.0.def_is.few_steps;
      some_rows = all.0.def_is.some_rows;
      few_rows = all.0.def_is.few_rows;
      xff_low = all.0.def_is.xff_low;
      xff_high = all.0.def_is.xff_high;
      parts_are = record { one_each = omega (arith, le, all.0.few_parts); each = all.0.each_part };
      rows_are = all.0.rows_are;
      each_row = all.0.each_row;
    },
    archives_whole version sources step last archives all.1 e2,
  )
]

-- ---- sources

sources_few : (defs : List DsDef) (raws : List Raw) (parts : List Part) → length (sources_of defs raws parts) ≤ length defs
sources_few [] raws parts = omega arith
sources_few (def ∷ defs) [] parts = omega arith
sources_few (def ∷ defs) (raw ∷ raws) [] = omega arith
sources_few (def ∷ defs) (raw ∷ raws) (part ∷ parts) = omega (arith, sources_few defs raws parts)

pub sources_whole : (d : Coming) → IsRebuilding d → AllCame (filed_in d) → length d.sources ≡ d.sources_due
sources_whole d is came = omega (arith, came.sources, is.few_sources, sources_few d.sources d.raws d.preps)

pub archives_all : (d : Coming) → IsRebuilding d → AllCame (filed_in d) → length d.archives ≡ d.archives_due
archives_all d is came = omega (arith, came.heads, is.few_archives, length-map d.archives head_of)

pub journal_length : (d : Coming) → length (journal_of d.journal) ≡ length d.journal
journal_length d = length-reverse (map entry_of d.journal) ∙ length-map d.journal entry_of

pub entries_all : (d : Coming) → IsRebuilding d → AllCame (filed_in d) → length (journal_of d.journal) ≡ d.entries_due
entries_all d is came = omega (arith, came.entries, is.few_entries, journal_length d)

-- ---- the content

pub content_is_valid : (d : Coming) → IsRebuilding d → length d.sources ≡ d.sources_due → length d.archives ≡ d.archives_due → unprepared d.sources_due (map head_of d.archives) ≡ None → IsValidWithin (limits_of d.version) (content_so_far d)
content_is_valid d is sources archives prepared = grind (arith, archives_whole)

pub content_valid : (d : Coming) → IsRebuilding d → AllCame (filed_in d) → IsValidWithin (limits_of d.version) (content_so_far d)
content_valid d is came = content_is_valid d is (sources_whole d is came) (archives_all d is came) came.preps

pub database_valid : (d : Coming) → IsRebuilding d → AllCame (filed_in d) → IsValidDatabaseWithin (limits_of d.version) (content_so_far d) (journal_of d.journal)
database_valid d is came = record { content_is = content_valid d is came; journal_is = is.journal_is; few = omega (arith, entries_all d is came, is.header_is.few_entries) }

-- ---- cells

found_few : (test : ℕ × List Cell → Bool) (sources n : ℕ) (rows : List (List Cell)) → AllByRecursion (IsRow sources) rows → length (option_map_or (λ (found : ℕ × List Cell). found.1) (find test (enumerate_from n rows)) []) ≤ sources
found_few test sources n [] all = omega arith
found_few test sources n (row ∷ rows) all = grind (arith, bool_cases, found_few test sources (n + 1) rows all.1)

rows_few : (size last sources : ℕ) (rows : List (List Cell)) (slots : List ℕ) → AllByRecursion (IsRow sources) rows → length (flat_map (row_in size last rows) slots) ≤ length slots * sources
rows_few size last sources rows [] all = omega arith
rows_few size last sources rows (slot ∷ slots) all = grind (arith, found_few, length-append, rows_few size last sources rows slots all)

fold_from : (n : ℕ) (xs : List ℕ) → fold ◌+◌ n xs ≡ n + fold ◌+◌ 0 xs
fold_from n [] = omega arith
fold_from n (x ∷ xs) = fold_from (n + x) xs ∙ (omega (arith, fold_from (0 + x) xs))

pub fold_sum : (n : ℕ) (xs : List ℕ) → sum (n ∷ xs) ≡ n + sum xs
fold_sum n xs = fold_from (0 + n) xs ∙ omega arith

cells_few : (sources step last : ℕ) (archives : List Rra) → AllByRecursion (IsArchiveSoFar sources step last) archives → length (flat_map (cells_by_slot step last) archives) ≤ sources * rows_in_all (map head_of archives)
cells_few sources step last [] all = omega arith
cells_few sources step last (a ∷ archives) all =
    let here = rows_few (resolution step a.def) last sources a.rows (range_with_len 0 (length a.rows)) all.0.each_row in
    let slots : length (range_with_len 0 (length a.rows)) ≡ a.def.rows = length-range_with_len 0 (length a.rows) ∙ all.0.rows_are in
    let mine : length (cells_by_slot step last a) ≤ a.def.rows * sources = subst (λ n. length (cells_by_slot step last a) ≤ n * sources) slots here in
    let later = cells_few sources step last archives all.1 in
    let more : length (flat_map (cells_by_slot step last) (a ∷ archives)) ≡ length (cells_by_slot step last a) + length (flat_map (cells_by_slot step last) archives) = grind (arith, length-append) in
    let product : sources * (a.def.rows + rows_in_all (map head_of archives)) ≡ sources * a.def.rows + sources * rows_in_all (map head_of archives) = nat.mul-add sources a.def.rows (rows_in_all (map head_of archives)) in
    grind (arith, fold_sum)

-- as many cells as there can be are all of them
pub cells_all : (d : Coming) → IsRebuilding d → AllCame (filed_in d) → cells_before d.step d.last d.archives d.archive d.filled ≡ flat_map (cells_by_slot d.step d.last) d.archives
cells_all d is came =
    let f = cells_by_slot d.step d.last in
    let xs = d.archives in
    let front = flat_map f (take d.archive xs) in
    let back = flat_map f (drop d.archive xs) in
    let whole : front ++ back ≡ flat_map f xs = sym (flat_map-append f (take d.archive xs) (drop d.archive xs)) ∙ ap (flat_map f) (take-append-drop d.archive xs) in
    let all : length (front ++ take d.filled back) ≡ length front + length (take d.filled back) = length-append front (take d.filled back) in
    let sum : length (flat_map f xs) ≡ length front + length back = ap length (sym whole) ∙ length-append front back in
    let taken : length (take d.filled back) ≡ min d.filled (length back) = length-take d.filled back in
    grind (arith, cells_few, take_all)

pub filed_whole : (d : Coming) → IsRebuilding d → AllCame (filed_in d) → filed d.version (record { content = content_so_far d; journal = journal_of d.journal }) ≡ filed_in d
filed_whole d is came = grind (arith, sources_whole, archives_all, entries_all, cells_all)
