-- What each piece keeps of a database that comes piece by piece.
use Rattle.std.specs.Prelude.{◌≡◌, ◌+◌, ◌*◌, ◌%◌, ◌<◌, ◌≤◌, ℕ, zero, suc, List, [], ◌∷◌, ◌++◌, Some, None, Option, length, map, take, drop, false, replicate, sum, nat_lt, not, true, ◌⊎◌}
use Rattle.rrd_base.proofs.Names.{Cursor, limits_of, newest, present, outline_undone, rows_of, AreRemovedSettings, IsArchiveDef, IsRowPart, MayHead, heads_with_part, MaySource, after_heads, due, prep_or, rows_in_all, unprepared, with_head, with_prep, names, has_source, is_double, Due, HeadDue, PrepDue, SourceDue, ◌∙◌, sym, ap, subst, arith, inl, inr, refl, get_or, set, length-append, AllByRecursion, list_any, fold, cases_lt, le-ltb, lt-ltb, or_parts, or_from, Cell, Name, Raw, same_name, IsAccepted, IsBounded, Part, Average, DsDef, RraDef, Outline, Entry, rows_of_archives, Filed, Head, Source, head_of, Rra, ArePrepared, Coming, IsArchiveSoFar, IsRebuilding, cells_before, content_so_far, filed_in, IsCursor, IsOutline, EntryValidator, AreFewer, KnowsPlaceIn, filled_by, journal_of, AreAccepted, IsPart, IsRow, IsSourceWithin, IsValidJournalWithin, All-append, All-replicate, length-map, length-replicate}
use Rattle.rrd_base.proofs.Versions.{archive_def_in, few_cells}
use Rattle.rrd_spec.specs.Files.Rebuilding.{with_source}
use Rattle.rrd_spec.specs.Files.Filed.{sources_of}
use Rattle.rrd_base.proofs.Dues.{due_source, due_then, lengths_same, none_there, split_at, unprepared_is}

-- ---- lists

none_more : (m : Name) (ns : List Name) (n : Name) → list_any (same_name m) ns ≡ false → same_name m n ≡ false → list_any (same_name m) (ns ++ n ∷ []) ≡ false
none_more m [] n a b = or_from _ _ b refl
none_more m (k ∷ ns) n a b =
    let p = or_parts (same_name m k) (list_any (same_name m) ns) a in
    or_from _ _ p.0 (none_more m ns n p.1 b)

double_more : (ns : List Name) (n : Name) → is_double ns ≡ false → list_any (λ (m : Name). same_name m n) ns ≡ false → is_double (ns ++ n ∷ []) ≡ false
double_more [] n a b = refl
double_more (m ∷ ns) n a b =
    let p = or_parts (list_any (same_name m) ns) (is_double ns) a in
    let q = or_parts (same_name m n) (list_any (λ (m : Name). same_name m n) ns) b in
    or_from _ _ (none_more m ns n p.0 q.0) (double_more ns n p.1 q.1)

pub accepted_more : (defs : List DsDef) (raws : List Raw) (def : DsDef) (raw : Raw) → AreAccepted defs raws → IsAccepted def.kind raw → AreAccepted (defs ++ def ∷ []) (raws ++ raw ∷ [])
accepted_more [] [] def raw is one = (one, tt)
accepted_more (d ∷ defs) (r ∷ raws) def raw is one = (is.0, accepted_more defs raws def raw is.1 one)
accepted_more x y def raw is one = absurd is

names_more : (defs : List DsDef) (def : DsDef) → names (defs ++ def ∷ []) ≡ names defs ++ def.name ∷ []
names_more [] def = refl
names_more (d ∷ defs) def = ap (λ ns. d.name ∷ ns) (names_more defs def)

any_name : (defs : List DsDef) (name : Name) → has_source defs name ≡ false → list_any (λ (m : Name). same_name m name) (names defs) ≡ false
any_name [] name h = refl
any_name (d ∷ defs) name h = let p = or_parts (same_name d.name name) (has_source defs name) h in or_from _ _ p.0 (any_name defs name p.1)

sources_more : (defs : List DsDef) (raws : List Raw) (parts : List Part) (def : DsDef) (raw : Raw) (part : Part) → length raws ≡ length defs → length parts ≡ length defs → sources_of (defs ++ def ∷ []) (raws ++ raw ∷ []) (parts ++ part ∷ []) ≡ sources_of defs raws parts ++ record { def = def; raw = raw; part = part } ∷ []
sources_more [] [] [] def raw part a b = refl
sources_more (d ∷ defs) (r ∷ raws) (p ∷ parts) def raw part a b = ap (λ (xs : List Source). record { def = d; raw = r; part = p } ∷ xs) (sources_more defs raws parts def raw part (omega arith) (omega arith))
sources_more x y parts def raw part a b = absurd (omega arith)

pub defs_of : (defs : List DsDef) (raws : List Raw) (parts : List Part) → length raws ≡ length defs → length parts ≡ length defs → map (λ (source : Source). source.def) (sources_of defs raws parts) ≡ defs
defs_of [] raws parts a b = refl
defs_of (d ∷ defs) [] parts a b = absurd (omega arith)
defs_of (d ∷ defs) (r ∷ raws) [] a b = absurd (omega arith)
defs_of (d ∷ defs) (r ∷ raws) (p ∷ parts) a b = ap (λ (xs : List DsDef). d ∷ xs) (defs_of defs raws parts (omega arith) (omega arith))

-- ---- what hasn't come

cases_zero : (n : ℕ) → (n ≡ 0) ⊎ (0 < n)
cases_zero n = grind arith

no_entries : (d : Coming) → IsRebuilding d → d.archive ≡ 0 → d.journal ≡ []
no_entries d is none = grind (arith, none_there, cases_zero)

no_archives : (d : Coming) → IsRebuilding d → length d.sources < d.sources_due → length d.archives ≡ 0
no_archives d is few = grind arith

-- the settings, where no entry came
abbrev plain : Coming → List DsDef → List Head → EntryValidator
plain d defs heads = record {
  version = d.version;
  step = d.step;
  outline = record { last = d.last; sources = defs; archives = map (λ (head : Head). head.def) heads };
}

plain_validator : (d : Coming) → IsRebuilding d → d.journal ≡ [] → d.validator ≡ plain d d.sources (map head_of d.archives)
plain_validator d is none = grind (arith, defs_of d.sources d.raws d.preps (lengths_same d.sources d.raws is.raws_are) is.one_part_each, lengths_same d.sources d.raws is.raws_are)

-- while no entry has come it has the archives that came
pub outlines_lengths : (d : Coming) → IsRebuilding d → d.journal ≡ [] → length d.validator.outline.archives ≡ length d.archives
outlines_lengths d is none =
    ap (λ (j : EntryValidator). length j.outline.archives) (plain_validator d is none) ∙ length-map (map head_of d.archives) (λ (head : Head). head.def) ∙ length-map d.archives head_of

pub knows_nothing : (step last : ℕ) (archives : List Rra) (sources : ℕ) (cursor : Cursor) → cursor.source < sources → filled_by sources cursor ≡ 0 → KnowsPlaceIn step last archives cursor
knows_nothing step last archives sources cursor there none = grind arith

-- a cursor that stands at the first cell
pub cursor_stays : (d e : Coming) (cursor : Cursor) → e.sources_due ≡ d.sources_due → filled_by d.sources_due cursor ≡ 0 → IsCursor d cursor → IsCursor e cursor
cursor_stays d e cursor same none is = grind arith

-- ---- a source

prep_not : (o : Option RraDef) (later : Due) → (SourceDue ≡ later → ⊥) → prep_or o later ≡ SourceDue → ⊥
prep_not o later other e = grind arith

after_not : (f : Filed) → SourceDue ≡ after_heads f → ⊥
after_not f e = grind arith

-- a source is due while fewer came than were announced
few_sources : (d : Coming) → IsRebuilding d → due (filed_in d) ≡ SourceDue → length d.sources < d.sources_due
few_sources d is e = grind (arith, prep_not, after_not, due_then)

abbrev pub source_came : Coming → DsDef → Raw → Part → Coming
source_came d def raw part = record d {
  sources = d.sources ++ def ∷ [];
  raws = d.raws ++ raw ∷ [];
  preps = d.preps ++ part ∷ [];
  validator = record d.validator { outline = record d.validator.outline { sources = d.validator.outline.sources ++ def ∷ [] } };
}

pub source_is : (d : Coming) (def : DsDef) (raw : Raw) (part : Part) → IsRebuilding d → filed_in (source_came d def raw part) ≡ with_source (filed_in d) (record { def = def; raw = raw; part = part })
source_is d def raw part is = ap (λ (xs : List Source). let f : Filed = record (filed_in d) { sources = xs } in f) (sources_more d.sources d.raws d.preps def raw part (lengths_same d.sources d.raws is.raws_are) is.one_part_each)

pub source_keeps : (d : Coming) (def : DsDef) (raw : Raw) (part : Part) → IsRebuilding d → MaySource (filed_in d) (record { def = def; raw = raw; part = part }) → IsRebuilding (source_came d def raw part)
source_keeps d def raw part is may =
    let few : length d.sources < d.sources_due = few_sources d is may.is_due in
    let new = source_came d def raw part in
    let archive : d.archive ≡ 0 = omega (arith, is.archive_there, no_archives d is few) in
    let journal : d.journal ≡ [] = no_entries d is archive in
    let lengths = lengths_same d.sources d.raws is.raws_are in
    let same = defs_of d.sources d.raws d.preps lengths is.one_part_each in
    let settled = plain_validator d is journal in
    let defs_now = defs_of new.sources new.raws new.preps (omega (arith, length-append d.sources (def ∷ []), length-append d.raws (raw ∷ []), lengths)) (omega (arith, length-append d.sources (def ∷ []), length-append d.preps (part ∷ []), is.one_part_each)) in
    record {
      header_is = is.header_is;
      few_sources = omega (arith, few, length-append d.sources (def ∷ []));
      sources_are = All-append (IsSourceWithin (limits_of d.version)) d.sources (def ∷ []) is.sources_are (may.source_is, tt);
      names_differ = ap is_double (names_more d.sources def) ∙ double_more (names d.sources) def.name is.names_differ (any_name d.sources def.name (ap (λ ds. has_source ds def.name) (sym same) ∙ may.name_differs));
      raws_are = accepted_more d.sources d.raws def raw is.raws_are may.raw_is;
      one_part_each = omega (arith, length-append d.sources (def ∷ []), length-append d.preps (part ∷ []), is.one_part_each);
      parts_are = All-append (IsPart Average (d.last % d.step)) d.preps (part ∷ []) is.parts_are (may.part_is, tt);
      few_archives = is.few_archives;
      archives_are = is.archives_are;
      few_cells = is.few_cells;
      places = is.places;
      few_entries = is.few_entries;
      validator_is = grind arith;
      journal_is = subst (λ (j : List Entry). IsValidJournalWithin (limits_of d.version) (content_so_far new) (journal_of j)) (sym journal) tt;
      sources_first = λ some. absurd (omega (arith, some, no_archives d is few));
      archives_prepared = is.archives_prepared;
      heads_first = λ some. record { all = (is.heads_first some).all; prepared = (is.heads_first some).prepared };
      archive_there = is.archive_there;
      filled_few = is.filled_few;
      cells_first = λ some. record { some = (is.cells_first some).some; all = (is.cells_first some).all };
    }

-- the names that came
pub names_came : (d : Coming) (name : Name) → IsRebuilding d → has_source (map (λ (source : Source). source.def) (filed_in d).sources) name ≡ has_source d.sources name
names_came d name is = ap (λ ds. has_source ds name) (defs_of d.sources d.raws d.preps (lengths_same d.sources d.raws is.raws_are) is.one_part_each)

-- ---- an archive

pub rows_same : (archives : List Rra) → map (λ (head : Head). head.def.rows) (map head_of archives) ≡ rows_of_archives archives
rows_same [] = refl
rows_same (a ∷ archives) = ap (λ (rows : List ℕ). a.def.rows ∷ rows) (rows_same archives)

pub rows_all : (archives : List Rra) → rows_in_all (map head_of archives) ≡ sum (rows_of_archives archives)
rows_all archives = ap sum (rows_same archives)

fold_all : (n : ℕ) (xs : List ℕ) (x : ℕ) → fold ◌+◌ n (xs ++ x ∷ []) ≡ fold ◌+◌ n xs + x
fold_all n [] x = refl
fold_all n (y ∷ xs) x = fold_all (n + y) xs x

rows_more : (archives : List Rra) (a : Rra) → rows_of_archives (archives ++ a ∷ []) ≡ rows_of_archives archives ++ a.def.rows ∷ []
rows_more [] a = refl
rows_more (s ∷ archives) a = ap (λ (rows : List ℕ). s.def.rows ∷ rows) (rows_more archives a)

pub sum_more : (archives : List Rra) (a : Rra) → sum (rows_of_archives (archives ++ a ∷ [])) ≡ sum (rows_of_archives archives) + a.def.rows
sum_more archives a = ap sum (rows_more archives a) ∙ fold_all 0 (rows_of_archives archives) a.def.rows

heads_more : (archives : List Rra) (a : Rra) → map head_of (archives ++ a ∷ []) ≡ map head_of archives ++ head_of a ∷ []
heads_more [] a = refl
heads_more (s ∷ archives) a = ap (λ (heads : List Head). head_of s ∷ heads) (heads_more archives a)

defs_more : (heads : List Head) (a : Head) → map (λ (head : Head). head.def) (heads ++ a ∷ []) ≡ map (λ (head : Head). head.def) heads ++ a.def ∷ []
defs_more [] a = refl
defs_more (h ∷ heads) a = ap (λ (defs : List RraDef). h.def ∷ defs) (defs_more heads a)

prepared_more : (sources : ℕ) (archives : List Rra) (a : Rra) → ArePrepared sources archives → AllByRecursion (λ (x : Rra). length x.parts ≤ sources) archives → unprepared sources (map head_of archives) ≡ None → ArePrepared sources (archives ++ a ∷ [])
prepared_more sources [] a is few none = tt
prepared_more sources (b ∷ []) a is few none = grind arith
prepared_more sources (b ∷ x ∷ archives) a is few none = (is.0, prepared_more sources (x ∷ archives) a is.1 few.1 (rw (le-ltb (length b.parts) sources (omega (arith, is.0))) at none))

abbrev pub archive_came : Coming → Rra → Coming
archive_came d a = record d { archives = d.archives ++ a ∷ []; validator = record d.validator { outline = record d.validator.outline { archives = d.validator.outline.archives ++ a.def ∷ [] } } }

-- what is due at a head
pub record AtHead (d : Coming) : Type 0 where
  pub sources : d.sources_due ≤ length d.sources
  pub prepared : unprepared d.sources_due (map head_of d.archives) ≡ None
  pub few : length d.archives < d.archives_due

head_prep : (o : Option RraDef) (later : Due) → prep_or o later ≡ HeadDue → (o ≡ None) × (later ≡ HeadDue)
head_prep o later e = grind arith

head_after : (f : Filed) → after_heads f ≡ HeadDue → length f.heads < f.header.archives
head_after f e = grind arith

pub at_head : (d : Coming) → IsRebuilding d → due (filed_in d) ≡ HeadDue → AtHead d
at_head d is e = elim (cases_lt (length d.sources) d.sources_due) [
  | inl lt ↦ absurd (let e2 : SourceDue ≡ HeadDue = sym (due_source d is lt) ∙ e in cc)
  | inr le ↦
      let p = head_prep (unprepared d.sources_due (map head_of d.archives)) (after_heads (filed_in d)) (sym (due_then d is le) ∙ e) in
      record { sources = le; prepared = p.0; few = omega (arith, head_after (filed_in d) p.1, length-map d.archives head_of) }
]

pub record NoneLater (d : Coming) : Type 0 where
  pub archive : d.archive ≡ 0
  pub filled : d.filled ≡ 0
  pub journal : d.journal ≡ []

pub none_later : (d : Coming) → IsRebuilding d → length d.archives < d.archives_due → NoneLater d
none_later d is few = grind (arith, cases_zero, no_entries)

cells_none : (step last : ℕ) (archives : List Rra) (archive filled : ℕ) → archive ≡ 0 → filled ≡ 0 → cells_before step last archives archive filled ≡ []
cells_none step last archives archive filled a b = ap (λ n. cells_before step last archives n filled) a ∙ ap (λ n. cells_before step last archives 0 n) b

fewer_one : (sources filled : ℕ) (archives : List Rra) (a : Rra) → filled ≡ 0 → 0 < sources → AreFewer sources archives filled → 0 < a.def.rows → AreFewer sources (archives ++ a ∷ []) filled
fewer_one sources filled archives a none some few rows = grind arith

pub head_is : (d : Coming) (a : Rra) → IsRebuilding d → a.parts ≡ [] → due (filed_in d) ≡ HeadDue → filed_in (archive_came d a) ≡ with_head (filed_in d) a.def
head_is d a is none e = grind (arith, none_later, at_head, heads_more, cells_none)

few_each : (sources step last : ℕ) (archives : List Rra) → AllByRecursion (IsArchiveSoFar sources step last) archives → AllByRecursion (λ (x : Rra). length x.parts ≤ sources) archives
few_each sources step last [] all = tt
few_each sources step last (a ∷ archives) all = (all.0.few_parts, few_each sources step last archives all.1)

pub head_keeps : (d : Coming) (a : Rra) → IsRebuilding d → a.parts ≡ [] → a.rows ≡ replicate a.def.rows (replicate d.sources_due Cell.Unknown) → MayHead (filed_in d) a.def → IsRebuilding (archive_came d a)
head_keeps d a is none rows may =
    let at = at_head d is may.is_due in
    let later = none_later d is at.few in
    let new = archive_came d a in
    let settled = plain_validator d is later.journal in
    let so_far : IsArchiveSoFar d.sources_due d.step d.last a = record {
      def_is = archive_def_in d.version newest a.def may.def_is;
      few_parts = omega (arith, ap length none);
      each_part = subst (λ (ps : List Part). AllByRecursion (IsRowPart d.step d.last a.def) ps) (sym none) tt;
      rows_are = ap length rows ∙ length-replicate a.def.rows (replicate d.sources_due Cell.Unknown);
      each_row = subst (λ (rs : List (List Cell)). AllByRecursion (IsRow d.sources_due) rs) (sym rows) (All-replicate (IsRow d.sources_due) a.def.rows (replicate d.sources_due Cell.Unknown) (record { one_each = length-replicate d.sources_due Cell.Unknown; each = All-replicate IsBounded d.sources_due Cell.Unknown tt }));
    } in
    let defs_now : map (λ (head : Head). head.def) (map head_of (d.archives ++ a ∷ [])) ≡ map (λ (head : Head). head.def) (map head_of d.archives) ++ a.def ∷ [] = ap (map (λ (head : Head). head.def)) (heads_more d.archives a) ∙ defs_more (map head_of d.archives) (head_of a) in
    let base = λ (archives : List RraDef). let s : EntryValidator = record { version = d.version; step = d.step; outline = record { last = d.last; sources = d.sources; archives = archives } } in s in
    let defs = defs_of d.sources d.raws d.preps (lengths_same d.sources d.raws is.raws_are) is.one_part_each in
    record {
      header_is = is.header_is;
      few_sources = is.few_sources;
      sources_are = is.sources_are;
      names_differ = is.names_differ;
      raws_are = is.raws_are;
      one_part_each = is.one_part_each;
      parts_are = is.parts_are;
      few_archives = omega (arith, at.few, length-append d.archives (a ∷ []));
      archives_are = All-append (IsArchiveSoFar d.sources_due d.step d.last) d.archives (a ∷ []) is.archives_are (so_far, tt);
      few_cells = subst (λ n. d.sources_due * n ≤ (limits_of d.version).max_cells) (sym (sum_more d.archives a)) (subst (λ n. d.sources_due * (n + a.def.rows) ≤ (limits_of d.version).max_cells) (rows_all d.archives) may.few_cells);
      places = is.places;
      few_entries = is.few_entries;
      validator_is = grind arith;
      journal_is = subst (λ (j : List Entry). IsValidJournalWithin (limits_of d.version) (content_so_far new) (journal_of j)) (sym later.journal) tt;
      sources_first = λ some. omega (arith, at.sources, is.few_sources);
      archives_prepared = prepared_more d.sources_due d.archives a is.archives_prepared (few_each d.sources_due d.step d.last d.archives is.archives_are) at.prepared;
      heads_first = λ some. absurd (omega (arith, some, later.archive, later.filled));
      archive_there = omega (arith, later.archive);
      filled_few = subst (λ n. AreFewer d.sources_due (drop n new.archives) d.filled) (sym later.archive) (fewer_one d.sources_due d.filled d.archives a later.filled is.header_is.some_source (subst (λ n. AreFewer d.sources_due (drop n d.archives) d.filled) later.archive is.filled_few) may.def_is.some_rows);
      cells_first = λ some. absurd (omega (arith, some, ap length later.journal));
    }

pub few_less : (s n m : ℕ) → 0 < s → s * n ≤ m → n ≤ m
few_less s n m some few = grind arith

-- the rows that came are few
pub few_rows : (d : Coming) → IsRebuilding d → sum (rows_of_archives d.archives) ≤ present.max_cells
few_rows d is = omega (arith, few_less d.sources_due (sum (rows_of_archives d.archives)) (limits_of d.version).max_cells is.header_is.some_source is.few_cells, few_cells d.version)

-- so the validator of entries can be worked with while none has come
defs_so_far : (sources step last : ℕ) (archives : List Rra) → AllByRecursion (IsArchiveSoFar sources step last) archives → AllByRecursion (IsArchiveDef present) (map (λ (head : Head). head.def) (map head_of archives))
defs_so_far sources step last [] all = tt
defs_so_far sources step last (a ∷ archives) all = (all.0.def_is, defs_so_far sources step last archives all.1)

rows_by_head : (archives : List Rra) → rows_of (map (λ (head : Head). head.def) (map head_of archives)) ≡ rows_of_archives archives
rows_by_head [] = refl
rows_by_head (a ∷ archives) = ap (λ (rows : List ℕ). a.def.rows ∷ rows) (rows_by_head archives)

pub plain_good : (d : Coming) → IsRebuilding d → d.journal ≡ [] → IsOutline d.validator.outline
plain_good d is none = grind (arith, plain_validator, few_sources, defs_so_far, few_rows, rows_by_head)

-- there is room for a source that is due
pub room_for_source : (d : Coming) → IsRebuilding d → due (filed_in d) ≡ SourceDue → length d.validator.outline.sources < present.max_sources
room_for_source d is e = grind (arith, few_sources, no_archives, plain_validator, no_entries)

-- what isn't past a limit
pub not_past : (limit n : ℕ) → not (nat_lt limit n) ≡ true → n ≤ limit
not_past limit n e = grind arith

pub past_not : (limit n : ℕ) → n ≤ limit → not (nat_lt limit n) ≡ true
past_not limit n le = rw (le-ltb limit n le) refl

-- ---- an archive, by the validator of entries

validator_at_head : (d : Coming) → IsRebuilding d → due (filed_in d) ≡ HeadDue → d.validator ≡ plain d d.sources (map head_of d.archives)
validator_at_head d is e = plain_validator d is (none_later d is (at_head d is e).few).journal

cells_at_head : (d : Coming) (def : RraDef) → IsRebuilding d → due (filed_in d) ≡ HeadDue
    → length d.sources * (sum (rows_of (map (λ (head : Head). head.def) (map head_of d.archives))) + def.rows) ≡ d.sources_due * (rows_in_all (map head_of d.archives) + def.rows)
cells_at_head d def is e = grind (arith, at_head, rows_by_head, rows_all)

-- as no entry has come, the validator of entries knows the sources and archives that came
pub fits_at_head : (d : Coming) (def : RraDef) → IsRebuilding d → due (filed_in d) ≡ HeadDue → AreRemovedSettings (limits_of d.validator.version) d.validator.outline def → MayHead (filed_in d) def
fits_at_head d def is e fits = grind (arith, validator_at_head d is e, few_cells, cells_at_head d def is e)

pub head_fits : (d : Coming) (def : RraDef) → IsRebuilding d → MayHead (filed_in d) def → AreRemovedSettings (limits_of d.validator.version) d.validator.outline def
head_fits d def is may = grind (arith, few_cells, cells_at_head d def is may.is_due, validator_at_head d is may.is_due)

-- ---- a preparation

pub record AtPrep (d : Coming) (def : RraDef) : Type 0 where
  pub is : unprepared d.sources_due (map head_of d.archives) ≡ Some def
  pub some : 0 < length d.archives
  pub def_is : IsArchiveDef present def

after_no_prep : (f : Filed) (def : RraDef) → after_heads f ≡ PrepDue def → ⊥
after_no_prep f def e = grind arith

prep_some : (o : Option RraDef) (later : Due) (def : RraDef) → (later ≡ PrepDue def → ⊥) → prep_or o later ≡ PrepDue def → o ≡ Some def
prep_some o later def other e = grind arith

unprepared_def : (sources step last : ℕ) (archives : List Rra) (def : RraDef) → AllByRecursion (IsArchiveSoFar sources step last) archives → unprepared sources (map head_of archives) ≡ Some def → IsArchiveDef present def
unprepared_def sources step last [] def all e = absurd cc
unprepared_def sources step last (a ∷ archives) def all e = elim (cases_lt (length a.parts) sources) [
  | inl lt ↦ let e2 = rw (lt-ltb (length a.parts) sources lt) at e in let same : a.def ≡ def = cc in subst (IsArchiveDef present) same all.0.def_is
  | inr le ↦ unprepared_def sources step last archives def all.1 (rw (le-ltb (length a.parts) sources le) at e)
]

some_archive : (sources : ℕ) (archives : List Rra) (def : RraDef) → unprepared sources (map head_of archives) ≡ Some def → 0 < length archives
some_archive sources [] def e = absurd cc
some_archive sources (a ∷ archives) def e = omega arith

pub at_prep : (d : Coming) (def : RraDef) → IsRebuilding d → due (filed_in d) ≡ PrepDue def → AtPrep d def
at_prep d def is e = elim (cases_lt (length d.sources) d.sources_due) [
  | inl lt ↦ absurd (let e2 : SourceDue ≡ PrepDue def = sym (due_source d is lt) ∙ e in cc)
  | inr le ↦
      let o = prep_some (unprepared d.sources_due (map head_of d.archives)) (after_heads (filed_in d)) def (after_no_prep (filed_in d) def) (sym (due_then d is le) ∙ e) in
      record { is = o; some = some_archive d.sources_due d.archives def o; def_is = unprepared_def d.sources_due d.step d.last d.archives def is.archives_are o }
]

one_unprepared : (sources : ℕ) (x : Rra) (def : RraDef) → unprepared sources (head_of x ∷ []) ≡ Some def → (length x.parts < sources) × (x.def ≡ def)
one_unprepared sources x def e = grind arith

pub last_prep : (d : Coming) (x : Rra) (i : ℕ) (def : RraDef) → IsRebuilding d → length d.archives ≡ suc i → x ≡ get_or d.archives i x → unprepared d.sources_due (map head_of d.archives) ≡ Some def → (length x.parts < d.sources_due) × (x.def ≡ def)
last_prep d x i def is n e o = one_unprepared d.sources_due x def (sym (unprepared_is d x i is n e) ∙ o)

set_last : (xs : List Rra) (i : ℕ) (x : Rra) → length xs ≡ suc i → set xs i x ≡ take i xs ++ x ∷ []
set_last (y ∷ []) zero x n = refl
set_last (y ∷ xs) (suc i) x n = ap (λ (r : List Rra). y ∷ r) (set_last xs i x (omega arith))
set_last y i x n = absurd (omega arith)

All_last : (P : Rra → Type 0) (front : List Rra) (x y : Rra) → AllByRecursion P (front ++ x ∷ []) → (P x → P y) → AllByRecursion P (front ++ y ∷ [])
All_last P [] x y all f = (f all.0, tt)
All_last P (a ∷ front) x y all f = (all.0, All_last P front x y all.1 f)

prepared_front : (sources : ℕ) (front : List Rra) (x y : Rra) → ArePrepared sources (front ++ x ∷ []) → ArePrepared sources (front ++ y ∷ [])
prepared_front sources [] x y is = tt
prepared_front sources (a ∷ []) x y is = (is.0, tt)
prepared_front sources (a ∷ b ∷ front) x y is = (is.0, prepared_front sources (b ∷ front) x y is.1)

fewer_front : (sources filled : ℕ) (front : List Rra) (x y : Rra) → x.def ≡ y.def → AreFewer sources (front ++ x ∷ []) filled → AreFewer sources (front ++ y ∷ []) filled
fewer_front sources filled [] x y e few = subst (λ (def : RraDef). filled < sources * def.rows) e few
fewer_front sources filled (a ∷ front) x y e few = few

heads_part : (front : List Rra) (x : Rra) (part : Part) → map head_of (front ++ record x { parts = x.parts ++ part ∷ [] } ∷ []) ≡ heads_with_part (map head_of (front ++ x ∷ [])) part
heads_part (a ∷ b ∷ front) x part = ap (λ (heads : List Head). head_of a ∷ heads) (heads_part (b ∷ front) x part)
heads_part y x part = refl

part_more : (P : Part → Type 0) (parts : List Part) (part : Part) → AllByRecursion P parts → P part → AllByRecursion P (parts ++ part ∷ [])
part_more P parts part all one = All-append P parts (part ∷ []) all (one, tt)

pub prep_later : (d : Coming) (def : RraDef) → IsRebuilding d → unprepared d.sources_due (map head_of d.archives) ≡ Some def → NoneLater d
prep_later d def is o = grind (arith, cases_zero, no_entries)

-- where the archives are these
front_keeps : (d : Coming) (front : List Rra) (x : Rra) (part : Part) → IsRebuilding (record d { archives = front ++ x ∷ [] }) → NoneLater d → length x.parts < d.sources_due → IsRowPart d.step d.last x.def part → IsRebuilding (record d { archives = front ++ record x { parts = x.parts ++ part ∷ [] } ∷ [] })
front_keeps d front x part is later few one =
    let y : Rra = record x { parts = x.parts ++ part ∷ [] } in
    let old = record d { archives = front ++ x ∷ [] } in
    let new = record d { archives = front ++ y ∷ [] } in
    let counts : length (front ++ y ∷ []) ≡ length (front ++ x ∷ []) = length-append front (y ∷ []) ∙ sym (length-append front (x ∷ [])) in
    let rows : sum (rows_of_archives (front ++ x ∷ [])) ≡ sum (rows_of_archives (front ++ y ∷ [])) = sum_more front x ∙ sym (sum_more front y) in
    let defs : map (λ (head : Head). head.def) (map head_of (front ++ x ∷ [])) ≡ map (λ (head : Head). head.def) (map head_of (front ++ y ∷ [])) = grind (arith, heads_more front x, defs_more (map head_of front) (head_of x), defs_more (map head_of front) (head_of y), heads_more front y) in
    record {
      header_is = is.header_is;
      few_sources = is.few_sources;
      sources_are = is.sources_are;
      names_differ = is.names_differ;
      raws_are = is.raws_are;
      one_part_each = is.one_part_each;
      parts_are = is.parts_are;
      few_archives = omega (arith, counts, is.few_archives);
      archives_are = All_last (IsArchiveSoFar d.sources_due d.step d.last) front x y is.archives_are (λ (a : IsArchiveSoFar d.sources_due d.step d.last x). grind (arith, length-append, part_more));
      few_cells = subst (λ n. d.sources_due * n ≤ (limits_of d.version).max_cells) rows is.few_cells;
      places = is.places;
      few_entries = is.few_entries;
      validator_is = is.validator_is ∙ ap (λ (archives : List RraDef). let s : Outline = record { last = d.last; sources = map (λ (source : Source). source.def) (sources_of d.sources d.raws d.preps); archives = archives } in let j : EntryValidator = record { version = d.version; step = d.step; outline = fold outline_undone s (journal_of d.journal) } in j) defs;
      journal_is = subst (λ (j : List Entry). IsValidJournalWithin (limits_of d.version) (content_so_far new) (journal_of j)) (sym later.journal) tt;
      sources_first = λ some. is.sources_first (omega (arith, some, counts));
      archives_prepared = prepared_front d.sources_due front x y is.archives_prepared;
      heads_first = λ some. absurd (omega (arith, some, later.archive, later.filled));
      archive_there = omega (arith, later.archive);
      filled_few = subst (λ n. AreFewer d.sources_due (drop n new.archives) d.filled) (sym later.archive) (fewer_front d.sources_due d.filled front x y refl (subst (λ n. AreFewer d.sources_due (drop n old.archives) d.filled) later.archive is.filled_few));
      cells_first = λ some. absurd (omega (arith, some, ap length later.journal));
    }

abbrev pub prep_came : Coming → ℕ → Rra → Part → Coming
prep_came d i x part = record d { archives = set d.archives i (record x { parts = x.parts ++ part ∷ [] }) }

pub prep_keeps : (d : Coming) (i : ℕ) (x : Rra) (def : RraDef) (part : Part) → IsRebuilding d → length d.archives ≡ suc i → x ≡ get_or d.archives i x → unprepared d.sources_due (map head_of d.archives) ≡ Some def → IsRowPart d.step d.last def part → IsRebuilding (prep_came d i x part)
prep_keeps d i x def part is n e o one =
    let last = last_prep d x i def is n e o in
    let split = split_at d.archives i x n e in
    let joined = set_last d.archives i (record x { parts = x.parts ++ part ∷ [] }) n in
    subst (λ (archives : List Rra). IsRebuilding (record d { archives = archives })) (sym joined)
    (front_keeps d (take i d.archives) x part (subst (λ (archives : List Rra). IsRebuilding (record d { archives = archives })) split is) (prep_later d def is o) last.0 (subst (λ (def : RraDef). IsRowPart d.step d.last def part) (sym last.1) one))

pub prep_is : (d : Coming) (i : ℕ) (x : Rra) (def : RraDef) (part : Part) → IsRebuilding d → length d.archives ≡ suc i → x ≡ get_or d.archives i x → unprepared d.sources_due (map head_of d.archives) ≡ Some def → filed_in (prep_came d i x part) ≡ with_prep (filed_in d) part
prep_is d i x def part is n e o = grind (arith, prep_later, set_last, heads_part, split_at, cells_none)
