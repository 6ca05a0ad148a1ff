-- At each stage that a file reaches, the settings keep to their limits.
use Rattle.std.specs.Prelude.{◌≡◌, ◌++◌, ◌∷◌, ◌+◌, ◌<◌, ◌≤◌, ℕ, zero, suc, List, [], length, map, ◌-◌, drop, take, replicate, slice_set}
use Rattle.rrd_file.proofs.Names.{sym, ap, refl, subst, arith, length-append, length-drop, AllByRecursion, flat_map, fold, length-map, length-take, fold-append, flat_map-cons, top, Part, DsDef, RraDef, Outline, Limits, limits_of, max_archives_of, Entry, UpdateEntry, TuneEntry, ResizeEntry, AddedEntry, RemovedEntry, Version, Filed, Head, Source, All-append, All-drop, All-replicate, All-take, IsHeader, heads_with_part, limits, outline_filed, outline_left, with_head, with_source, MayUndo, outline_undone, with_row_number, Piece, Tag, OfTag, Stage, Start, Marked, Versioned, Body, Within, DueInEntry, TimeDue, BeforeDue, RowPrepDue, RowsDue, RowCellDue, CountDue, NamedDue, NumberDue, OldRowsDue, RemovedNumberDue, RemovedHeadDue, GoesOn, Runs, Takes, archive_due, behind, first_due, named_due}
use Rattle.rrd_file.proofs.Order.{before_entry, before_head, saved_source}
use Rattle.rrd_file.proofs.Ways.{Step, ToHeader, ToSource, ToHead, ToPrep, ToCell, ToEntry, ToPiece, Way, ByTime, ByCount, ByNamed, ByNumber, ByOldRows, ByRemovedNumber, ByRemovedHead, step_of}
use Rattle.rrd_spec.proofs.Outlined.{sources_count}

-- limits that no version exceeds
pub record AreSmall (l : Limits) : Type 0 where
  pub step : l.max_step_seconds ≤ 1000000
  pub last : l.max_time ≤ 9999999999
  pub sources : l.max_sources ≤ 64
  pub archives : l.max_archives ≤ 128
  pub heartbeat : l.max_heartbeat ≤ 9999999999
  pub bound : l.max_bound ≤ top
  pub share : l.max_xff ≤ 999999
  pub steps : l.max_steps_per_row ≤ 1000000
  pub rows : l.max_rows ≤ 1000000

few_archives : (version : Version) → max_archives_of version ≤ 128
few_archives version = grind arith

pub small_limits : (version : Version) → AreSmall (limits_of version)
small_limits version = grind (arith, few_archives version)

pub record HasSomeSteps (def : RraDef) : Type 0 where
  pub some : 0 < def.steps
  pub few : def.steps ≤ 1000000

pub record AreSound (s : Outline) : Type 0 where
  pub last : s.last ≤ 9999999999
  pub sources : length s.sources ≤ 64
  pub archives : length s.archives ≤ 128
  pub steps : AllByRecursion HasSomeSteps s.archives

pub record IsSound (f : Filed) : Type 0 where
  pub header : IsHeader f.header
  pub sources : length f.sources ≤ f.header.sources
  pub heads : length f.heads ≤ f.header.archives
  pub steps : AllByRecursion HasSomeSteps (map (λ (head : Head). head.def) f.heads)
  pub late : 0 < length f.entries → (f.header.sources ≤ length f.sources) × (f.header.archives ≤ length f.heads)
  pub left : AreSound (outline_left f)

abbrev pub IsSoundDue : DueInEntry → Type 0
IsSoundDue TimeDue = Unit {0}
IsSoundDue (BeforeDue last def) = Unit {0}
IsSoundDue (RowPrepDue last def) = HasSomeSteps def
IsSoundDue (RowsDue rows) = Unit {0}
IsSoundDue RowCellDue = Unit {0}
IsSoundDue CountDue = Unit {0}
IsSoundDue (NamedDue lowest more) = Unit {0}
IsSoundDue NumberDue = Unit {0}
IsSoundDue (OldRowsDue archive) = Unit {0}
IsSoundDue RemovedNumberDue = Unit {0}
IsSoundDue RemovedHeadDue = Unit {0}

abbrev pub IsSoundStage : Stage → Type 0
IsSoundStage Start = Unit {0}
IsSoundStage Marked = Unit {0}
IsSoundStage (Versioned version) = Unit {0}
IsSoundStage (Body f) = IsSound f
IsSoundStage (Within f pieces due) = IsSound f × AllByRecursion IsSoundDue due

-- ---- settings undone

set_length : (sources : List DsDef) (i : ℕ) (def : DsDef) → length (slice_set sources i def) ≡ length sources
set_length [] i def = refl
set_length (x ∷ sources) zero def = refl
set_length (x ∷ sources) (suc i) def = ap suc (set_length sources i def)

pub resized_length : (defs : List RraDef) (i rows : ℕ) → length (with_row_number defs i rows) ≡ length defs
resized_length [] i rows = refl
resized_length (def ∷ defs) zero rows = refl
resized_length (def ∷ defs) (suc i) rows = ap suc (resized_length defs i rows)

resized_steps : (defs : List RraDef) (i rows : ℕ) → AllByRecursion HasSomeSteps defs → AllByRecursion HasSomeSteps (with_row_number defs i rows)
resized_steps [] i rows h = tt
resized_steps (def ∷ defs) zero rows h = (record { some = h.0.some; few = h.0.few }, h.1)
resized_steps (def ∷ defs) (suc i) rows h = (h.0, resized_steps defs i rows h.1)

undone_sound : (l : Limits) (step : ℕ) (s : Outline) (e : Entry) → AreSmall l → AreSound s → MayUndo l step s e → AreSound (outline_undone s e)
undone_sound l step s (UpdateEntry old) small h m = record { last = omega (arith, h.last, m.earlier); sources = h.sources; archives = h.archives; steps = h.steps }
undone_sound l step s (TuneEntry olds) small h m = record { last = h.last; sources = omega (arith, h.sources, sources_count s.sources olds); archives = h.archives; steps = h.steps }
undone_sound l step s (ResizeEntry archive rows) small h m = record { last = h.last; sources = h.sources; archives = omega (arith, h.archives, resized_length s.archives archive (length rows)); steps = resized_steps s.archives archive (length rows) h.steps }
undone_sound l step s AddedEntry small h m =
    let n = length s.archives - 1 in
    record { last = h.last; sources = h.sources; archives = omega (arith, h.archives, length-take n s.archives); steps = All-take HasSomeSteps n s.archives h.steps }
undone_sound l step s (RemovedEntry number archive) small h m =
    let is = m.1 in
    let front = take number s.archives in
    let back = drop number s.archives in
    let steps : HasSomeSteps archive.def = record { some = is.settings_are.def_is.some_steps; few = omega (arith, is.settings_are.def_is.few_steps, small.steps) } in
    record {
      last = h.last;
      sources = h.sources;
      archives = omega (arith, is.number_is.few, small.archives, is.number_is.there, length-append front (archive.def ∷ back), length-take number s.archives, length-drop number s.archives);
      steps = All-append HasSomeSteps front (archive.def ∷ back) (All-take HasSomeSteps number s.archives h.steps) (steps, All-drop HasSomeSteps number s.archives h.steps);
    }

-- before the first entry
filed_sound : (f : Filed) → IsHeader f.header → length f.sources ≤ f.header.sources → length f.heads ≤ f.header.archives → AllByRecursion HasSomeSteps (map (λ (head : Head). head.def) f.heads) → AreSound (outline_filed f)
filed_sound f is sources heads steps =
    let small = small_limits f.header.version in
    record {
      last = omega (arith, is.good_time, small.last);
      sources = omega (arith, length-map f.sources (λ (source : Source). source.def), sources, is.few_sources, small.sources);
      archives = omega (arith, length-map f.heads (λ (head : Head). head.def), heads, is.few_archives, small.archives);
      steps = steps;
    }

pub none_of : {A : Type 0} (xs : List A) → (0 < length xs → ⊥) → xs ≡ []
none_of [] h = refl
none_of (x ∷ xs) h = absurd (h (omega arith))

none_left : (f : Filed) → f.entries ≡ [] → AreSound (outline_filed f) → AreSound (outline_left f)
none_left f none h = subst (λ (es : List Entry). AreSound (fold outline_undone (outline_filed f) es)) (sym none) h

-- ---- within an entry

cells_sound : (n : ℕ) → AllByRecursion IsSoundDue (replicate n RowCellDue)
cells_sound n = All-replicate IsSoundDue n RowCellDue tt

archive_sound : (step : ℕ) (now : Outline) (last : ℕ) (def : RraDef) → HasSomeSteps def → AllByRecursion IsSoundDue (archive_due step now last def)
archive_sound step now last def h = All-append IsSoundDue (replicate (length now.sources) (RowPrepDue last def)) _ (All-replicate IsSoundDue (length now.sources) (RowPrepDue last def) h) (tt, cells_sound _)

archives_sound : (step : ℕ) (now : Outline) (last : ℕ) (defs : List RraDef) → AllByRecursion HasSomeSteps defs → AllByRecursion IsSoundDue (flat_map (archive_due step now last) defs)
archives_sound step now last [] h = tt
archives_sound step now last (def ∷ defs) h =
    subst (AllByRecursion IsSoundDue) (sym (flat_map-cons (archive_due step now last) def defs))
    (All-append IsSoundDue (archive_due step now last def) (flat_map (archive_due step now last) defs) (archive_sound step now last def h.0) (archives_sound step now last defs h.1))

sources_sound : (last : ℕ) (defs : List DsDef) → AllByRecursion IsSoundDue (map (BeforeDue last) defs)
sources_sound last [] = tt
sources_sound last (def ∷ defs) = (tt, sources_sound last defs)

named_sound : (lowest more : ℕ) → AllByRecursion IsSoundDue (named_due lowest more)
named_sound lowest more = grind arith

first_sound : (tag : Tag) → AllByRecursion IsSoundDue (first_due tag)
first_sound x = grind arith

goes_sound : (f : Filed) (pieces : List Piece) (due : List DueInEntry) (next : Stage) → IsSound f → AllByRecursion IsSoundDue due → GoesOn f pieces due next → IsSoundStage next
goes_sound f pieces due next h k g = grind (arith, before_entry, undone_sound, small_limits, fold-append)

-- ---- what a piece adds

part_same : (heads : List Head) (part : Part) → map (λ (head : Head). head.def) (heads_with_part heads part) ≡ map (λ (head : Head). head.def) heads
part_same (head ∷ next ∷ heads) part = ap (λ l. head.def ∷ l) (part_same (next ∷ heads) part)
part_same x part = refl

part_length : (heads : List Head) (part : Part) → length (heads_with_part heads part) ≡ length heads
part_length (head ∷ next ∷ heads) part = ap suc (part_length (next ∷ heads) part)
part_length x part = refl

head_steps : (heads : List Head) (head : Head) → AllByRecursion HasSomeSteps (map (λ (head : Head). head.def) heads) → HasSomeSteps head.def → AllByRecursion HasSomeSteps (map (λ (head : Head). head.def) (heads ++ head ∷ []))
head_steps [] head h k = (k, tt)
head_steps (x ∷ heads) head h k = (h.0, head_steps heads head h.1 k)

behind_sound : (l : Limits) (step : ℕ) (now : Outline) {due : DueInEntry} {p : Piece} → AreSmall l → AreSound now → Way l step now due p → AllByRecursion IsSoundDue (behind step now due p)
behind_sound l step now small h (ByTime last is) = All-append IsSoundDue (map (BeforeDue last) now.sources) (flat_map (archive_due step now last) now.archives) (sources_sound last now.sources) (archives_sound step now last now.archives h.steps)
behind_sound l step now small h (ByCount count some few) = named_sound 0 count
behind_sound l step now small h (ByNamed lowest more old from to is) = named_sound (old.number + 1) more
behind_sound l step now small h (ByNumber archive is) = (tt, tt)
behind_sound l step now small h (ByOldRows archive rows is) = cells_sound _
behind_sound l step now small h (ByRemovedNumber number is) = (tt, tt)
behind_sound l step now small h (ByRemovedHead def is) = All-append IsSoundDue (replicate (length now.sources) (RowPrepDue now.last def)) _ (All-replicate IsSoundDue (length now.sources) (RowPrepDue now.last def) (record { some = is.def_is.some_steps; few = omega (arith, is.def_is.few_steps, small.steps) })) (cells_sound _)
behind_sound l step now small h x = tt

-- what a piece leads to
step_sound : {s : Stage} {p : Piece} {n : Stage} → IsSoundStage s → Step s p n → IsSoundStage n
step_sound h (ToHeader version header same is) = grind arith
step_sound h (ToSource f s may) =
    let more = saved_source f may.is_due in
    let new = with_source f s in
    let sources : length new.sources ≤ f.header.sources = omega (arith, more, length-append f.sources (s ∷ [])) in
    let none = none_of f.entries (λ some. absurd (omega (arith, more, (h.late some).0))) in
    record { header = h.header; sources = sources; heads = h.heads; steps = h.steps; late = λ some. absurd (omega (arith, some, ap length none)); left = none_left new none (filed_sound new h.header sources h.heads h.steps) }
step_sound h (ToHead f def may) =
    let before = before_head f may.is_due in
    let head : Head = record { def = def; parts = [] } in
    let new = with_head f def in
    let small = small_limits f.header.version in
    let heads : length new.heads ≤ f.header.archives = omega (arith, before.more, length-append f.heads (head ∷ [])) in
    let steps = head_steps f.heads head h.steps (record { some = may.def_is.some_steps; few = omega (arith, may.def_is.few_steps, small.steps) }) in
    let none = none_of f.entries (λ some. absurd (omega (arith, before.more, (h.late some).1))) in
    record { header = h.header; sources = h.sources; heads = heads; steps = steps; late = λ some. absurd (omega (arith, some, ap length none)); left = none_left new none (filed_sound new h.header h.sources heads steps) }
step_sound h (ToPrep f part may) = grind (arith, part_same f.heads part, part_length f.heads part)
step_sound h (ToCell f cell may) = record { header = h.header; sources = h.sources; heads = h.heads; steps = h.steps; late = h.late; left = h.left }
step_sound h (ToEntry f tag next may goes) = goes_sound f (OfTag tag ∷ []) (first_due tag) next h (first_sound tag) goes
step_sound h (ToPiece f pieces due later p next w goes) =
    let now = outline_left f in
    goes_sound f (pieces ++ p ∷ []) (behind f.header.step now due p ++ later) next h.0
    (All-append IsSoundDue (behind f.header.step now due p) later (behind_sound (limits f) f.header.step now (small_limits f.header.version) h.0.left w) h.1.1) goes
step_sound h x = tt

pub takes_sound : (s : Stage) (p : Piece) (n : Stage) → IsSoundStage s → Takes s p n → IsSoundStage n
takes_sound s p n h t = step_sound h (step_of s p n t)

runs_sound : (s : Stage) (pieces : List Piece) (n : Stage) → IsSoundStage s → Runs s pieces n → IsSoundStage n
runs_sound s [] n h r = subst IsSoundStage r h
runs_sound s (p ∷ pieces) n h r = runs_sound r.0 pieces n (takes_sound s p r.0 h r.1) r.2

pub reached_sound : (pieces : List Piece) (n : Stage) → Runs Start pieces n → IsSoundStage n
reached_sound pieces n r = runs_sound Start pieces n tt r
