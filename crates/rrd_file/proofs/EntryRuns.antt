-- The pieces of an entry that may come do come, one after another, and lead to the body with it.
use Rattle.std.specs.Prelude.{◌≡◌, ◌++◌, ◌∷◌, ◌+◌, ◌*◌, ◌/◌, ◌%◌, ℕ, zero, suc, List, [], length, map, replicate}
use Rattle.rrd_file.proofs.Names.{◌∙◌, sym, ap, subst, refl, arith, append_assoc, append-nil, suc-mul, AllByRecursion, flat_map, replicate-append-replicate, flat_map-cons, Cell, Raw, IsBounded, Average, Part, SavedSource, Outline, DsDef, RraDef, BeforeUpdate, Entry, SavedArchive, UpdateEntry, TuneEntry, ResizeEntry, AddedEntry, RemovedEntry, Rra, Filed, Limits, IsSavedSource, MayRemove, MayResize, MaySaveEach, MayTune, MayUpdate, MayEntry, limits, outline_left, with_entry, AreAccepted, IsPart, IsRow, Rise, entry_pieces, raws_and_parts, row_pieces, saved_pieces, Piece, OfArchive, OfCell, OfCount, OfNumber, OfPrep, OfRows, OfSavedSource, Tag, OfTag, OfTime, AnUpdate, ATune, AResize, AnAddition, ARemoval, Stage, Body, Within, DueInEntry, BeforeDue, RowPrepDue, RowCellDue, GoesOn, IsTagWithin, Runs, Takes, archive_due, behind, cells_due, first_due, named_due}
use Rattle.rrd_file.specs.Stages.{Keeps}

-- ---- what is due is what comes

-- each piece may come where it is due, and after the last one nothing is due
abbrev Meets : Limits → ℕ → Outline → List DueInEntry → List Piece → Type 0
Meets l step now [] [] = Unit {0}
Meets l step now (due ∷ later) [] = ⊥
Meets l step now [] (p ∷ pieces) = ⊥
Meets l step now (due ∷ later) (p ∷ pieces) = Keeps l step now due p × Meets l step now (behind step now due p ++ later) pieces

both_meet : (l : Limits) (step : ℕ) (now : Outline) (due later : List DueInEntry) (ps qs : List Piece) → Meets l step now due ps → Meets l step now later qs → Meets l step now (due ++ later) (ps ++ qs)
both_meet l step now [] later [] qs h k = k
both_meet l step now (d ∷ due) later (p ∷ ps) qs h k = grind (arith, append_assoc, both_meet l step now (behind step now d p ++ due) later ps qs h.1 k)
both_meet l step now x later y qs h k = absurd h

-- where nothing is due behind what a piece makes due
alone : (l : Limits) (step : ℕ) (now : Outline) (due : List DueInEntry) (ps : List Piece) → Meets l step now due ps → Meets l step now (due ++ []) ps
alone l step now due ps h = subst (λ (x : List DueInEntry). Meets l step now x ps) (sym (append-nil due)) h

-- ---- lists of one kind of piece

preps_meet : (l : Limits) (step : ℕ) (now : Outline) (last : ℕ) (def : RraDef) (n : ℕ) (parts : List Part) → length parts ≡ n → AllByRecursion (IsPart def.function (last / step % def.steps)) parts → Meets l step now (replicate n (RowPrepDue last def)) (map OfPrep parts)
preps_meet l step now last def zero [] e h = tt
preps_meet l step now last def zero (p ∷ parts) e h = absurd (omega (arith, e))
preps_meet l step now last def (suc n) [] e h = absurd (omega (arith, e))
preps_meet l step now last def (suc n) (p ∷ parts) e h = (h.0, preps_meet l step now last def n parts (omega (arith, e)) h.1)

cells_meet : (l : Limits) (step : ℕ) (now : Outline) (n : ℕ) (cells : List Cell) → length cells ≡ n → AllByRecursion IsBounded cells → Meets l step now (replicate n RowCellDue) (map OfCell cells)
cells_meet l step now zero [] e h = tt
cells_meet l step now zero (c ∷ cells) e h = absurd (omega (arith, e))
cells_meet l step now (suc n) [] e h = absurd (omega (arith, e))
cells_meet l step now (suc n) (c ∷ cells) e h = (h.0, cells_meet l step now n cells (omega (arith, e)) h.1)

rows_meet : (l : Limits) (step : ℕ) (now : Outline) (rows : List (List Cell)) → AllByRecursion (IsRow (length now.sources)) rows → Meets l step now (cells_due (length rows) now) (row_pieces rows)
rows_meet l step now [] h = grind arith
rows_meet l step now (row ∷ rows) h =
    let width = length now.sources in
    let count : width + length rows * width ≡ suc (length rows) * width = omega (arith, suc-mul (length rows) width) in
    let due : replicate width RowCellDue ++ cells_due (length rows) now ≡ cells_due (suc (length rows)) now = replicate-append-replicate width (length rows * width) RowCellDue ∙ ap (λ n. replicate n RowCellDue) count in
    let pieces : map OfCell row ++ row_pieces rows ≡ row_pieces (row ∷ rows) = sym (flat_map-cons (λ (r : List Cell). map OfCell r) row rows) in
    subst (λ (x : List DueInEntry). Meets l step now x (row_pieces (row ∷ rows))) due
    (subst (Meets l step now (replicate width RowCellDue ++ cells_due (length rows) now)) pieces
    (both_meet l step now (replicate width RowCellDue) (cells_due (length rows) now) (map OfCell row) (row_pieces rows) (cells_meet l step now width row h.0.one_each h.0.each) (rows_meet l step now rows h.1)))

-- as many rows as are due
as_many_meet : (l : Limits) (step : ℕ) (now : Outline) (n : ℕ) (rows : List (List Cell)) → length rows ≡ n → AllByRecursion (IsRow (length now.sources)) rows → Meets l step now (cells_due n now) (row_pieces rows)
as_many_meet l step now n rows e h = subst (λ (k : ℕ). Meets l step now (cells_due k now) (row_pieces rows)) e (rows_meet l step now rows h)

raws_meet : (l : Limits) (step : ℕ) (now : Outline) (last : ℕ) (defs : List DsDef) (raws : List Raw) (parts : List Part) → AreAccepted defs raws → length parts ≡ length defs → AllByRecursion (IsPart Average (last % step)) parts → Meets l step now (map (BeforeDue last) defs) (raws_and_parts raws parts)
raws_meet l step now last [] [] parts h e k = tt
raws_meet l step now last (def ∷ defs) (raw ∷ raws) [] h e k = absurd (omega (arith, e))
raws_meet l step now last (def ∷ defs) (raw ∷ raws) (part ∷ parts) h e k = ((h.0, k.0), raws_meet l step now last defs raws parts h.1 (omega (arith, e)) k.1)
raws_meet l step now last x y parts h e k = absurd h

named_meet : (l : Limits) (step : ℕ) (now : Outline) (lowest : ℕ) (olds : List SavedSource) → Rise lowest (length now.sources) olds → AllByRecursion (IsSavedSource l) olds → Meets l step now (named_due lowest (length olds)) (map OfSavedSource olds)
named_meet l step now lowest [] r h = tt
named_meet l step now lowest (old ∷ olds) r h = grind (arith, alone, named_meet l step now (old.number + 1) olds r.2 h.1)

saved_meet : (l : Limits) (step : ℕ) (now : Outline) (last : ℕ) (defs : List RraDef) (olds : List SavedArchive) → MaySaveEach step last now.last (length now.sources) defs olds → Meets l step now (flat_map (archive_due step now last) defs) (flat_map saved_pieces olds)
saved_meet l step now last [] [] h = tt
saved_meet l step now last (def ∷ defs) (old ∷ olds) h =
    let n = length now.sources in
    let preps = preps_meet l step now last def n old.parts h.0.parts_are.one_each h.0.parts_are.each in
    let rows = as_many_meet l step now _ old.rows h.0.as_many h.0.each_row in
    let first : Meets l step now (archive_due step now last def) (saved_pieces old) = both_meet l step now (replicate n (RowPrepDue last def)) _ (map OfPrep old.parts) (OfRows (length old.rows) ∷ row_pieces old.rows) preps (h.0.as_many, rows) in
    grind (arith, both_meet, saved_meet l step now last defs olds h.1)
saved_meet l step now last x y h = absurd h

-- ---- entries

-- an entry's pieces behind its tag
abbrev pieces_behind : Entry → List Piece
pieces_behind (UpdateEntry old) = OfTime old.last ∷ raws_and_parts old.raws old.parts ++ flat_map saved_pieces old.archives
pieces_behind (TuneEntry olds) = OfCount (length olds) ∷ map OfSavedSource olds
pieces_behind (ResizeEntry archive rows) = OfNumber archive ∷ OfRows (length rows) ∷ row_pieces rows
pieces_behind AddedEntry = []
pieces_behind (RemovedEntry number archive) = OfNumber number ∷ OfArchive archive.def ∷ (map OfPrep archive.parts ++ row_pieces archive.rows)

update_meets : (l : Limits) (step : ℕ) (now : Outline) (old : BeforeUpdate) → MayUpdate step now old → Meets l step now (first_due AnUpdate) (OfTime old.last ∷ raws_and_parts old.raws old.parts ++ flat_map saved_pieces old.archives)
update_meets l step now old h = grind (arith, raws_meet l step now old.last now.sources old.raws old.parts h.raws_are h.parts_are.one_each h.parts_are.each, saved_meet l step now old.last now.archives old.archives h.archives_are, alone, both_meet)

tune_meets : (l : Limits) (step : ℕ) (now : Outline) (olds : List SavedSource) → MayTune l now olds → Meets l step now (first_due ATune) (OfCount (length olds) ∷ map OfSavedSource olds)
tune_meets l step now olds h = ((h.some, h.few), alone l step now (named_due 0 (length olds)) (map OfSavedSource olds) (named_meet l step now 0 olds h.rise h.each))

resize_meets : (l : Limits) (step : ℕ) (now : Outline) (archive : ℕ) (rows : List (List Cell)) → MayResize l now archive rows → Meets l step now (first_due AResize) (OfNumber archive ∷ OfRows (length rows) ∷ row_pieces rows)
resize_meets l step now archive rows h = (h.there, (h.old_rows, alone l step now (cells_due (length rows) now) (row_pieces rows) (rows_meet l step now rows h.each_row)))

removed_meets : (l : Limits) (step : ℕ) (now : Outline) (number : ℕ) (archive : Rra) → MayRemove l step now number archive → Meets l step now (first_due ARemoval) (OfNumber number ∷ OfArchive archive.def ∷ (map OfPrep archive.parts ++ row_pieces archive.rows))
removed_meets l step now number archive h =
    let n = length now.sources in
    grind (arith, preps_meet l step now now.last archive.def n archive.parts h.parts_are.one_each h.parts_are.each, as_many_meet l step now archive.def.rows archive.rows h.rows_are h.each_row, alone, both_meet)

-- ---- runs

-- a stage at which these pieces of an entry have come, and from which the others lead to the body with it
record Goes (f : Filed) (entry : Entry) (pieces : List Piece) (due : List DueInEntry) (more : List Piece) : Type 0 where
  pub stage : Stage
  pub goes : GoesOn f pieces due stage
  pub runs : Runs stage more (Body (with_entry f entry))

within : (f : Filed) (pieces : List Piece) (due : DueInEntry) (later : List DueInEntry) (p : Piece) (next : Stage) → Keeps (limits f) f.header.step (outline_left f) due p → GoesOn f (pieces ++ p ∷ []) (behind f.header.step (outline_left f) due p ++ later) next → Takes (Within f pieces (due ∷ later)) p next
unfolding Takes
within f pieces due later p next keeps goes = (keeps, goes)

goes_on : (f : Filed) (entry : Entry) → MayEntry f entry → (pieces : List Piece) (due : List DueInEntry) (more : List Piece) → Meets (limits f) f.header.step (outline_left f) due more → pieces ++ more ≡ entry_pieces entry → Goes f entry pieces due more
goes_on f entry may pieces [] [] h e = grind (arith, append-nil)
goes_on f entry may pieces (due ∷ later) (p ∷ more) h e = grind (arith, goes_on f entry may (pieces ++ p ∷ []) (behind f.header.step (outline_left f) due p ++ later) more h.1 (append_assoc pieces (p ∷ []) more ∙ e), append_assoc, within)
goes_on f entry may pieces x y h e = absurd h

tag_runs : (f : Filed) (entry : Entry) (tag : Tag) (more : List Piece) → MayEntry f entry → IsTagWithin (limits f) tag → Meets (limits f) f.header.step (outline_left f) (first_due tag) more → OfTag tag ∷ more ≡ entry_pieces entry → Runs (Body f) (OfTag tag ∷ more) (Body (with_entry f entry))
unfolding Takes
tag_runs f entry tag more may within h e = grind (arith, goes_on f entry may (OfTag tag ∷ []) (first_due tag) more h e, within)

pub entry_runs : (f : Filed) (entry : Entry) → MayEntry f entry → Runs (Body f) (entry_pieces entry) (Body (with_entry f entry))
entry_runs f (UpdateEntry old) may = tag_runs f (UpdateEntry old) AnUpdate (pieces_behind (UpdateEntry old)) may tt (update_meets (limits f) f.header.step (outline_left f) old may.fits) refl
entry_runs f (TuneEntry olds) may = tag_runs f (TuneEntry olds) ATune (pieces_behind (TuneEntry olds)) may tt (tune_meets (limits f) f.header.step (outline_left f) olds may.fits) refl
entry_runs f (ResizeEntry archive rows) may = tag_runs f (ResizeEntry archive rows) AResize (pieces_behind (ResizeEntry archive rows)) may tt (resize_meets (limits f) f.header.step (outline_left f) archive rows may.fits) refl
entry_runs f AddedEntry may = tag_runs f AddedEntry AnAddition [] may may.fits.0 tt refl
entry_runs f (RemovedEntry number archive) may = tag_runs f (RemovedEntry number archive) ARemoval (pieces_behind (RemovedEntry number archive)) may may.fits.0 (removed_meets (limits f) f.header.step (outline_left f) number archive may.fits.1) refl
