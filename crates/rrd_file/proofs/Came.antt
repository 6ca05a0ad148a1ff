-- The pieces that have come at a stage, in their order, are those of the layout so far.
use Rattle.std.specs.Prelude.{◌≡◌, ◌++◌, ◌∷◌, ◌*◌, ◌<◌, ◌≤◌, ℕ, List, [], length, map, Some, None}
use Rattle.rrd_file.proofs.Names.{◌∙◌, sym, ap, refl, arith, append_assoc, append-nil, flat_map, map-append, flat_map-cons, flat_map-append, Cell, Part, RraDef, Entry, Filed, Head, Header, Source, heads_with_part, rows_in_all, unprepared, with_entry, IsWhole, entry_pieces, head_pieces, pieces_filed, spelled, Piece, Mark, OfVersion, OfHeader, OfSource, OfArchive, OfPrep, OfCell, OfTag, spell, Stage, Start, Marked, Versioned, Body, Within, DueInEntry, GoesOn, Runs}
use Rattle.rrd_file.proofs.Order.{before_cell, before_entry, before_head, prep_before, saved_source}
use Rattle.rrd_file.proofs.Ways.{Step, ToHeader, ToSource, ToHead, ToPrep, ToCell, ToEntry, ToPiece, step_of}
use Rattle.rrd_file.proofs.Sound.{none_of}

-- ---- the order of a body's pieces

-- all sources and all heads with their preparations have come
pub record AreHeadsIn (f : Filed) : Type 0 where
  pub sources : f.header.sources ≤ length f.sources
  pub prepared : unprepared f.header.sources f.heads ≡ None
  pub heads : f.header.archives ≤ length f.heads

-- no head before the last source, no cell before the last head, no entry before the last cell
pub record IsInOrder (f : Filed) : Type 0 where
  pub heads_late : 0 < length f.heads → f.header.sources ≤ length f.sources
  pub cells_late : 0 < length f.cells → AreHeadsIn f
  pub entries_late : 0 < length f.entries → AreHeadsIn f × (f.header.sources * rows_in_all f.heads ≤ length f.cells)

abbrev pub IsOrdered : Stage → Type 0
IsOrdered Start = Unit {0}
IsOrdered Marked = Unit {0}
IsOrdered (Versioned version) = Unit {0}
IsOrdered (Body f) = IsInOrder f
IsOrdered (Within f pieces due) = IsInOrder f

entry_ordered : (f : Filed) (pieces : List Piece) (due : List DueInEntry) (next : Stage) → IsInOrder f → GoesOn f pieces due next → IsOrdered next
entry_ordered f pieces due next h g = grind (arith, before_entry)

not_both : {A : Type 0} (x : A) → None ≡ Some x → ⊥
not_both x e = absurd cc

step_ordered : {s : Stage} {p : Piece} {n : Stage} → IsOrdered s → Step s p n → IsOrdered n
step_ordered h (ToHeader version header same is) = record { heads_late = λ some. absurd (omega (arith, some)); cells_late = λ some. absurd (omega (arith, some)); entries_late = λ some. absurd (omega (arith, some)) }
step_ordered h (ToSource f s may) = grind (arith, saved_source)
step_ordered h (ToHead f def may) = grind (arith, before_head)
step_ordered h (ToPrep f part may) = grind (arith, prep_before)
step_ordered h (ToCell f cell may) = grind (arith, before_cell)
step_ordered h (ToEntry f tag next is_due goes) = entry_ordered f _ _ next h goes
step_ordered h (ToPiece f pieces due later p next w goes) = entry_ordered f _ _ next h goes
step_ordered h x = tt

-- ---- what has come

-- the pieces so far
abbrev pub came : Stage → List Piece
came Start = []
came Marked = Mark ∷ []
came (Versioned version) = Mark ∷ OfVersion version ∷ []
came (Body f) = pieces_filed f
came (Within f pieces due) = pieces_filed f ++ pieces

-- a header's pieces, and four runs of pieces
abbrev run : Header → List Piece → List Piece → List Piece → List Piece → List Piece
run h a b c d = Mark ∷ OfVersion h.version ∷ OfHeader h ∷ ((a ++ b ++ c) ++ d)

more_entries : (h : Header) (a b c d x : List Piece) → run h a b c (d ++ x) ≡ run h a b c d ++ x
more_entries h a b c d x = ap (λ l. Mark ∷ OfVersion h.version ∷ OfHeader h ∷ l) (sym (append_assoc (a ++ b ++ c) d x))

-- what comes before runs that are empty yet
more_cells : (h : Header) (a b c x : List Piece) → run h a b (c ++ x) [] ≡ run h a b c [] ++ x
more_cells h a b c x = ap (λ l. Mark ∷ OfVersion h.version ∷ OfHeader h ∷ l) (append-nil (a ++ b ++ (c ++ x)) ∙ sym (append_assoc (a ++ b) c x) ∙ ap (λ l. l ++ x) (sym (append-nil (a ++ b ++ c))))

no_cells : (h : Header) (a b : List Piece) → run h a b [] [] ≡ Mark ∷ OfVersion h.version ∷ OfHeader h ∷ (a ++ b)
no_cells h a b = ap (λ l. Mark ∷ OfVersion h.version ∷ OfHeader h ∷ l) (append-nil (a ++ b ++ []) ∙ append-nil (a ++ b))

more_heads : (h : Header) (a b x : List Piece) → run h a (b ++ x) [] [] ≡ run h a b [] [] ++ x
more_heads h a b x = no_cells h a (b ++ x) ∙ ap (λ l. Mark ∷ OfVersion h.version ∷ OfHeader h ∷ l) (sym (append_assoc a b x)) ∙ ap (λ l. l ++ x) (sym (no_cells h a b))

no_heads : (h : Header) (a : List Piece) → run h a [] [] [] ≡ Mark ∷ OfVersion h.version ∷ OfHeader h ∷ a
no_heads h a = no_cells h a [] ∙ ap (λ l. Mark ∷ OfVersion h.version ∷ OfHeader h ∷ l) (append-nil a)

more_sources : (h : Header) (a x : List Piece) → run h (a ++ x) [] [] [] ≡ run h a [] [] [] ++ x
more_sources h a x = no_heads h (a ++ x) ∙ ap (λ l. l ++ x) (sym (no_heads h a))

-- a file's four runs
abbrev runs_filed : Header → List Source → List Head → List Cell → List Entry → List Piece
runs_filed h sources heads cells entries = run h (map OfSource sources) (flat_map head_pieces heads) (map OfCell cells) (flat_map entry_pieces entries)

-- ---- what a piece adds

source_came : (f : Filed) (s : Source) → f.heads ≡ [] → f.cells ≡ [] → f.entries ≡ [] → runs_filed f.header (f.sources ++ s ∷ []) f.heads f.cells f.entries ≡ runs_filed f.header f.sources f.heads f.cells f.entries ++ OfSource s ∷ []
source_came f s no_head no_cell no_entry = grind (arith, map-append OfSource f.sources (s ∷ []), more_sources f.header (map OfSource f.sources) (OfSource s ∷ []))

head_came : (f : Filed) (def : RraDef) → f.cells ≡ [] → f.entries ≡ [] → runs_filed f.header f.sources (f.heads ++ record { def = def; parts = [] } ∷ []) f.cells f.entries ≡ runs_filed f.header f.sources f.heads f.cells f.entries ++ OfArchive def ∷ []
head_came f def no_cell no_entry =
    let head : Head = record { def = def; parts = [] } in
    grind (arith, flat_map-append head_pieces f.heads (head ∷ []), more_heads f.header (map OfSource f.sources) (flat_map head_pieces f.heads) (OfArchive def ∷ []))

-- the newest head has one piece more
part_came : (head : Head) (heads : List Head) (part : Part) → flat_map head_pieces (heads_with_part (head ∷ heads) part) ≡ flat_map head_pieces (head ∷ heads) ++ OfPrep part ∷ []
part_came head [] part = grind (arith, append-nil, map-append)
part_came head (next ∷ heads) part = cc (flat_map-cons head_pieces head (heads_with_part (next ∷ heads) part), part_came next heads part, append_assoc (head_pieces head) (flat_map head_pieces (next ∷ heads)) (OfPrep part ∷ []), flat_map-cons head_pieces head (next ∷ heads))

-- where a preparation is due there is a head
heads_came : (sources : ℕ) (heads : List Head) (def : RraDef) (part : Part) → unprepared sources heads ≡ Some def → flat_map head_pieces (heads_with_part heads part) ≡ flat_map head_pieces heads ++ OfPrep part ∷ []
heads_came sources [] def part e = absurd (not_both def e)
heads_came sources (head ∷ heads) def part e = part_came head heads part

prep_came : (f : Filed) (def : RraDef) (part : Part) → unprepared f.header.sources f.heads ≡ Some def → f.cells ≡ [] → f.entries ≡ [] → runs_filed f.header f.sources (heads_with_part f.heads part) f.cells f.entries ≡ runs_filed f.header f.sources f.heads f.cells f.entries ++ OfPrep part ∷ []
prep_came f def part due no_cell no_entry = grind (arith, heads_came f.header.sources f.heads def part due, more_heads f.header (map OfSource f.sources) (flat_map head_pieces f.heads) (OfPrep part ∷ []))

cell_came : (f : Filed) (cell : Cell) → f.entries ≡ [] → runs_filed f.header f.sources f.heads (f.cells ++ cell ∷ []) f.entries ≡ runs_filed f.header f.sources f.heads f.cells f.entries ++ OfCell cell ∷ []
cell_came f cell no_entry = grind (arith, map-append OfCell f.cells (cell ∷ []), more_cells f.header (map OfSource f.sources) (flat_map head_pieces f.heads) (map OfCell f.cells) (OfCell cell ∷ []))

entry_came : (f : Filed) (entry : Entry) → pieces_filed (with_entry f entry) ≡ pieces_filed f ++ entry_pieces entry
entry_came f entry =
    ap (run f.header (map OfSource f.sources) (flat_map head_pieces f.heads) (map OfCell f.cells)) (flat_map-append entry_pieces f.entries (entry ∷ []) ∙ ap (λ l. flat_map entry_pieces f.entries ++ l) (flat_map-cons entry_pieces entry [] ∙ append-nil (entry_pieces entry)))
    ∙ more_entries f.header (map OfSource f.sources) (flat_map head_pieces f.heads) (map OfCell f.cells) (flat_map entry_pieces f.entries) (entry_pieces entry)

within_came : (f : Filed) (pieces : List Piece) (due : List DueInEntry) (next : Stage) → GoesOn f pieces due next → came next ≡ pieces_filed f ++ pieces
within_came f pieces due next g = grind (arith, entry_came)

step_came : {s : Stage} {p : Piece} {n : Stage} → IsOrdered s → Step s p n → came n ≡ came s ++ p ∷ []
step_came h (ToHeader version header same is) = ap (λ v. Mark ∷ OfVersion v ∷ OfHeader header ∷ []) same
step_came h (ToSource f s may) = grind (arith, saved_source, source_came, none_of)
step_came h (ToHead f def may) = grind (arith, before_head, head_came, none_of)
step_came h (ToPrep f part may) = grind (arith, prep_before, prep_came, none_of, not_both)
step_came h (ToCell f cell may) = grind (arith, cell_came, none_of, before_cell)
step_came h (ToEntry f tag next is_due goes) = within_came f (OfTag tag ∷ []) _ next goes
step_came h (ToPiece f pieces due later p next w goes) = within_came f (pieces ++ p ∷ []) _ next goes ∙ sym (append_assoc (pieces_filed f) pieces (p ∷ []))
step_came h x = refl

-- ---- runs

runs_came : (s : Stage) (pieces : List Piece) (n : Stage) → IsOrdered s → Runs s pieces n → came n ≡ came s ++ pieces
runs_came s [] n h r = ap came (sym r) ∙ sym (append-nil (came s))
runs_came s (p ∷ pieces) n h r =
    let step = step_of s p r.0 r.1 in
    runs_came r.0 pieces n (step_ordered h step) r.2 ∙ ap (λ l. l ++ pieces) (step_came h step) ∙ append_assoc (came s) (p ∷ []) pieces

pub whole_is_layout : (bytes : List ℕ) (f : Filed) → IsWhole bytes f → bytes ≡ spelled (pieces_filed f)
whole_is_layout bytes f w = w.front.parts ∙ append-nil (flat_map spell w.front.pieces) ∙ ap spelled (sym (runs_came Start w.front.pieces (Body f) tt w.front.runs))
