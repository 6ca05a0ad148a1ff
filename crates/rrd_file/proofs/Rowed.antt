-- Rows that come one after another into a table.
use Rattle.std.specs.Prelude.{◌≡◌, ◌+◌, ◌-◌, ◌<◌, ◌≤◌, ◌++◌, ℕ, zero, suc, List, [], ◌∷◌, length, replicate, take, map, slice_set}
use Rattle.rrd_file.proofs.Names.{refl, ◌∙◌, sym, ap, subst, length-set, arith, append-nil, length-replicate, map-append, AllByRecursion, flat_map-cons, Cell, Unknown, IsBounded, IsRow, HasWidth, nth_row, row_cells, unknown_rows, with_row, Filed, outline_left, Input, row_pieces, OfCell, Piece, DueInEntry, RowCellDue, cells_due, Comes}
use Rattle.rrd_file.proofs.Turns.{more_row, no_cells, row_less, taken_all}

unknown_many : (n width : ℕ) → length (unknown_rows n width) ≡ n
unknown_many n width = length-replicate n (replicate width Unknown)

unknown_wide : (n width : ℕ) → HasWidth width (unknown_rows n width)
unknown_wide zero width = tt
unknown_wide (suc n) width = (length-replicate width Unknown, unknown_wide n width)

width_at : (width : ℕ) (rows : List (List Cell)) (i : ℕ) → HasWidth width rows → i < length rows → length (nth_row rows i) ≡ width
width_at width [] i h k = absurd (omega arith)
width_at width (row ∷ rows) zero h k = h.0
width_at width (row ∷ rows) (suc i) h k = width_at width rows i h.1 (omega arith)

width_set : (width : ℕ) (rows : List (List Cell)) (i : ℕ) (row : List Cell) → HasWidth width rows → length row ≡ width → HasWidth width (slice_set rows i row)
width_set width [] i row h e = h
width_set width (x ∷ rows) zero row h e = (e, h.1)
width_set width (x ∷ rows) (suc i) row h e = (h.0, width_set width rows i row h.1 e)

rows_begin : (bytes : List ℕ) (f : Filed) (pieces : List Piece) (later : List DueInEntry) (count : ℕ) (rows : List (List Cell)) (input : Input) → Comes bytes f pieces (cells_due count (outline_left f) ++ later) input
    → Comes bytes f (pieces ++ row_pieces (take 0 rows)) (cells_due (count - 0) (outline_left f) ++ later) input
rows_begin bytes f pieces later count rows input c = grind (arith, append-nil)

-- so many rows of a width, of which the first have come
abbrev pub Rowed : Filed → ℕ → Input → ℕ → List (List Cell) → Input → Type 0
Rowed f n first i rows input =
    (length rows ≡ n) × HasWidth (length (outline_left f).sources) rows
    × ((bytes : List ℕ) (pieces : List Piece) (later : List DueInEntry) → Comes bytes f pieces (cells_due n (outline_left f) ++ later) first
    → Comes bytes f (pieces ++ row_pieces (take i rows)) (cells_due (n - i) (outline_left f) ++ later) input)

pub rows_go_on : (f : Filed) (n i : ℕ) (rows : List (List Cell)) (row : List Cell) (old new first : Input) → Rowed f n first i rows old → i < n → with_row rows i row ≡ slice_set rows i row → length row ≡ length (outline_left f).sources
    → ((bytes : List ℕ) (pieces : List Piece) (later : List DueInEntry) → Comes bytes f pieces (replicate (length (outline_left f).sources) RowCellDue ++ later) old → Comes bytes f (pieces ++ map OfCell row) later new)
    → Rowed f n first (i + 1) (with_row rows i row) new
rows_go_on f n i rows row old new first h more is wide brings =
    let now = outline_left f in
    subst (λ (m : List (List Cell)). Rowed f n first (i + 1) m new) (sym is) (
      omega (arith, length-set {A = List Cell}, h.0),
      width_set (length now.sources) rows i row h.1 wide,
      λ bytes pieces later st. grind (arith, more_row, row_less),
    )

-- the cells of all rows are those of one row after another
pub pieces_of_cells : (rows : List (List Cell)) → map OfCell (row_cells rows) ≡ row_pieces rows
pieces_of_cells [] = refl
pieces_of_cells (row ∷ rows) = cc (flat_map-cons (λ (r : List Cell). r) row rows, map-append OfCell row (row_cells rows), pieces_of_cells rows, flat_map-cons (λ (r : List Cell). map OfCell r) row rows)

all_before : (P : Cell → Type 0) (xs ys : List Cell) → AllByRecursion P (xs ++ ys) → AllByRecursion P xs × AllByRecursion P ys
all_before P [] ys h = (tt, h)
all_before P (x ∷ xs) ys h = let both = all_before P xs ys h.1 in ((h.0, both.0), both.1)

-- rows of cells that were checked one by one
pub bounded_rows : (width : ℕ) (rows : List (List Cell)) → HasWidth width rows → AllByRecursion IsBounded (row_cells rows) → AllByRecursion (IsRow width) rows
bounded_rows width [] h k = tt
bounded_rows width (row ∷ rows) h k =
    let both = all_before IsBounded row (row_cells rows) (subst (AllByRecursion IsBounded) (flat_map-cons (λ (r : List Cell). r) row rows) k) in
    (record { one_each = h.0; each = both.0 }, bounded_rows width rows h.1 both.1)

-- ---- a table that rows are read into

-- a new one
pub rows_new : (f : Filed) (count sources : ℕ) (rows : List (List Cell)) (input : Input) → sources ≡ length (outline_left f).sources → rows ≡ unknown_rows count sources → Rowed f count input 0 rows input
rows_new f count sources rows input wide is =
    let width = length (outline_left f).sources in
    let new : rows ≡ unknown_rows count width = is ∙ ap (λ (n : ℕ). unknown_rows count n) wide in (
      ap length new ∙ unknown_many count width,
      subst (HasWidth width) (sym new) (unknown_wide count width),
      λ bytes pieces later st. rows_begin bytes f pieces later count rows input st,
    )

-- the next row's width, and its cells, which are due
pub next_width : (f : Filed) (n i : ℕ) (rows : List (List Cell)) (first input : Input) (row : List Cell) → Rowed f n first i rows input → i < n → row ≡ nth_row rows i → length row ≡ length (outline_left f).sources
next_width f n i rows first input row h more is = grind (arith, width_at)

pub next_due : (f : Filed) (n i : ℕ) (rows : List (List Cell)) (first input : Input) (width : ℕ) → Rowed f n first i rows input → i < n → width ≡ length (outline_left f).sources
    → (bytes : List ℕ) (pieces : List Piece) (later : List DueInEntry) → Comes bytes f pieces (cells_due n (outline_left f) ++ later) first
    → Comes bytes f (pieces ++ row_pieces (take i rows)) (replicate width RowCellDue ++ (cells_due (n - (i + 1)) (outline_left f) ++ later)) input
next_due f n i rows first input width h more wide bytes pieces later st = grind (arith, row_less)

-- all rows
pub rows_all : (f : Filed) (n i : ℕ) (rows : List (List Cell)) (first input : Input) → Rowed f n first i rows input → n ≤ i
    → (bytes : List ℕ) (pieces : List Piece) (later : List DueInEntry) → Comes bytes f pieces (cells_due n (outline_left f) ++ later) first → Comes bytes f (pieces ++ row_pieces rows) later input
rows_all f n i rows first input h past bytes pieces later st = grind (arith, taken_all, no_cells)
