-- Entries with the same pieces are one, where their lists are as long as the outline says.
use Rattle.std.specs.Prelude.{◌≡◌, ◌++◌, ◌∷◌, ℕ, List, [], length, map}
use Rattle.rrd_file.proofs.Names.{◌∙◌, sym, ap, refl, get_or, arith, append_assoc, AllByRecursion, flat_map, length-map, flat_map-cons, Cell, Raw, Part, HasWidth, SavedSource, Outline, RraDef, BeforeUpdate, Entry, SavedArchive, UpdateEntry, TuneEntry, ResizeEntry, AddedEntry, RemovedEntry, Rra, Filed, MaySaveEach, MayUpdate, MayEntry, outline_left, IsRow, entry_pieces, raws_and_parts, row_pieces, saved_pieces, Piece, Mark, OfCell, OfPrep, OfRawAndPart, OfRows, OfSavedSource, OfTag, AnUpdate, ATune, AResize, AnAddition, IsRemovedShaped, IsShaped}
use Rattle.rrd_file.proofs.Spelled.{append_same}
use Rattle.rrd_file.proofs.Told.{accepted_length, length_before}

-- ---- lists of one kind of piece

map_one : {A : Type 0} (f : A → Piece) → ((x y : A) → f x ≡ f y → x ≡ y) → (a b : List A) → map f a ≡ map f b → a ≡ b
map_one f one [] [] e = refl
map_one f one [] (y ∷ b) e = absurd (let bad : [] ≡ f y ∷ map f b = e in cc)
map_one f one (x ∷ a) [] e = absurd (let bad : f x ∷ map f a ≡ [] = e in cc)
map_one f one (x ∷ a) (y ∷ b) e =
    let first : f x ≡ f y = cc in
    let later : map f a ≡ map f b = cc in
    λ i. one x y first i ∷ map_one f one a b later i

prep_same : (x y : Part) → OfPrep x ≡ OfPrep y → x ≡ y
prep_same x y e = cc

cell_same : (x y : Cell) → OfCell x ≡ OfCell y → x ≡ y
cell_same x y e = cc

before_same : (x y : SavedSource) → OfSavedSource x ≡ OfSavedSource y → x ≡ y
before_same x y e = cc

raws_one : (r s : List Raw) (a b : List Part) → length r ≡ length a → length s ≡ length b → raws_and_parts r a ≡ raws_and_parts s b → (r ≡ s) × (a ≡ b)
raws_one [] [] [] [] l m e = (refl, refl)
raws_one [] s a b l m e = grind arith
raws_one (r ∷ rs) ss [] b l m e = absurd (omega (arith, l))
raws_one (r ∷ rs) [] (x ∷ a) [] l m e = absurd (let bad : OfRawAndPart r x ∷ raws_and_parts rs a ≡ [] = e in cc)
raws_one (r ∷ rs) (s ∷ ss) (x ∷ a) (y ∷ b) l m e =
    let rest : raws_and_parts rs a ≡ raws_and_parts ss b = cc in
    grind (arith, raws_one rs ss a b (omega (arith, l)) (omega (arith, m)) rest)
raws_one z u x y l m e = absurd (omega (arith, m))

-- ---- rows of one width

rows_shaped : (width : ℕ) (rows : List (List Cell)) → AllByRecursion (IsRow width) rows → HasWidth width rows
rows_shaped width [] h = tt
rows_shaped width (row ∷ rows) h = (h.0.one_each, rows_shaped width rows h.1)

row_cut : (row : List Cell) (rows : List (List Cell)) (a : List Piece) → row_pieces (row ∷ rows) ++ a ≡ map OfCell row ++ (row_pieces rows ++ a)
row_cut row rows a = ap (λ l. l ++ a) (flat_map-cons (λ (r : List Cell). map OfCell r) row rows) ∙ append_assoc (map OfCell row) (row_pieces rows) a

rows_one : (width : ℕ) (rows olds : List (List Cell)) (a b : List Piece) → HasWidth width rows → HasWidth width olds → length rows ≡ length olds → row_pieces rows ++ a ≡ row_pieces olds ++ b → (rows ≡ olds) × (a ≡ b)
rows_one width [] [] a b h k l e = (refl, e)
rows_one width (x ∷ rows) (y ∷ olds) a b h k l e =
    let same : length (map OfCell x) ≡ length (map OfCell y) = length-map x OfCell ∙ h.0 ∙ sym k.0 ∙ sym (length-map y OfCell) in
    let both = append_same (map OfCell x) (row_pieces rows ++ a) (map OfCell y) (row_pieces olds ++ b) same (sym (row_cut x rows a) ∙ e ∙ row_cut y olds b) in
    grind (arith, rows_one width rows olds a b h.1 k.1 (omega (arith, l)) both.1, map_one, cell_same)
rows_one width x y a b h k l e = absurd (omega (arith, l))

-- ---- what an update saved

saved_cut : (old : SavedArchive) (olds : List SavedArchive) → flat_map saved_pieces (old ∷ olds) ≡ map OfPrep old.parts ++ (OfRows (length old.rows) ∷ (row_pieces old.rows ++ flat_map saved_pieces olds))
saved_cut old olds = flat_map-cons saved_pieces old olds ∙ append_assoc (map OfPrep old.parts) (OfRows (length old.rows) ∷ row_pieces old.rows) (flat_map saved_pieces olds)

saved_one : (step from to sources : ℕ) (defs : List RraDef) (olds news : List SavedArchive) → MaySaveEach step from to sources defs olds → MaySaveEach step from to sources defs news → flat_map saved_pieces olds ≡ flat_map saved_pieces news → olds ≡ news
saved_one step from to sources [] olds news h k e = grind arith
saved_one step from to sources (def ∷ defs) [] news h k e = absurd h
saved_one step from to sources (def ∷ defs) (old ∷ olds) (new ∷ news) h k e =
    let same : length (map OfPrep old.parts) ≡ length (map OfPrep new.parts) = length-map old.parts OfPrep ∙ h.0.parts_are.one_each ∙ sym k.0.parts_are.one_each ∙ sym (length-map new.parts OfPrep) in
    let both = append_same (map OfPrep old.parts) (OfRows (length old.rows) ∷ (row_pieces old.rows ++ flat_map saved_pieces olds)) (map OfPrep new.parts) (OfRows (length new.rows) ∷ (row_pieces new.rows ++ flat_map saved_pieces news)) same (sym (saved_cut old olds) ∙ e ∙ saved_cut new news) in
    let count : length old.rows ≡ length new.rows = cc in
    let rest : row_pieces old.rows ++ flat_map saved_pieces olds ≡ row_pieces new.rows ++ flat_map saved_pieces news = cc in
    let function : old.function ≡ new.function = h.0.same_function ∙ sym k.0.same_function in
    let parts = map_one OfPrep prep_same old.parts new.parts both.0 in
    let rows = rows_one sources old.rows new.rows (flat_map saved_pieces olds) (flat_map saved_pieces news) (rows_shaped sources old.rows h.0.each_row) (rows_shaped sources new.rows k.0.each_row) count rest in
    λ i. record { function = function i; parts = parts i; rows = rows.0 i } ∷ (saved_one step from to sources defs olds news h.1 k.1 rows.1) i
saved_one step from to sources x y z h k e = absurd k

-- ---- entries

update_one : (step : ℕ) (now : Outline) (old new : BeforeUpdate) → MayUpdate step now old → MayUpdate step now new → entry_pieces (UpdateEntry old) ≡ entry_pieces (UpdateEntry new) → old ≡ new
update_one step now old new h k e = grind (arith, accepted_length, length_before, append_same, raws_one, saved_one)

resize_one : (width x y : ℕ) (rows olds : List (List Cell)) → HasWidth width rows → HasWidth width olds → entry_pieces (ResizeEntry x rows) ≡ entry_pieces (ResizeEntry y olds) → ResizeEntry x rows ≡ ResizeEntry y olds
resize_one width x y rows olds h k e =
    let number : x ≡ y = cc in
    let count : length rows ≡ length olds = cc in
    let rest : row_pieces rows ≡ row_pieces olds = cc in
    let both = rows_one width rows olds [] [] h k count (ap (λ l. l ++ []) rest) in
    λ i. ResizeEntry (number i) (both.0 i)

tune_one : (x y : List SavedSource) → entry_pieces (TuneEntry x) ≡ entry_pieces (TuneEntry y) → TuneEntry x ≡ TuneEntry y
tune_one x y e = grind (arith, map_one, before_same)

removed_one : (now : Outline) (x y : ℕ) (a b : Rra) → IsRemovedShaped now a → IsRemovedShaped now b → entry_pieces (RemovedEntry x a) ≡ entry_pieces (RemovedEntry y b) → RemovedEntry x a ≡ RemovedEntry y b
removed_one now x y a b h k e =
    let number : x ≡ y = cc in
    let def : a.def ≡ b.def = cc in
    let rest : map OfPrep a.parts ++ row_pieces a.rows ≡ map OfPrep b.parts ++ row_pieces b.rows = cc in
    let same : length (map OfPrep a.parts) ≡ length (map OfPrep b.parts) = length-map a.parts OfPrep ∙ h.one_part_each ∙ sym k.one_part_each ∙ sym (length-map b.parts OfPrep) in
    let both = append_same (map OfPrep a.parts) (row_pieces a.rows) (map OfPrep b.parts) (row_pieces b.rows) same rest in
    let parts = map_one OfPrep prep_same a.parts b.parts both.0 in
    let count : length a.rows ≡ length b.rows = h.rows_are ∙ ap (λ (d : RraDef). d.rows) def ∙ sym k.rows_are in
    let rows = rows_one (length now.sources) a.rows b.rows [] [] h.one_cell_each k.one_cell_each count (ap (λ l. l ++ []) both.1) in
    λ i. RemovedEntry (number i) (record { def = def i; parts = parts i; rows = rows.0 i })

pub shaped_one : (f : Filed) (x y : Entry) → IsShaped f x → IsShaped f y → entry_pieces x ≡ entry_pieces y → x ≡ y
shaped_one f (UpdateEntry x) (UpdateEntry y) h k e = ap UpdateEntry (update_one f.header.step (outline_left f) x y h k e)
shaped_one f (TuneEntry x) (TuneEntry y) h k e = tune_one x y e
shaped_one f (ResizeEntry x rows) (ResizeEntry y olds) h k e = resize_one (length (outline_left f).sources) x y rows olds h k e
shaped_one f AddedEntry AddedEntry h k e = refl
shaped_one f (RemovedEntry x a) (RemovedEntry y b) h k e = removed_one (outline_left f) x y a b h k e
shaped_one f (UpdateEntry x) (TuneEntry y) h k e = absurd (let bad : OfTag AnUpdate ≡ OfTag ATune = ap (λ l. get_or l 0 Mark) e in cc)
shaped_one f (UpdateEntry x) (ResizeEntry y olds) h k e = absurd (let bad : OfTag AnUpdate ≡ OfTag AResize = ap (λ l. get_or l 0 Mark) e in cc)
shaped_one f (TuneEntry x) (UpdateEntry y) h k e = absurd (let bad : OfTag ATune ≡ OfTag AnUpdate = ap (λ l. get_or l 0 Mark) e in cc)
shaped_one f (TuneEntry x) (ResizeEntry y olds) h k e = absurd (let bad : OfTag ATune ≡ OfTag AResize = ap (λ l. get_or l 0 Mark) e in cc)
shaped_one f (ResizeEntry x rows) (UpdateEntry y) h k e = absurd (let bad : OfTag AResize ≡ OfTag AnUpdate = ap (λ l. get_or l 0 Mark) e in cc)
shaped_one f (ResizeEntry x rows) (TuneEntry y) h k e = absurd (let bad : OfTag AResize ≡ OfTag ATune = ap (λ l. get_or l 0 Mark) e in cc)
shaped_one f (UpdateEntry x) y h k e = grind arith
shaped_one f (TuneEntry x) y h k e = grind arith
shaped_one f (ResizeEntry x rows) y h k e = grind arith
shaped_one f AddedEntry (UpdateEntry y) h k e = absurd (let bad : OfTag AnAddition ≡ OfTag AnUpdate = ap (λ l. get_or l 0 Mark) e in cc)
shaped_one f AddedEntry (TuneEntry y) h k e = absurd (let bad : OfTag AnAddition ≡ OfTag ATune = ap (λ l. get_or l 0 Mark) e in cc)
shaped_one f x y h k e = grind arith

-- ---- an entry that fits is shaped so

pub undo_shaped : (f : Filed) (e : Entry) → MayEntry f e → IsShaped f e
undo_shaped f x m = grind (arith, rows_shaped)
