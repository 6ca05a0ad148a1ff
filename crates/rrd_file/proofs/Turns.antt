-- What one more turn of a loop over an entry's pieces adds, and what is due then.
use Rattle.std.specs.Prelude.{◌≡◌, ◌++◌, ◌∷◌, ◌+◌, ◌-◌, ◌*◌, ◌<◌, ◌≤◌, ◌⊎◌, ℕ, zero, suc, List, [], length, take, drop, map, Some, replicate, slice_get, slice_set}
use Rattle.rrd_file.proofs.Names.{◌∙◌, sym, ap, refl, arith, append_assoc, append-nil, flat_map, flat_map-append, map-append, replicate-append-replicate, take_more_set, flat_map-cons, All-append, length-append, Cell, Raw, IsAccepted, Consolidating, Part, Function, AllOf, parts_in, EntryDue, NothingDue, Outline, DsDef, RraDef, AreAccepted, AreParts, IsPart, MaySave, MaySaveEach, Entry, SavedArchive, Filed, due, with_entry, raws_and_parts, row_pieces, OfCell, OfPrep, OfRawAndPart, Piece, DueInEntry, NamedDue, RowCellDue, cells_due, named_due}
use Rattle.rrd_file.proofs.Order.{before_entry}
use native.Mathlib.Nat as nat

-- ---- entries

-- after an entry the next one is due, or nothing
pub after_entry : (f : Filed) (e : Entry) → due f ≡ EntryDue → (due (with_entry f e) ≡ EntryDue) ⊎ (due (with_entry f e) ≡ NothingDue)
unfolding due
after_entry f e d = grind arith

pub more_entries : (f : Filed) → due f ≡ EntryDue → length f.entries < f.header.entries
more_entries f d = (before_entry f d).more

-- ---- pieces

pub more_map : {A : Type 0} (p : A → Piece) (pieces : List Piece) (xs : List A) (x : A) → (pieces ++ map p xs) ++ p x ∷ [] ≡ pieces ++ map p (xs ++ x ∷ [])
more_map p pieces xs x = append_assoc pieces (map p xs) (p x ∷ []) ∙ ap (λ l. pieces ++ l) (sym (map-append p xs (x ∷ [])))

pub more_flat : {A : Type 0} (p : A → List Piece) (pieces : List Piece) (xs : List A) (x : A) → (pieces ++ flat_map p xs) ++ p x ≡ pieces ++ flat_map p (xs ++ x ∷ [])
more_flat p pieces xs x = cc (append_assoc pieces (flat_map p xs) (p x), ap (λ l. flat_map p xs ++ l) (sym (flat_map-cons p x [] ∙ append-nil (p x))) ∙ sym (flat_map-append p xs (x ∷ [])))

raws_end : (raws : List Raw) (parts : List Part) (raw : Raw) (part : Part) → length raws ≡ length parts → raws_and_parts raws parts ++ OfRawAndPart raw part ∷ [] ≡ raws_and_parts (raws ++ raw ∷ []) (parts ++ part ∷ [])
raws_end [] [] raw part l = refl
raws_end (r ∷ raws) (p ∷ parts) raw part l = ap (λ l. OfRawAndPart r p ∷ l) (raws_end raws parts raw part (omega (arith, l)))
raws_end x y raw part l = absurd (omega (arith, l))

pub more_raws : (pieces : List Piece) (raws : List Raw) (parts : List Part) (raw : Raw) (part : Part) → length raws ≡ length parts
    → (pieces ++ raws_and_parts raws parts) ++ OfRawAndPart raw part ∷ [] ≡ pieces ++ raws_and_parts (raws ++ raw ∷ []) (parts ++ part ∷ [])
more_raws pieces raws parts raw part l = append_assoc pieces (raws_and_parts raws parts) (OfRawAndPart raw part ∷ []) ∙ ap (λ l. pieces ++ l) (raws_end raws parts raw part l)

-- a cell more in a row, a row more in a table
pub more_cell : (pieces : List Piece) (row : List Cell) (i : ℕ) (cell : Cell) → i < length row → (pieces ++ map OfCell (take i row)) ++ OfCell cell ∷ [] ≡ pieces ++ map OfCell (take (i + 1) (slice_set row i cell))
more_cell pieces row i cell h = more_map OfCell pieces (take i row) cell ∙ ap (λ l. pieces ++ map OfCell l) (sym (take_more_set row i cell h))

pub more_row : (pieces : List Piece) (rows : List (List Cell)) (i : ℕ) (row : List Cell) → i < length rows → (pieces ++ row_pieces (take i rows)) ++ map OfCell row ≡ pieces ++ row_pieces (take (i + 1) (slice_set rows i row))
more_row pieces rows i row h = more_flat (λ (r : List Cell). map OfCell r) pieces (take i rows) row ∙ ap (λ l. pieces ++ row_pieces l) (sym (take_more_set rows i row h))

-- ---- what is due

less : (n i : ℕ) → i < n → n - i ≡ suc (n - (i + 1))
less n i h = omega arith

pub one_less : (d : DueInEntry) (n i : ℕ) (later : List DueInEntry) → i < n → replicate (n - i) d ++ later ≡ d ∷ (replicate (n - (i + 1)) d ++ later)
one_less d n i later h = ap (λ k. replicate k d ++ later) (less n i h)

pub row_less : (now : Outline) (n i : ℕ) (later : List DueInEntry) → i < n → cells_due (n - i) now ++ later ≡ replicate (length now.sources) RowCellDue ++ (cells_due (n - (i + 1)) now ++ later)
row_less now n i later h =
    let width = length now.sources in
    let m = n - (i + 1) in
    let parts : (n - i) * width ≡ width + m * width = ap (λ k. k * width) (less n i h) ∙ nat.suc-mul m width ∙ nat.add_comm (m * width) width in
    cc (parts, replicate-append-replicate width (m * width) RowCellDue, append_assoc (replicate width RowCellDue) (replicate (m * width) RowCellDue) later)

pub no_cells : (now : Outline) (n i : ℕ) (later : List DueInEntry) → n ≤ i → cells_due (n - i) now ++ later ≡ later
no_cells now n i later h = grind arith

pub none_less : (d : DueInEntry) (n i : ℕ) (later : List DueInEntry) → n ≤ i → replicate (n - i) d ++ later ≡ later
none_less d n i later h = grind arith

pub dropped_at : {A : Type 0} (xs : List A) (i : ℕ) (x : A) → slice_get xs i ≡ Some x → drop i xs ≡ x ∷ drop (i + 1) xs
dropped_at [] i x e = absurd cc
dropped_at (y ∷ xs) zero x e = let same : y ≡ x = cc in ap (λ z. z ∷ xs) same
dropped_at (y ∷ xs) (suc i) x e = let next : suc i + 1 ≡ suc (i + 1) = omega arith in dropped_at xs i x e ∙ ap (λ l. x ∷ l) (sym (ap (λ n. drop n (y ∷ xs)) next))

pub next_source : {A : Type 0} (d : A → DueInEntry) (xs : List A) (i : ℕ) (x : A) (later : List DueInEntry) → slice_get xs i ≡ Some x → map d (drop i xs) ++ later ≡ d x ∷ (map d (drop (i + 1) xs) ++ later)
next_source d xs i x later e = ap (λ l. map d l ++ later) (dropped_at xs i x e)

pub next_archive : {A : Type 0} (d : A → List DueInEntry) (xs : List A) (i : ℕ) (x : A) (later : List DueInEntry) → slice_get xs i ≡ Some x → flat_map d (drop i xs) ++ later ≡ d x ++ (flat_map d (drop (i + 1) xs) ++ later)
next_archive d xs i x later e = grind (arith, dropped_at, append_assoc)

pub dropped_all : {A : Type 0} (xs : List A) (i : ℕ) → length xs ≤ i → drop i xs ≡ []
dropped_all [] zero h = refl
dropped_all [] (suc i) h = refl
dropped_all (x ∷ xs) zero h = absurd (omega arith)
dropped_all (x ∷ xs) (suc i) h = dropped_all xs i (omega arith)

pub taken_all : {A : Type 0} (xs : List A) (i : ℕ) → length xs ≤ i → take i xs ≡ xs
taken_all [] zero h = refl
taken_all [] (suc i) h = refl
taken_all (x ∷ xs) zero h = absurd (omega arith)
taken_all (x ∷ xs) (suc i) h = ap (λ l. x ∷ l) (taken_all xs i (omega arith))

pub named_less : (lowest n i : ℕ) → i < n → named_due lowest (n - i) ≡ NamedDue lowest (n - (i + 1)) ∷ []
named_less lowest n i h = ap (named_due lowest) (less n i h)

-- ---- what was saved

pub saves_more : (step from to sources : ℕ) (defs : List RraDef) (j : ℕ) (def : RraDef) (olds : List SavedArchive) (old : SavedArchive) → slice_get defs j ≡ Some def → MaySaveEach step from to sources (take j defs) olds → MaySave step from to sources def old
    → MaySaveEach step from to sources (take (j + 1) defs) (olds ++ old ∷ [])
saves_more step from to sources [] j def olds old e h k = absurd cc
saves_more step from to sources (d ∷ defs) zero def olds old e h k = grind arith
saves_more step from to sources (d ∷ defs) (suc j) def [] old e h k = absurd h
saves_more step from to sources (d ∷ defs) (suc j) def (o ∷ olds) old e h k = grind (arith, saves_more step from to sources defs j def olds old e h.1 k)

-- ---- what was accepted

pub accepted_more : (defs : List DsDef) (j : ℕ) (def : DsDef) (raws : List Raw) (raw : Raw) → slice_get defs j ≡ Some def → AreAccepted (take j defs) raws → IsAccepted def.kind raw → AreAccepted (take (j + 1) defs) (raws ++ raw ∷ [])
accepted_more [] j def raws raw e h k = absurd cc
accepted_more (d ∷ defs) zero def raws raw e h k = grind arith
accepted_more (d ∷ defs) (suc j) def [] raw e h k = absurd h
accepted_more (d ∷ defs) (suc j) def (r ∷ raws) raw e h k = grind (arith, accepted_more defs j def raws raw e h.1 k)

pub parts_more : (function : Function) (sources passed : ℕ) (parts : List Part) (part : Part) → AreParts function sources passed parts → IsPart function passed part → AreParts function (sources + 1) passed (parts ++ part ∷ [])
parts_more function sources passed parts part h k = record {
  one_each = omega (arith, length-append parts (part ∷ []), h.one_each);
  each = All-append (IsPart function passed) parts (part ∷ []) h.each (k, tt);
}

pub all_more : (function : Function) (preps : List Consolidating) (prep : Consolidating) → AllOf function preps → prep.function ≡ function → AllOf function (preps ++ prep ∷ [])
all_more function [] prep h e = (e, tt)
all_more function (p ∷ preps) prep h e = (h.0, all_more function preps prep h.1 e)

pub more_preps : (pieces : List Piece) (preps : List Consolidating) (prep : Consolidating) → (pieces ++ map OfPrep (parts_in preps)) ++ OfPrep prep.part ∷ [] ≡ pieces ++ map OfPrep (parts_in (preps ++ prep ∷ []))
more_preps pieces preps prep = more_map OfPrep pieces (parts_in preps) prep.part ∙ ap (λ (l : List Part). pieces ++ map OfPrep l) (sym (map-append (λ (p : Consolidating). p.part) preps (prep ∷ [])))
