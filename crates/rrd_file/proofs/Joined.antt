-- Runs of bytes and of pieces, one behind another.
use Rattle.std.proofs.Common.{arith}
use Rattle.std.specs.Prelude.{◌≡◌, ◌++◌, ◌∷◌, [], List, ℕ, map, length}
use Rattle.rrd_file.proofs.Names.{◌∙◌, sym, ap, append_assoc, append-nil, refl, flat_map, flat_map-append, SavedArchive, newest, Filed, filed, head_of, header_of, Rra, Stored, body_pieces, saved_pieces, entry_pieces, head_pieces, layout, row_pieces, spelled, front_bytes, journal_bytes, Piece, Mark, OfVersion, OfHeader, OfSource, OfArchive, OfPrep, OfRows, OfCell, spell}
use Rattle.rrd_file.specs.Encoded.{cell_bytes}

-- ---- bytes added in turn

pub two_parts : (a b old x y : List ℕ) → x ≡ old ++ a → y ≡ x ++ b → y ≡ old ++ (a ++ b)
two_parts a b old x y p q = q ∙ (ap (λ l. l ++ b) p ∙ append_assoc old a b)

pub three_parts : (a b c old x y z : List ℕ) → x ≡ old ++ a → y ≡ x ++ b → z ≡ y ++ c → z ≡ old ++ (a ++ (b ++ c))
three_parts a b c old x y z p q r = two_parts a (b ++ c) old x z p (two_parts b c x y z q r)

pub four_parts : (a b c d old w x y z : List ℕ) → w ≡ old ++ a → x ≡ w ++ b → y ≡ x ++ c → z ≡ y ++ d → z ≡ old ++ (a ++ (b ++ (c ++ d)))
four_parts a b c d old w x y z o p q r = two_parts a (b ++ (c ++ d)) old w z o (three_parts b c d w x y z p q r)

pub five_parts : (a b c d e old v w x y z : List ℕ) → v ≡ old ++ a → w ≡ v ++ b → x ≡ w ++ c → y ≡ x ++ d → z ≡ y ++ e → z ≡ old ++ (a ++ (b ++ (c ++ (d ++ e))))
five_parts a b c d e old v w x y z n o p q r = two_parts a (b ++ (c ++ (d ++ e))) old v z n (four_parts b c d e v w x y z o p q r)

pub six_parts : (a b c d e f old u v w x y z : List ℕ) → u ≡ old ++ a → v ≡ u ++ b → w ≡ v ++ c → x ≡ w ++ d → y ≡ x ++ e → z ≡ y ++ f → z ≡ old ++ (a ++ (b ++ (c ++ (d ++ (e ++ f)))))
six_parts a b c d e f old u v w x y z m n o p q r = two_parts a (b ++ (c ++ (d ++ (e ++ f)))) old u z m (five_parts b c d e f u v w x y z n o p q r)

-- the mark, the version, and what follows
pub head_parts : (m v h old a b c : List ℕ) → a ≡ old ++ m → b ≡ a ++ v → c ≡ b ++ h → c ≡ old ++ (m ++ (v ++ (h ++ [])))
head_parts m v h old a b c p q r = three_parts m v h old a b c p q r ∙ ap (λ l. old ++ (m ++ (v ++ l))) (sym (append-nil h))

-- ---- runs of pieces

pub joined_two : (xs ys : List Piece) → spelled (xs ++ ys) ≡ spelled xs ++ spelled ys
joined_two xs ys = flat_map-append spell xs ys

pub joined_three : (xs ys zs : List Piece) → spelled (xs ++ (ys ++ zs)) ≡ spelled xs ++ (spelled ys ++ spelled zs)
joined_three xs ys zs = joined_two xs (ys ++ zs) ∙ ap (λ l. spelled xs ++ l) (joined_two ys zs)

pub joined_head : (a : Rra) → spelled (head_pieces (head_of a)) ≡ spell (OfArchive a.def) ++ spelled (map OfPrep a.parts)
joined_head a = refl

pub joined_saved : (old : SavedArchive) → spelled (saved_pieces old) ≡ spelled (map OfPrep old.parts) ++ (spell (OfRows (length old.rows)) ++ spelled (row_pieces old.rows))
joined_saved old = flat_map-append spell (map OfPrep old.parts) (OfRows (length old.rows) ∷ row_pieces old.rows)

pub joined_body : (f : Filed) → spelled (body_pieces f) ≡ spelled (map OfSource f.sources) ++ (spelled (flat_map head_pieces f.heads) ++ spelled (map OfCell f.cells))
joined_body f = ap spelled (append_assoc (map OfSource f.sources) (flat_map head_pieces f.heads) (map OfCell f.cells)) ∙ joined_three (map OfSource f.sources) (flat_map head_pieces f.heads) (map OfCell f.cells)

pub joined_whole : (d : Stored) → layout d ≡ spelled (Mark ∷ OfVersion newest ∷ OfHeader (header_of newest d) ∷ []) ++ (spelled (body_pieces (filed newest d)) ++ spelled (flat_map entry_pieces d.journal))
joined_whole d = joined_three (Mark ∷ OfVersion newest ∷ OfHeader (header_of newest d) ∷ []) (body_pieces (filed newest d)) (flat_map entry_pieces d.journal)

-- a file in three parts
pub joined_layout : (d : Stored) → layout d ≡ front_bytes d ++ (cell_bytes d.content ++ journal_bytes d)
joined_layout d =
    let head = spelled (Mark ∷ OfVersion newest ∷ OfHeader (header_of newest d) ∷ []) in
    let f = filed newest d in
    let sources = spelled (map OfSource f.sources) in
    let heads = spelled (flat_map head_pieces f.heads) in
    let cells = cell_bytes d.content in
    let journal = journal_bytes d in
    grind (arith, joined_whole d, joined_body f, append_assoc sources (heads ++ cells) journal, append_assoc heads cells journal, append_assoc sources heads (cells ++ journal), append_assoc head (sources ++ heads) (cells ++ journal))
