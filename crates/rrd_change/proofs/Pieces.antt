-- Lemmas on bytes that are appended piece by piece, and on the pieces of a change.
use Rattle.rrd_change.proofs.Names.{◌≡◌, ℕ, suc, ◌+◌, ◌<◌, ◌≤◌, List, [], ◌∷◌, ◌++◌, length, take, get_or, refl, ◌∙◌, ap, arith, append_assoc, flat_map, take-suc, flat_map-append, append-nil, Change, body_bytes, change_bytes, change_head, head_bytes, piece_bytes, AreSpans, piece_of, pieces_of, Span}

pub three : (a b c d x y z : List ℕ) → x ≡ a ++ b → y ≡ x ++ c → z ≡ y ++ d → z ≡ a ++ (b ++ (c ++ d))
three a b c d x y z e f g = grind (arith, append_assoc)

pub spans_more : (spans : List Span) (n : ℕ) (none : Span) → n < length spans → take (n + 1) spans ≡ take n spans ++ get_or spans n none ∷ []
spans_more spans n none low = let e : n + 1 ≡ suc n = omega arith in ap (λ m. take m spans) e ∙ take-suc spans n none low

pieces_join : (bytes : List ℕ) (xs : List Span) (s : Span) → pieces_of bytes (xs ++ s ∷ []) ≡ pieces_of bytes xs ++ piece_of bytes s ∷ []
pieces_join bytes [] s = refl
pieces_join bytes (x ∷ xs) s = ap (λ ps. piece_of bytes x ∷ ps) (pieces_join bytes xs s)

within_join : (count : ℕ) (xs : List Span) (s : Span) → AreSpans count xs → s.start ≤ s.end → s.end ≤ count → AreSpans count (xs ++ s ∷ [])
within_join count [] s h low few = ((low, few), tt)
within_join count (x ∷ xs) s h low few = (h.0, within_join count xs s h.1 low few)

-- one more piece
pub pushed_more : (bytes first buffer new : List ℕ) (spans : List Span) (n : ℕ) (none : Span) → n < length spans →
    buffer ≡ first ++ flat_map piece_bytes (pieces_of bytes (take n spans)) → new ≡ buffer ++ piece_bytes (piece_of bytes (get_or spans n none)) →
    new ≡ first ++ flat_map piece_bytes (pieces_of bytes (take (n + 1) spans))
pushed_more bytes first buffer new spans n none low was more =
    let s = get_or spans n none in
    let before = flat_map piece_bytes (pieces_of bytes (take n spans)) in
    let last : flat_map piece_bytes (piece_of bytes s ∷ []) ≡ piece_bytes (piece_of bytes s) = append-nil (piece_bytes (piece_of bytes s)) in
    let all : flat_map piece_bytes (pieces_of bytes (take (n + 1) spans)) ≡ before ++ piece_bytes (piece_of bytes s) = grind (arith, spans_more spans n none low, pieces_join bytes (take n spans) s, flat_map-append piece_bytes (pieces_of bytes (take n spans)) (piece_of bytes s ∷ [])) in
    grind (arith, append_assoc)

pub within_more : (count : ℕ) (spans : List Span) (n : ℕ) (none : Span) → n < length spans → AreSpans count (take n spans) →
    (get_or spans n none).start ≤ (get_or spans n none).end → (get_or spans n none).end ≤ count → AreSpans count (take (n + 1) spans)
within_more count spans n none low h ordered few = grind (arith, spans_more spans n none low, within_join count (take n spans) (get_or spans n none) h ordered few)

pub length-pieces : (bytes : List ℕ) (spans : List Span) → length (pieces_of bytes spans) ≡ length spans
length-pieces bytes [] = refl
length-pieces bytes (s ∷ spans) = ap (λ n. suc n) (length-pieces bytes spans)

-- the head and the body make a change
pub change_pushed : (tail at : ℕ) (c : Change) (buffer head body new : List ℕ) (pieces : ℕ) → head ≡ head_bytes tail at pieces c.size body → body ≡ body_bytes c → pieces ≡ length c.pieces →
    new ≡ (buffer ++ head) ++ body → new ≡ buffer ++ change_bytes tail at c
unfolding change_head
change_pushed tail at c buffer head body new pieces is body_is pieces_is all =
    all ∙ append_assoc buffer head body ∙ ap (λ xs. buffer ++ (xs ++ body)) is ∙ ap (λ n. buffer ++ (head_bytes tail at n c.size body ++ body)) pieces_is
    ∙ ap (λ xs. buffer ++ (head_bytes tail at (length c.pieces) c.size xs ++ xs)) body_is
