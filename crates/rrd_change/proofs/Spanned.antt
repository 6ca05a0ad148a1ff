-- Lemmas on the change that spans of new bytes make.
use Rattle.rrd_change.proofs.Names.{common_steps, ◌≡◌, ℕ, ◌+◌, ◌-◌, ◌<◌, ◌≤◌, Bool, true, false, cond, List, [], ◌∷◌, length, drop, get_or, refl, ap, arith, inl, inr, ◌&&◌, nat_le, nat_lt, and_from, le-leb, leb-true, ltb-true, length-take, length-drop, all_laid, are_within, laid, HaveByte, Makes, AgreesOutside, AreSpans, IsIn, change_of, piece_of, pieces_of, Span}
use Rattle.rrd_change.proofs.Laying.{changed_inside, pieces_say}

length-piece : (bytes : List ℕ) (s : Span) → s.start ≤ s.end → s.end ≤ length bytes → length (piece_of bytes s).bytes ≡ s.end - s.start
length-piece bytes s ordered few = omega (arith, length-take (s.end - s.start) (drop s.start bytes), length-drop s.start bytes, ordered, few)

pub pieces_within : (bytes : List ℕ) (spans : List Span) → AreSpans (length bytes) spans → are_within (length bytes) (pieces_of bytes spans) ≡ true
pieces_within bytes [] h = refl
pieces_within bytes (s ∷ spans) h = grind (arith, length-piece, and_from, le-leb, pieces_within bytes spans h.1)

pub have_in : (bytes : List ℕ) (spans : List Span) (k : ℕ) → AreSpans (length bytes) spans → HaveByte k (pieces_of bytes spans) → IsIn k spans
have_in bytes [] k h has = has
have_in bytes (s ∷ spans) k h (inl has) = inl (has.0, omega (arith, has.1, length-piece bytes s h.0.0 h.0.1, h.0.0))
have_in bytes (s ∷ spans) k h (inr has) = inr (have_in bytes spans k h.1 has)

pub in_have : (bytes : List ℕ) (spans : List Span) (k : ℕ) → AreSpans (length bytes) spans → IsIn k spans → HaveByte k (pieces_of bytes spans)
in_have bytes [] k h is = is
in_have bytes (s ∷ spans) k h (inl is) = inl (is.0, omega (arith, is.1, length-piece bytes s h.0.0 h.0.1, h.0.0))
in_have bytes (s ∷ spans) k h (inr is) = inr (in_have bytes spans k h.1 is)

-- a piece puts the new byte, or leaves the byte
piece_keeps : (bytes : List ℕ) (s : Span) (k : ℕ) (b : Bool) → s.start ≤ s.end → s.end ≤ length bytes →
    (nat_le s.start k && nat_lt k (s.start + length (piece_of bytes s).bytes)) ≡ b → laid (piece_of bytes s) k (get_or bytes k 0) ≡ get_or bytes k 0
piece_keeps bytes s k false ordered few e = ap (λ t. cond t (get_or (piece_of bytes s).bytes (k - s.start) 0) (get_or bytes k 0)) e
piece_keeps bytes s k true ordered few e = grind (arith, common_steps, leb-true, ltb-true, length-piece)

pieces_keep : (bytes : List ℕ) (spans : List Span) (k : ℕ) → AreSpans (length bytes) spans → all_laid (pieces_of bytes spans) k (get_or bytes k 0) ≡ get_or bytes k 0
pieces_keep bytes [] k h = refl
pieces_keep bytes (s ∷ spans) k h = grind (arith, piece_keeps, pieces_keep bytes spans k h.1)

-- the spans make the new bytes of the old ones
pub spans_make : (spans : List Span) (old new : List ℕ) → AreSpans (length new) spans → AgreesOutside spans old new → Makes (change_of (length new) new spans) old new
spans_make spans old new are agrees = grind (arith, common_steps, changed_inside (change_of (length new) new spans), pieces_say, in_have new spans, pieces_keep new spans)

-- the bytes that come are in the spans
pub spans_fill : (spans : List Span) (old new : List ℕ) (k : ℕ) → AreSpans (length new) spans → AgreesOutside spans old new → length old ≤ k → k < length new →
    HaveByte k (pieces_of new spans)
spans_fill spans old new k are agrees high low = grind (arith, in_have)
