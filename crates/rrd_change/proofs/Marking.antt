-- Lemmas on the marks of a file.
use Rattle.rrd_change.proofs.Names.{◌≡◌, ℕ, ◌<◌, ◌≤◌, List, length, drop, get_or, sym, ◌∙◌, ap, arith, inl, inr, zero-add, length-append, length-drop, get_or_append_left, ext_get_or, AreAny, ArePut, AreWholeOrNot, IsTorn, IsUnderCut, cut_mark, database_mark, IsAtRest, IsDatabase, IsMarked, IsPlain, Represents, cut_of, All, Fails, FailsToWriteWhole, Stores, World, WritesWhole, common_steps}
use Rattle.rrd_change.proofs.Holding.{held_all, moves_all, stores_all, marks_all}

pub length-cut : (bytes : List ℕ) → 4 ≤ length bytes → length (cut_of bytes) ≡ length bytes
length-cut bytes enough = omega (arith, length-append cut_mark (drop 4 bytes), length-drop 4 bytes, enough)

pub cut_front : (bytes : List ℕ) (k : ℕ) → k < 4 → get_or (cut_of bytes) k 0 ≡ get_or cut_mark k 0
cut_front bytes k low = get_or_append_left cut_mark (drop 4 bytes) 0 k low

pub cut_each : (bytes : List ℕ) (k : ℕ) → 4 ≤ k → get_or (cut_of bytes) k 0 ≡ get_or bytes k 0
cut_each bytes k high = grind arith

-- bytes that were put at the start
pub put_front : (mark old new : List ℕ) (k : ℕ) → ArePut 0 mark old new → k < length mark → get_or new k 0 ≡ get_or mark k 0
put_front mark old new k p low = ap (λ n. get_or new n 0) (sym (zero-add k)) ∙ p.inside k low

pub put_behind : (mark old new : List ℕ) (k : ℕ) → ArePut 0 mark old new → length mark ≤ k → get_or new k 0 ≡ get_or old k 0
put_behind mark old new k p high = p.outside k (inr (omega (arith, high)))

pub plain_length : (bytes file : List ℕ) → 4 ≤ length bytes → IsPlain bytes file → length file ≡ length bytes
plain_length bytes file enough h = grind arith

plain_each : (bytes file : List ℕ) (k : ℕ) → 4 ≤ k → IsPlain bytes file → get_or file k 0 ≡ get_or bytes k 0
plain_each bytes file k high h = grind arith

pub is_cut_of : (bytes file : List ℕ) → 4 ≤ length bytes → length file ≡ length bytes → ((k : ℕ) → k < 4 → get_or file k 0 ≡ get_or cut_mark k 0) →
    ((k : ℕ) → 4 ≤ k → get_or file k 0 ≡ get_or bytes k 0) → file ≡ cut_of bytes
is_cut_of bytes file enough len front behind = ext_get_or 0 file (cut_of bytes) (len ∙ sym (length-cut bytes enough))
    (λ k low. grind (arith, cut_front, cut_each))

pub cut_put : (bytes old new : List ℕ) → IsDatabase bytes → IsPlain bytes old → ArePut 0 cut_mark old new → new ≡ cut_of bytes
cut_put bytes old new is plain p = grind (arith, common_steps, plain_length bytes old, is_cut_of bytes new, put_front cut_mark old new, put_behind cut_mark old new, plain_each bytes old)

pub uncut_put : (bytes old new : List ℕ) → IsDatabase bytes → old ≡ cut_of bytes → ArePut 0 database_mark old new → new ≡ bytes
uncut_put bytes old new is e p =
    let enough = is.enough in
    let size = plain_length bytes old (omega (arith, enough)) (inr e) in
    ext_get_or 0 new bytes (omega (arith, p.len, size, enough))
    (λ k low. grind (arith, put_front, zero-add, put_behind, plain_each))

-- ---- marking a database

pub marked : (bytes : List ℕ) (u v : World) → Stores (ArePut 0 cut_mark) u v → IsAtRest bytes u → IsMarked bytes v
marked bytes u v s rest = grind (arith, common_steps, stores_all, cut_put, held_all)

pub not_marked : (bytes : List ℕ) (u v : World) → Fails (AreWholeOrNot 0 cut_mark) (IsTorn 0 cut_mark) u v → IsAtRest bytes u → All (IsPlain bytes) v
not_marked bytes u v f rest = grind (arith, common_steps, marks_all, plain_length, cut_put, held_all)

-- ---- removing the mark

uncut_or_not : (bytes x y : List ℕ) → IsDatabase bytes → x ≡ cut_of bytes → AreWholeOrNot 0 database_mark x y → IsPlain bytes y
uncut_or_not bytes x y is e h = grind (arith, uncut_put)

uncut_torn : (bytes x y : List ℕ) → IsDatabase bytes → x ≡ cut_of bytes → IsTorn 0 database_mark x y → IsPlain bytes y
uncut_torn bytes x y is e t = grind (arith, common_steps, uncut_or_not, plain_length)

pub unmarked : (bytes : List ℕ) (u v : World) → WritesWhole 0 database_mark u v → IsMarked bytes u → IsAtRest bytes v
unmarked bytes u v m was = grind (arith, common_steps, uncut_put, uncut_torn)

pub not_unmarked : (bytes : List ℕ) (u v : World) → FailsToWriteWhole 0 database_mark u v → IsMarked bytes u → All (IsPlain bytes) v
not_unmarked bytes u v m was = grind (arith, moves_all, uncut_or_not, uncut_torn)

-- ---- a file with a cut mark

pub cut_under : (bytes file : List ℕ) → IsDatabase bytes → file ≡ cut_of bytes → IsUnderCut bytes file
cut_under bytes file is e = search (arith, plain_length, marked, zero-add, cut_front, plain_each)

-- the bytes of the database stay
pub under_same : (bytes old new : List ℕ) → IsUnderCut bytes old → length bytes ≤ length new → ((k : ℕ) → k < length bytes → get_or new k 0 ≡ get_or old k 0) → IsUnderCut bytes new
under_same bytes old new h long stays = grind arith

-- what follows the database may be anything
pub under_stays : (bytes old new : List ℕ) (at count : ℕ) → IsDatabase bytes → IsUnderCut bytes old → length bytes ≤ at → AreAny at count old new → IsUnderCut bytes new
under_stays bytes old new at count is h behind a = under_same bytes old new h (omega (arith, h.reaches, a.longer)) (λ k low. a.outside k (inl (omega (arith, low, behind))))

pub plain_represents : (bytes file : List ℕ) → IsDatabase bytes → IsPlain bytes file → Represents bytes file
plain_represents bytes file is h = grind (arith, cut_under)
