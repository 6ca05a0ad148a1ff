-- Lemmas on the heads of changes.
use Rattle.rrd_change.proofs.Names.{◌≡◌, ℕ, zero, suc, ◌+◌, ◌-◌, ◌^◌, ◌<◌, ◌≤◌, true, List, [], ◌++◌, length, take, drop, refl, sym, ◌∙◌, ap, subst, arith, append_assoc, Some, None, w64, from_be_bytes, append-nil, length-append, length-drop, length-take, take-append-drop, take_at, drop_at, from_be_bytes-to_be_bytes_8, begins_with, Change, IsRight, body_bytes, change_bytes, change_head, head_bytes, read_change, spelled_pieces, HasPieces, IsHeadOf}
use Rattle.rrd_change.proofs.Fronts.{begins_from, front_of}
use Rattle.rrd_change.proofs.Reading.{IsReadFrom, change_is, change_read, head_body, head_count, head_size, length-head, on_change, pieces_few, pieces_spelled}

length-spelled : (n : ℕ) (xs : List ℕ) → length (spelled_pieces n xs) ≡ n
length-spelled zero xs = refl
length-spelled (suc n) xs = ap (λ k. suc k) (length-spelled n _)

pub read_none : (tail at : ℕ) (bytes : List ℕ) → ((c : Change) → IsReadFrom tail at bytes c → ⊥) → read_change tail at bytes ≡ None
read_none tail at bytes h = grind (arith, on_change (read_change tail at bytes), change_is tail)

-- what the head of a change that is read says
pub record IsSeen (tail at : ℕ) (bytes : List ℕ) (c : Change) : Type 0 where
  pub right : IsRight tail c
  pub enough : 48 + length (body_bytes c) ≤ length bytes
  pub count : from_be_bytes w64 (take 8 (drop 16 bytes)) ≡ length (body_bytes c)
  pub pieces : from_be_bytes w64 (take 8 (drop 24 bytes)) ≡ length c.pieces
  pub size : from_be_bytes w64 (take 8 (drop 32 bytes)) ≡ c.size
  pub body : take (length (body_bytes c)) (drop 48 bytes) ≡ body_bytes c
  pub begins : begins_with bytes (head_bytes tail at (length c.pieces) c.size (body_bytes c)) ≡ true
  pub has : HasPieces (length c.pieces) c.size (body_bytes c)

head_is : (tail at : ℕ) (c : Change) → change_head tail at c ≡ head_bytes tail at (length c.pieces) c.size (body_bytes c)
unfolding change_head
head_is tail at c = refl

pub seen : (tail at : ℕ) (bytes : List ℕ) (c : Change) → IsReadFrom tail at bytes c → IsSeen tail at bytes c
seen tail at bytes c h =
    let right = h.1 in
    let body = body_bytes c in
    let rest = body ++ drop (length (change_bytes tail at c)) bytes in
    let all : bytes ≡ change_head tail at c ++ rest = h.0 ∙ append_assoc (change_head tail at c) body (drop (length (change_bytes tail at c)) bytes) in
    let size : c.size < 2 ^ 64 = omega (arith, right.below, right.fits) in
    let behind : drop 48 bytes ≡ rest = ap (λ xs. drop 48 xs) all ∙ drop_at (change_head tail at c) rest 48 (length-head tail at c) in
    let own : spelled_pieces (length c.pieces) body ≡ c.pieces = ap (λ xs. spelled_pieces (length c.pieces) xs) (sym (append-nil body)) ∙ pieces_spelled c.size c.pieces [] size right.pieces in
    record {
      right = right;
      enough = omega (arith, ap length all, length-append (change_head tail at c) rest, length-append body (drop (length (change_bytes tail at c)) bytes), length-head tail at c);
      count = ap (λ xs. from_be_bytes w64 (take 8 (drop 16 xs))) all ∙ ap (λ xs. from_be_bytes w64 xs) (head_body tail at c rest) ∙ from_be_bytes-to_be_bytes_8 (length body) right.body_fits;
      pieces = grind (arith, head_count, from_be_bytes-to_be_bytes_8, pieces_few);
      size = ap (λ xs. from_be_bytes w64 (take 8 (drop 32 xs))) all ∙ ap (λ xs. from_be_bytes w64 xs) (head_size tail at c rest) ∙ from_be_bytes-to_be_bytes_8 c.size size;
      body = ap (λ xs. take (length body) xs) behind ∙ take_at body (drop (length (change_bytes tail at c)) bytes) (length body) refl;
      begins = begins_from bytes (head_bytes tail at (length c.pieces) c.size body) rest (all ∙ ap (λ xs. xs ++ rest) (head_is tail at c));
      has = grind arith;
    }

-- a head with the right numbers and checksum, and the pieces that it says, are a change
pub read_some : (tail at n size count : ℕ) (bytes : List ℕ) → tail < 2 ^ 64 → count < 2 ^ 64 → 16 ≤ size → size ≤ tail → 48 + count ≤ length bytes →
    begins_with bytes (head_bytes tail at n size (take count (drop 48 bytes))) ≡ true → HasPieces n size (take count (drop 48 bytes)) → length (take count (drop 48 bytes)) ≡ count →
    read_change tail at bytes ≡ Some (record { size = size; pieces = spelled_pieces n (take count (drop 48 bytes)) })
read_some tail at n size count bytes fits few enough below within begins has len =
    let body = take count (drop 48 bytes) in
    let c : Change = record { size = size; pieces = spelled_pieces n body } in
    let is : body ≡ body_bytes c = has.spelled in
    let rest = drop count (drop 48 bytes) in
    let number : length c.pieces ≡ n = length-spelled n body in
    let head : head_bytes tail at n size body ≡ change_head tail at c =
    ap (λ m. head_bytes tail at m size body) (sym number) ∙ ap (λ xs. head_bytes tail at (length c.pieces) size xs) is ∙ sym (head_is tail at c) in
    let front = front_of bytes (head_bytes tail at n size body) begins in
    let own : length (head_bytes tail at n size body) ≡ 48 = ap length head ∙ length-head tail at c in
    let all : bytes ≡ change_bytes tail at c ++ rest =
    front ∙ ap (λ k. head_bytes tail at n size body ++ drop k bytes) own ∙ ap (λ xs. xs ++ drop 48 bytes) head
    ∙ ap (λ xs. change_head tail at c ++ xs) (sym (take-append-drop count (drop 48 bytes)) ∙ ap (λ xs. xs ++ rest) is) ∙ sym (append_assoc (change_head tail at c) (body_bytes c) rest) in
    ap (λ xs. read_change tail at xs) all ∙ change_read tail at c rest (record {
      fits = fits;
      body_fits = omega (arith, ap length is, len, few);
      enough = enough;
      below = below;
      pieces = has.within;
    })

-- the tests of a head and its pieces
pub record IsTried (tail at n size count : ℕ) (bytes : List ℕ) : Type 0 where
  pub begins : begins_with bytes (head_bytes tail at n size (take (48 + count - 48) (drop 48 bytes))) ≡ true
  pub has : HasPieces n size (take (48 + count - 48) (drop 48 bytes))

pub tried : (tail at n size count : ℕ) (bytes : List ℕ) (c : Change) → IsSeen tail at bytes c → count ≡ from_be_bytes w64 (take 8 (drop 16 bytes)) → n ≡ from_be_bytes w64 (take 8 (drop 24 bytes)) →
    size ≡ from_be_bytes w64 (take 8 (drop 32 bytes)) → IsTried tail at n size count bytes
tried tail at n size count bytes c s count_is n_is size_is =
    let width : 48 + count - 48 ≡ length (body_bytes c) = omega (arith, count_is, s.count) in
    let body : take (48 + count - 48) (drop 48 bytes) ≡ body_bytes c = ap (λ k. take k (drop 48 bytes)) width ∙ s.body in
    let number : n ≡ length c.pieces = n_is ∙ s.pieces in
    let long : size ≡ c.size = size_is ∙ s.size in
    record {
      begins = ap (λ ys. begins_with bytes (head_bytes tail at n size ys)) body ∙ ap (λ m. begins_with bytes (head_bytes tail at m size (body_bytes c))) number
          ∙ ap (λ m. begins_with bytes (head_bytes tail at (length c.pieces) m (body_bytes c))) long ∙ s.begins;
      has = subst (HasPieces n size) (sym body) (subst (λ (m : ℕ). HasPieces n m (body_bytes c)) (sym long) (subst (λ (m : ℕ). HasPieces m c.size (body_bytes c)) (sym number) s.has));
    }

-- what was found is a change with this head
pub found : (tail at n size count : ℕ) (bytes : List ℕ) → tail < 2 ^ 64 → count < 2 ^ 64 → 16 ≤ size → size ≤ tail → 48 + count ≤ length bytes → IsTried tail at n size count bytes →
    (c : Change) × (read_change tail at bytes ≡ Some c) × IsHeadOf (record { length = count; pieces = n; size = size }) c bytes
found tail at n size count bytes fits few enough below within t =
    let width : 48 + count - 48 ≡ count = omega arith in
    let body = take count (drop 48 bytes) in
    let size_is : length body ≡ count = omega (arith, length-take count (drop 48 bytes), length-drop 48 bytes, within) in
    let has : HasPieces n size body = subst (λ (m : ℕ). HasPieces n size (take m (drop 48 bytes))) width t.has in
    let begins = ap (λ m. begins_with bytes (head_bytes tail at n size (take m (drop 48 bytes)))) (sym width) ∙ t.begins in
    let c : Change = record { size = size; pieces = spelled_pieces n body } in (
      c,
      read_some tail at n size count bytes fits few enough below within begins has size_is,
      record {
        size = refl;
        within = within;
        count = sym size_is ∙ ap length has.spelled;
        pieces = ap (λ m. spelled_pieces n (take m (drop 48 bytes))) width;
        has = t.has;
      },
    )
