-- Lemmas on the pieces and the change that bytes spell.
use Rattle.rrd_change.proofs.Names.{common_steps, ◌≡◌, ℕ, suc, ◌+◌, ◌-◌, ◌^◌, ◌<◌, ◌≤◌, List, ◌∷◌, ◌++◌, length, take, drop, get_or, refl, sym, ◌∙◌, ap, subst, arith, nat_le, w64, to_be_bytes, from_be_bytes, slice_range, flat_map, and_parts, leb-true, get_or_past, length-append, length-take, length-drop, take-append-drop, drop-drop, get_or-take, get_or-drop, drop_at, be_bytes_8, from_be_bytes-to_be_bytes_8, Piece, are_within, piece_bytes, spelled_pieces, HasPieces}
use Rattle.rrd_change.proofs.Reading.{piece_count}

-- the numbers with which bytes begin, as those of a piece
abbrev pub first_start : List ℕ → ℕ
first_start xs = from_be_bytes w64 (slice_range xs 0 8)

abbrev pub first_count : List ℕ → ℕ
first_count xs = from_be_bytes w64 (slice_range xs 8 16)

abbrev pub first_piece : List ℕ → Piece
first_piece xs = record { start = first_start xs; bytes = slice_range xs 16 (16 + first_count xs) }

length-piece_bytes : (p : Piece) → length (piece_bytes p) ≡ 16 + length p.bytes
length-piece_bytes p = omega arith

length-first_piece : (xs : List ℕ) → 16 + first_count xs ≤ length xs → length (first_piece xs).bytes ≡ first_count xs
length-first_piece xs few = omega (arith, length-take (16 + first_count xs - 16) (drop 16 xs), length-drop 16 xs, few)

-- ---- one piece, and more of them

pub record IsOneMore (m end : ℕ) (xs : List ℕ) : Type 0 where
  pub head : 16 ≤ length xs
  pub within : 16 + first_count xs ≤ length xs
  pub below : first_start xs + first_count xs ≤ end
  pub rest : HasPieces m end (drop (16 + first_count xs) xs)

pub more_head : (m end : ℕ) (xs : List ℕ) → HasPieces (suc m) end xs → 16 ≤ length xs
more_head m end xs h = grind (arith, length-append, length-piece_bytes)

pub more_from : (m end : ℕ) (xs : List ℕ) → first_count xs < 2 ^ 64 → HasPieces (suc m) end xs → IsOneMore m end xs
more_from m end xs fits h =
    let p = first_piece xs in
    let ps = spelled_pieces m (drop (16 + first_count xs) xs) in
    let more = flat_map piece_bytes ps in
    let all : length xs ≡ 16 + length p.bytes + length more = omega (arith, ap length h.spelled, length-append (piece_bytes p) more, length-piece_bytes p) in
    let count : first_count xs ≡ length p.bytes =
    ap (λ ys. from_be_bytes w64 (slice_range ys 8 16)) h.spelled ∙ ap (λ ys. from_be_bytes w64 ys) (piece_count p more) ∙ from_be_bytes-to_be_bytes_8 (length p.bytes) (omega (arith, fits, length-take (16 + first_count xs - 16) (drop 16 xs))) in
    let both = and_parts (nat_le (p.start + length p.bytes) end) (are_within end ps) h.within in
    record {
      head = omega (arith, all);
      within = omega (arith, all, count);
      below = omega (arith, leb-true (p.start + length p.bytes) end both.0, count);
      rest = record {
        spelled = ap (λ ys. drop (16 + first_count xs) ys) h.spelled ∙ drop_at (piece_bytes p) more (16 + first_count xs) (omega (arith, length-piece_bytes p, count));
        within = both.1;
      };
    }

small_part : (xs : List ℕ) (from n i : ℕ) → ((k : ℕ) → get_or xs k 0 < 256) → get_or (take n (drop from xs)) i 0 < 256
small_part xs from n i small = grind (arith, get_or-take, get_or-drop, get_or_past, length-take)

number_spelled : (xs : List ℕ) (from : ℕ) → ((i : ℕ) → get_or xs i 0 < 256) → from + 8 ≤ length xs → to_be_bytes w64 (from_be_bytes w64 (take 8 (drop from xs))) ≡ take 8 (drop from xs)
number_spelled xs from small few = be_bytes_8 (take 8 (drop from xs)) (from_be_bytes w64 (take 8 (drop from xs))) (omega (arith, length-take 8 (drop from xs), length-drop from xs, few))
    (λ i. small_part xs from 8 i small) refl

pub more_to : (m end : ℕ) (xs : List ℕ) → ((i : ℕ) → get_or xs i 0 < 256) → IsOneMore m end xs → HasPieces (suc m) end xs
more_to m end xs small h =
    let p = first_piece xs in
    let n = first_count xs in
    let rest = drop (16 + n) xs in
    let head = h.head in
    let own = length-first_piece xs h.within in
    let start : to_be_bytes w64 p.start ≡ take 8 xs = number_spelled xs 0 small (omega (arith, head)) in
    let count : to_be_bytes w64 (length p.bytes) ≡ take 8 (drop 8 xs) = ap (λ k. to_be_bytes w64 k) own ∙ number_spelled xs 8 small head in
    let size : 16 + n - 16 ≡ n = omega arith in
    let body : p.bytes ≡ take n (drop 16 xs) = ap (λ k. take k (drop 16 xs)) size in
    let third : drop 16 xs ≡ p.bytes ++ rest =
    sym (take-append-drop n (drop 16 xs)) ∙ ap (λ ys. ys ++ drop n (drop 16 xs)) (sym body) ∙ ap (λ ys. p.bytes ++ ys) (drop-drop n 16 xs) in grind arith

pub none_from : (end : ℕ) (xs : List ℕ) → HasPieces 0 end xs → length xs ≡ 0
none_from end xs h = ap length h.spelled

-- ---- within more bytes

pub second_at : (bytes : List ℕ) (at : ℕ) → from_be_bytes w64 (take 8 (drop (at + 8) bytes)) ≡ first_count (drop at bytes)
second_at bytes at = ap (λ xs. from_be_bytes w64 (take 8 xs)) (sym (drop-drop 8 at bytes))

pub behind_at : (bytes : List ℕ) (at n m : ℕ) → n ≡ m → drop (at + (16 + n)) bytes ≡ drop (16 + m) (drop at bytes)
behind_at bytes at n m e = ap (λ k. drop (at + (16 + k)) bytes) e ∙ sym (drop-drop (16 + m) at bytes)

pub left_more : (count i : ℕ) → i < count → count - i ≡ suc (count - (i + 1))
left_more count i low = omega (arith, low)

pub small_at : (xs : List ℕ) (from i : ℕ) → ((k : ℕ) → get_or xs k 0 < 256) → get_or (drop from xs) i 0 < 256
small_at xs from i small = let e = get_or-drop from xs i 0 in omega (arith, e, small (from + i))

-- the next piece of those that are left
pub record IsNextPiece (bytes : List ℕ) (at left size start n : ℕ) : Type 0 where
  pub within : at + (16 + n) ≤ length bytes
  pub below : start + n ≤ size
  pub rest : HasPieces left size (drop (at + (16 + n)) bytes)
  pub split : spelled_pieces (suc left) (drop at bytes) ≡ record { start = start; bytes = take n (drop (at + 16) bytes) } ∷ spelled_pieces left (drop (at + (16 + n)) bytes)

pub left_head : (bytes : List ℕ) (at count i size : ℕ) → i < count → HasPieces (count - i) size (drop at bytes) → at + 16 ≤ length bytes
left_head bytes at count i size low h =
    let head = more_head (count - (i + 1)) size (drop at bytes) (subst (λ (m : ℕ). HasPieces m size (drop at bytes)) (left_more count i low) h) in
    omega (arith, head, length-drop at bytes)

pub next_piece : (bytes : List ℕ) (at count i size start n : ℕ) → i < count → start ≡ from_be_bytes w64 (take 8 (drop at bytes)) → n ≡ from_be_bytes w64 (take 8 (drop (at + 8) bytes)) → n < 2 ^ 64 →
    HasPieces (count - i) size (drop at bytes) → IsNextPiece bytes at (count - (i + 1)) size start n
next_piece bytes at count i size start n low is_start is_n fits h =
    let left = count - (i + 1) in
    let xs = drop at bytes in
    let count_is : n ≡ first_count xs = is_n ∙ second_at bytes at in
    let more = more_from left size xs (omega (arith, fits, count_is)) (subst (λ (m : ℕ). HasPieces m size xs) (left_more count i low) h) in
    let same : drop (at + (16 + n)) bytes ≡ drop (16 + first_count xs) xs = behind_at bytes at n (first_count xs) count_is in
    let sixteen : 16 + n - 16 ≡ n = omega arith in
    let body : slice_range xs 16 (16 + first_count xs) ≡ take n (drop (at + 16) bytes) =
    ap (λ k. take (16 + k - 16) (drop 16 xs)) (sym count_is) ∙ ap (λ k. take k (drop 16 xs)) sixteen ∙ ap (λ ys. take n ys) (drop-drop 16 at bytes) in
    grind (arith, common_steps)

-- a piece before those that follow it
pub piece_before : (bytes : List ℕ) (at count i size start n : ℕ) → i < count → start ≡ from_be_bytes w64 (take 8 (drop at bytes)) → n ≡ from_be_bytes w64 (take 8 (drop (at + 8) bytes)) →
    ((k : ℕ) → get_or bytes k 0 < 256) → at + (16 + n) ≤ length bytes → start + n ≤ size → HasPieces (count - (i + 1)) size (drop (at + (16 + n)) bytes) → HasPieces (count - i) size (drop at bytes)
piece_before bytes at count i size start n low is_start is_n small within below h =
    let left = count - (i + 1) in
    let xs = drop at bytes in
    let count_is : n ≡ first_count xs = is_n ∙ second_at bytes at in
    subst (λ (m : ℕ). HasPieces m size xs) (sym (left_more count i low)) (more_to left size xs (λ k. small_at bytes at k small) (record {
      head = omega (arith, within, length-drop at bytes);
      within = omega (arith, within, length-drop at bytes, count_is);
      below = omega (arith, below, count_is, is_start);
      rest = subst (HasPieces left size) (behind_at bytes at n (first_count xs) count_is) h;
    }))
