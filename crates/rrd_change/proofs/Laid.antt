-- Lemmas on laying the changes of a log over a database, one after another.
use Rattle.rrd_change.proofs.Names.{common_steps, ◌≡◌, ◌⊎◌, ℕ, suc, ◌+◌, ◌-◌, ◌*◌, ◌≤◌, List, [], ◌∷◌, ◌++◌, length, take, drop, get_or, sym, ◌∙◌, ap, subst, arith, inl, inr, Some, None, put_mid, cases_lt, length-append, length-take, get_or-take, get_or-drop, get_or_append_left, get_or-append_right, drop-drop, take_rest, drop-append-add, Change, Piece, all_changed, body_bytes, change_at, change_size, changes_from, changes_in, laid, last_size, read_change, spelled_pieces, HaveByte, TouchByte, chain_end, HasPieces, IsHeadOf, IsLaid, IsLogRead, spans_of, IsIn, Head, Log, Span}
use Rattle.rrd_change.proofs.Chains.{from_some, none_left}
use Rattle.rrd_change.proofs.Placing.{in_join, in_left, in_right}
use Rattle.rrd_change.proofs.Reading.{change_is}
use Rattle.rrd_change.proofs.Laying.{inside_is, not_inside}

-- a piece is written
pub laid_mid : (p : Piece) (n k : ℕ) (xs : List ℕ) → p.start + n ≤ length xs → length p.bytes ≡ n → get_or (put_mid p.start n xs p.bytes) k 0 ≡ laid p k (get_or xs k 0)
laid_mid p n k xs few size = grind (arith, common_steps, length-take, cases_lt, get_or_append_left, get_or-take, not_inside, get_or-append_right, inside_is, drop-drop, get_or-drop)

-- ---- spans and pieces

pub in_spans : (k : ℕ) (ps : List Piece) → HaveByte k ps → IsIn k (spans_of ps)
in_spans k [] h = h
in_spans k (p ∷ ps) (inl h) = inl h
in_spans k (p ∷ ps) (inr h) = inr (in_spans k ps h)

pub spans_in : (k : ℕ) (ps : List Piece) → IsIn k (spans_of ps) → HaveByte k ps
spans_in k [] h = h
spans_in k (p ∷ ps) (inl h) = inl h
spans_in k (p ∷ ps) (inr h) = inr (spans_in k ps h)

-- ---- the changes that are left

abbrev pub changes_left : List ℕ → List ℕ → ℕ → ℕ → List Change
changes_left old bytes done changes = changes_from (length old) (old ++ bytes) (length (old ++ bytes) - changes) (length old + done)

-- some changes of a log are laid over a database: those that are left, over it, make what all make of the old one
pub record IsPartRead (old bytes new : List ℕ) (spans : List Span) (done changes size : ℕ) : Type 0 where
  pub few : done ≤ length bytes
  pub count : 48 * changes ≤ done
  pub len : length new ≡ length old
  pub fits : size ≤ length old
  pub number : changes + length (changes_left old bytes done changes) ≡ length (changes_in (length old) (old ++ bytes))
  pub each : (k : ℕ) → all_changed (changes_left old bytes done changes) k (get_or new k 0) ≡ all_changed (changes_in (length old) (old ++ bytes)) k (get_or old k 0)
  pub last : last_size size (changes_left old bytes done changes) ≡ last_size 0 (changes_in (length old) (old ++ bytes))
  pub end : chain_end (length old + done) (changes_left old bytes done changes) ≡ chain_end (length old) (changes_in (length old) (old ++ bytes))
  pub touched : (k : ℕ) → TouchByte k (changes_in (length old) (old ++ bytes)) → IsIn k spans ⊎ TouchByte k (changes_left old bytes done changes)
  pub only : (k : ℕ) → IsIn k spans ⊎ TouchByte k (changes_left old bytes done changes) → TouchByte k (changes_in (length old) (old ++ bytes))

pub left_at : (old bytes : List ℕ) (done : ℕ) → change_at (length old) (old ++ bytes) (length old + done) ≡ read_change (length old) (length old + done) (drop done bytes)
left_at old bytes done = ap (λ xs. read_change (length old) (length old + done) xs) (drop-append-add old bytes done)

-- one more change
pub one_laid : (old bytes new next : List ℕ) (spans more : List Span) (done changes size : ℕ) (c : Change) → IsPartRead old bytes new spans done changes size →
    read_change (length old) (length old + done) (drop done bytes) ≡ Some c → done + 48 + length (body_bytes c) ≤ length bytes → c.size ≤ length old → IsLaid c new next → more ≡ spans ++ spans_of c.pieces →
    IsPartRead old bytes next more (done + 48 + length (body_bytes c)) (changes + 1) c.size
one_laid old bytes new next spans more done changes size c h is within below laid more_is =
    let file = old ++ bytes in
    let tail = length old in
    let few = h.few in
    let count = h.count in
    let all = length-append old bytes in
    let fuel : length file - changes ≡ suc (length file - (changes + 1)) = omega (arith, all, few, count, within) in
    let step : (most : ℕ) → changes_from tail file (suc most) (tail + done) ≡ c ∷ changes_from tail file most (tail + done + change_size c) = grind (arith, from_some, left_at) in
    let rest = changes_left old bytes (done + 48 + length (body_bytes c)) (changes + 1) in
    let here : tail + done + change_size c ≡ tail + (done + 48 + length (body_bytes c)) = omega arith in
    let split : changes_left old bytes done changes ≡ c ∷ rest = grind arith in
    record {
      few = omega (arith, within);
      count = omega (arith, count);
      len = laid.len ∙ h.len;
      fits = below;
      number = omega (arith, h.number, ap length split);
      each = λ k. ap (λ b. all_changed rest k b) (laid.each k) ∙ ap (λ cs. all_changed cs k (get_or new k 0)) (sym split) ∙ h.each k;
      last = ap (λ cs. last_size size cs) (sym split) ∙ h.last;
      end = ap (λ n. chain_end n rest) (sym here) ∙ ap (λ cs. chain_end (tail + done) cs) (sym split) ∙ h.end;
      touched = λ k t. let P : List Span → Type 0 = λ xs. IsIn k xs in let Q : List Change → Type 0 = λ cs. TouchByte k cs in elim (h.touched k t) [
        | inl was ↦ inl (subst P (sym more_is) (in_left k spans (spans_of c.pieces) was))
        | inr left ↦ grind (arith, in_right, in_spans)
      ];
      only = λ k either. let P : List Span → Type 0 = λ xs. IsIn k xs in let Q : List Change → Type 0 = λ cs. TouchByte k cs in elim either [
        | inl is_in ↦ elim (in_join k spans (spans_of c.pieces) (subst P more_is is_in)) [
          | inl was ↦ h.only k (inl was)
          | inr own ↦ h.only k (inr (subst Q (sym split) (inl (spans_in k c.pieces own))))
        ]
        | inr later ↦ h.only k (inr (subst Q (sym split) (inr later)))
      ];
    }

pub all_laid_over : (old bytes new : List ℕ) (log : Log) (done changes size : ℕ) → IsPartRead old bytes new log.spans.items done changes size →
    read_change (length old) (length old + done) (drop done bytes) ≡ None → log.tail ≡ length old → log.end ≡ length old + done → log.changes ≡ changes - 1 → IsLogRead old bytes new log size
all_laid_over old bytes new log done changes size h none tail_is end_is count_is =
    let rest : changes_left old bytes done changes ≡ [] = none_left (length old) (old ++ bytes) (length (old ++ bytes) - changes) (length old + done) (left_at old bytes done ∙ none) in
    record {
      tail = tail_is;
      len = h.len;
      fits = h.fits;
      count = omega (arith, count_is, h.number, ap length rest);
      each = λ k. ap (λ cs. all_changed cs k (get_or new k 0)) (sym rest) ∙ h.each k;
      last = ap (λ cs. last_size size cs) (sym rest) ∙ h.last;
      end = end_is ∙ ap (λ cs. chain_end (length old + done) cs) (sym rest) ∙ h.end;
      touched = λ k t. elim (h.touched k t) [
        | inl was ↦ was
        | inr left ↦ let Q : List Change → Type 0 = λ cs. TouchByte k cs in absurd (subst Q rest left)
      ];
      only = λ k is_in. h.only k (inl is_in);
    }

-- ---- the next change, in the terms of the code

pub record IsHeadAt (old bytes : List ℕ) (done : ℕ) (h : Head) : Type 0 where
  pub change : Change
  pub read : read_change (length old) (length old + done) (drop done bytes) ≡ Some change
  pub size : h.size ≡ change.size
  pub below : h.size ≤ length old
  pub count : h.length ≡ length (body_bytes change)
  pub within : done + 48 + h.length ≤ length bytes
  pub has : HasPieces h.pieces h.size (take (done + 48 + h.length - (done + 48)) (drop (done + 48) bytes))
  pub pieces : spelled_pieces h.pieces (take (done + 48 + h.length - (done + 48)) (drop (done + 48) bytes)) ≡ change.pieces

pub head_at : (old bytes : List ℕ) (done : ℕ) (h : Head) → done ≤ length bytes →
    (c : Change) × (read_change (length old) (length old + done) (take (length bytes - done) (drop done bytes)) ≡ Some c) × IsHeadOf h c (take (length bytes - done) (drop done bytes)) →
    IsHeadAt old bytes done h
head_at old bytes done h few (c, read, is) =
    let rest : take (length bytes - done) (drop done bytes) ≡ drop done bytes = take_rest bytes done in
    let here : IsHeadOf h c (drop done bytes) = subst (IsHeadOf h c) rest is in
    let read_here : read_change (length old) (length old + done) (drop done bytes) ≡ Some c = ap (λ xs. read_change (length old) (length old + done) xs) (sym rest) ∙ read in
    let right = (change_is (length old) (length old + done) (drop done bytes) c read_here).1 in
    let width : 48 + h.length - 48 ≡ done + 48 + h.length - (done + 48) = omega arith in
    let same : take (48 + h.length - 48) (drop 48 (drop done bytes)) ≡ take (done + 48 + h.length - (done + 48)) (drop (done + 48) bytes) =
    ap (λ n. take n (drop 48 (drop done bytes))) width ∙ ap (λ xs. take (done + 48 + h.length - (done + 48)) xs) (drop-drop 48 done bytes) in
    grind (arith, common_steps)

pub head_laid : (old bytes new next : List ℕ) (spans more : List Span) (done changes size : ℕ) (h : Head) → IsPartRead old bytes new spans done changes size → IsHeadAt old bytes done h →
    IsLaid (record { size = h.size; pieces = spelled_pieces h.pieces (take (done + 48 + h.length - (done + 48)) (drop (done + 48) bytes)) }) new next →
    more ≡ spans ++ spans_of (spelled_pieces h.pieces (take (done + 48 + h.length - (done + 48)) (drop (done + 48) bytes))) →
    IsPartRead old bytes next more (done + 48 + h.length) (changes + 1) h.size
head_laid old bytes new next spans more done changes size h part at laid more_is = grind (arith, common_steps, one_laid old bytes new next spans more done changes size)

pub none_at : (old bytes : List ℕ) (done : ℕ) → read_change (length old) (length old + done) (take (length bytes - done) (drop done bytes)) ≡ None →
    read_change (length old) (length old + done) (drop done bytes) ≡ None
none_at old bytes done e = ap (λ xs. read_change (length old) (length old + done) xs) (sym (take_rest bytes done)) ∙ e
