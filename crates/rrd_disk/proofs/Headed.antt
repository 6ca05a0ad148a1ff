-- What the head of a log says of a file with a log mark.
use Rattle.rrd_disk.proofs.Names.{◌≡◌, ◌∙◌, ◌++◌, ◌+◌, ◌-◌, ◌<◌, ◌≤◌, [], ◌∷◌, ℕ, List, length, drop, take, slice_index, nat_eq, false, true, refl, sym, ap, subst, inl, inr, arith, lit<, get_or-take, w64, to_be_bytes, from_be_bytes, eq-eqb, false≢true, same_number_lists, take_all, from_be_bytes-to_be_bytes_8, StandsAt, begins_with, AreAt, Change, body_bytes, change_bytes, first_of, log_mark, IsLogFor, Represents, front_of, change_stands, length-change, standing_begins, IsAnyFile, StandFor, Laws}
use Rattle.std.proofs.lemmas.List.{length-drop}
use Rattle.rrd_change.specs.Changes.{change_head}
use Rattle.rrd_disk.proofs.Storing.{any_database}

abbrev pub log_word : List ℕ
log_word = 82 ∷ 82 ∷ 68 ∷ 76 ∷ 111 ∷ 103 ∷ 0 ∷ 0 ∷ []

-- a file whose fourth byte is that of a log mark, and that a change has left
log_of : Laws → (now file : List ℕ) → IsAnyFile now → slice_index file 3 ≡ 76 → Represents now file → IsLogFor now file
log_of laws now file any fourth (inl same) =
    let other : slice_index now 3 ≡ 73 = (any_database laws now any).begins.each 3 (lit< tt) in
    absurd (omega (arith, fourth, ap (λ (xs : List ℕ). slice_index xs 3) same, other))
log_of laws now file any fourth (inr (inl under)) = let other : slice_index file 3 ≡ 67 = under.marked.each 3 (lit< tt) in absurd (omega (arith, fourth, other))
log_of laws now file any fourth (inr (inr log)) = log

fourth_of : (file first : List ℕ) → first ≡ take 16 file → begins_with first log_word ≡ true → slice_index file 3 ≡ 76
fourth_of file first is begins = grind (arith, front_of first log_word begins)

-- the offset that the mark says
log_front : (now file : List ℕ) (h : IsLogFor now file) → take 16 file ≡ log_mark h.tail
log_front now file h = ap (take 16) (front_of file (log_mark h.tail) (standing_begins file (log_mark h.tail) h.logged.log.marked))

log_offset : (now file first : List ℕ) (h : IsLogFor now file) → first ≡ take 16 file → from_be_bytes w64 (drop 8 first) ≡ h.tail
log_offset now file first h is = ap (λ (xs : List ℕ). from_be_bytes w64 (drop 8 xs)) (is ∙ log_front now file h) ∙ from_be_bytes-to_be_bytes_8 h.tail h.logged.log.fits

-- the first change stands there
first_stands : (now file : List ℕ) (h : IsLogFor now file) → StandsAt file h.tail (change_bytes h.tail h.tail (first_of h.old))
first_stands now file h = (change_stands h.tail h.tail (first_of h.old) file h.logged.log.chain.0).0

first_length : (now file : List ℕ) (h : IsLogFor now file) → h.tail + 48 ≤ length file
first_length now file h = omega (arith, (first_stands now file h).within, length-change h.tail h.tail (first_of h.old))

head_offset : (tail at : ℕ) (c : Change) (xs : List ℕ) → take 8 (change_head tail at c ++ xs) ≡ to_be_bytes w64 at
unfolding change_head
head_offset tail at c xs = refl

head_is : (now file head : List ℕ) (h : IsLogFor now file) → AreAt file h.tail 8 head → head ≡ to_be_bytes w64 h.tail
head_is now file head h are = same_number_lists head (to_be_bytes w64 h.tail) are.len (λ k low.
    let bytes = change_bytes h.tail h.tail (first_of h.old) in
    let below : k < 8 = omega (arith, low, are.len) in
    are.each k below ∙ (first_stands now file h).each k (omega (arith, below, length-change h.tail h.tail (first_of h.old)))
    ∙ sym (get_or-take 8 bytes k 0 below) ∙ ap (λ (xs : List ℕ). slice_index xs k) (head_offset h.tail h.tail (first_of h.old) (body_bytes (first_of h.old))))

module _ (laws : Laws) (file first now : List ℕ) (is : first ≡ take 16 file) (begins : begins_with first log_word ≡ true) (stand : StandFor now file) where
  log : IsLogFor now file
  log = log_of laws now file stand.is (fourth_of file first is begins) stand.represents

  -- the file would end before the log
  pub log_past : (tail : ℕ) → tail ≡ from_be_bytes w64 (drop 8 first) → length file < tail + 8 → ⊥
  log_past tail offset past = absurd (omega (arith, offset, log_offset now file first log is, first_length now file log, past))

  -- another number is there
  pub log_other : (tail : ℕ) (head : List ℕ) → tail ≡ from_be_bytes w64 (drop 8 first) → AreAt file tail 8 head → from_be_bytes w64 head ≡ tail
  log_other tail head offset are =
      let same : tail ≡ log.tail = offset ∙ log_offset now file first log is in
      ap (from_be_bytes w64) (head_is now file head log (subst (λ (n : ℕ). AreAt file n 8 head) same are)) ∙ from_be_bytes-to_be_bytes_8 log.tail log.logged.log.fits ∙ sym same

pub not_equal : (a b : ℕ) → nat_eq a b ≡ false → a ≡ b → ⊥
not_equal a b not same = false≢true (sym not ∙ eq-eqb a b same)

-- the bytes from the ninth on
pub rest_of : (first : List ℕ) → take (length first - 8) (drop 8 first) ≡ drop 8 first
rest_of first = take_all (length first - 8) (drop 8 first) (omega (arith, length-drop 8 first))
