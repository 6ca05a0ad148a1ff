-- The steps of finding the end of a database.
use Rattle.std.specs.Prelude.{◌≡◌, ◌+◌, ◌-◌, ◌^◌, ◌<◌, ◌≤◌, ◌++◌, ◌∷◌, [], ℕ, suc, List, length, drop, ◌≢◌, ◌==◌, if◌then◌else◌}
use Rattle.rrd_file.proofs.Names.{◌∙◌, ap, sym, get_or, arith, nat_tests, from_be_bytes-to_be_bytes_2, from_be_bytes-to_be_bytes_4, Version, One, Two, after_all_saved, after_cells, after_database, after_entries, after_rows, after_tag, after_version, archives_before, by_tag, four_in, head_size, parts_size, rows_size, two_in, four_bytes, two_bytes, Tag, AnUpdate, ATune, AResize, AnAddition, ARemoval, tag_byte, version_number}

-- ---- numbers

pub two_first : (n : ℕ) (x : List ℕ) → n < 2 ^ 16 → two_in (two_bytes n ++ x) ≡ n
unfolding two_in
two_first n x small = from_be_bytes-to_be_bytes_2 n small

pub four_first : (n : ℕ) (x : List ℕ) → n < 2 ^ 32 → four_in (four_bytes n ++ x) ≡ n
unfolding four_in
four_first n x small = from_be_bytes-to_be_bytes_4 n small

pub no_two : (bytes : List ℕ) → length bytes < 2 → two_in bytes ≡ 0
unfolding two_in
no_two x few = grind arith

pub no_four : (bytes : List ℕ) → length bytes < 4 → four_in bytes ≡ 0
unfolding four_in
no_four x few = grind arith

-- ---- turns

-- what is left after `i` of `count` turns
left_more : (count i : ℕ) → i < count → count - i ≡ suc (count - (i + 1))
left_more count i h = omega arith

left_none : (count i : ℕ) → count ≤ i → count - i ≡ 0
left_none count i h = omega arith

pub cells_more : (n m i : ℕ) (heads cells : List ℕ) → i < m
    → after_cells n (m - (i + 1)) (drop (head_size n) heads) (drop (rows_size n (four_in (drop 9 heads))) cells) ≡ after_cells n (m - i) heads cells
unfolding after_cells
cells_more n m i heads cells h = ap (λ k. after_cells n k heads cells) (sym (left_more m i h))

pub cells_done : (n m i : ℕ) (heads cells : List ℕ) → m ≤ i → after_cells n (m - i) heads cells ≡ cells
unfolding after_cells
cells_done n m i heads cells h = ap (λ k. after_cells n k heads cells) (left_none m i h)

pub saved_more : (n m i : ℕ) (bytes : List ℕ) → i < m → after_all_saved n (m - (i + 1)) (after_rows n (parts_size n) 0 bytes) ≡ after_all_saved n (m - i) bytes
unfolding after_all_saved
saved_more n m i bytes h = ap (λ k. after_all_saved n k bytes) (sym (left_more m i h))

pub saved_done : (n m i : ℕ) (bytes : List ℕ) → m ≤ i → after_all_saved n (m - i) bytes ≡ bytes
unfolding after_all_saved
saved_done n m i bytes h = ap (λ k. after_all_saved n k bytes) (left_none m i h)

-- ---- entries

pub by_right_tag : (t : Tag) (byte : ℕ) (after : Tag → List ℕ) → tag_byte t ≡ byte → by_tag byte after ≡ after t
by_right_tag x byte after e = grind arith

other : (byte number : ℕ) (x y : List ℕ) → number ≢ byte → (if byte == number then x else y) ≡ y
other byte number x y h = grind (arith, nat_tests)

pub by_no_tag : (byte : ℕ) (after : Tag → List ℕ) → ((t : Tag) → tag_byte t ≢ byte) → by_tag byte after ≡ []
by_no_tag byte after none =
    other byte 1 (after AnUpdate) _ (none AnUpdate) ∙ other byte 2 (after ATune) _ (none ATune) ∙ other byte 3 (after AResize) _ (none AResize)
    ∙ other byte 4 (after AnAddition) _ (none AnAddition) ∙ other byte 5 (after ARemoval) [] (none ARemoval)

-- the first byte is an entry's tag
pub entries_more : (n m k i : ℕ) (t : Tag) (bytes : List ℕ) → i < k → 0 < length bytes → tag_byte t ≡ get_or bytes 0 0
    → after_entries n (archives_before m t) (k - (i + 1)) (after_tag n m t (drop 1 bytes)) ≡ after_entries n m (k - i) bytes
unfolding after_entries
entries_more n m k i t bytes h some e = grind (arith, by_right_tag, left_more)

-- it is none
pub entries_bad : (n m k i : ℕ) (bytes : List ℕ) → i < k → 0 < length bytes → ((t : Tag) → tag_byte t ≢ get_or bytes 0 0) → after_entries n m (k - i) bytes ≡ []
unfolding after_entries
entries_bad n m k i [] h some none = absurd (omega (arith, some))
entries_bad n m k i (byte ∷ bytes) h some none =
    let after = λ (tag : Tag). after_entries n (archives_before m tag) (k - (i + 1)) (after_tag n m tag bytes) in
    ap (λ j. after_entries n m j (byte ∷ bytes)) (left_more k i h) ∙ by_no_tag byte after none

-- no byte is left
pub entries_short : (n m k : ℕ) (bytes : List ℕ) → length bytes ≡ 0 → after_entries n m k bytes ≡ bytes
unfolding after_entries
entries_short n m k bytes e = grind arith

pub entries_done : (n m k i : ℕ) (bytes : List ℕ) → k ≤ i → after_entries n m (k - i) bytes ≡ bytes
unfolding after_entries
entries_done n m k i bytes h = ap (λ j. after_entries n m j bytes) (left_none k i h)

-- ---- the version

pub right_version : (v : Version) (bytes : List ℕ) → version_number v ≡ two_in (drop 4 bytes) → after_database bytes ≡ after_version v (drop 6 bytes)
unfolding after_database
right_version v bytes e = grind arith

pub no_version : (bytes : List ℕ) → ((v : Version) → version_number v ≢ two_in (drop 4 bytes)) → after_database bytes ≡ []
unfolding after_database
no_version bytes none =
    let number = two_in (drop 4 bytes) in
    other number 1 (after_version One (drop 6 bytes)) _ (none One) ∙ other number 2 (after_version Two (drop 6 bytes)) [] (none Two)
