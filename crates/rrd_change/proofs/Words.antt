-- Lemmas on the words of bytes.
use Rattle.rrd_change.proofs.Names.{◌≡◌, ℕ, zero, suc, ◌+◌, ◌-◌, ◌*◌, ◌/◌, ◌%◌, ◌<◌, List, length, take, drop, get_or, refl, sym, ap, add-one, arith, w64, from_be_bytes, first_chunks, slice_range, drop-drop, div-add-mod', div-mul-add, mix, mix_words, word, mix_bytes}

pub chunk_at : (n k i : ℕ) (xs d : List ℕ) → i < k → get_or (first_chunks n k xs) i d ≡ take n (drop (n * i) xs)
chunk_at n zero i xs d h = grind arith
chunk_at n (suc k) zero xs d h = let e : n * 0 ≡ 0 = omega arith in rw e refl
chunk_at n (suc k) (suc i) xs d h = grind (arith, chunk_at n k i (drop n xs) d (omega (arith, h)), drop-drop)

pub mix_words-more : (sum : ℕ) (bytes : List ℕ) (n : ℕ) → mix_words sum bytes (n + 1) ≡ mix (mix_words sum bytes n) (word bytes n)
mix_words-more sum bytes n = rw add-one refl

word_is : (bytes : List ℕ) (i : ℕ) → slice_range bytes (8 * i) (8 * i + 8) ≡ take 8 (drop (8 * i) bytes)
word_is bytes i = let e : 8 * i + 8 - 8 * i ≡ 8 = omega arith in rw e refl

-- one more whole word
pub word_more : (start : ℕ) (bytes d : List ℕ) (words : List (List ℕ)) (i : ℕ) →
    words ≡ first_chunks 8 (length bytes / 8) bytes → i < length bytes / 8 →
    mix_words start bytes (i + 1) ≡ mix (mix_words start bytes i) (from_be_bytes w64 (get_or words i d))
word_more start bytes d words i is h = grind (arith, chunk_at, word_is, mix_words-more)

count_whole : (n : ℕ) → n % 8 ≡ 0 → (n + 7) / 8 ≡ n / 8
count_whole n h = grind (arith, div-add-mod', div-mul-add)

count_more : (n : ℕ) → 0 < n % 8 → (n + 7) / 8 ≡ n / 8 + 1
count_more n h = grind arith

-- nothing is left behind the whole words
pub words_whole : (start : ℕ) (bytes : List ℕ) → length bytes % 8 ≡ 0 → mix_words start bytes (length bytes / 8) ≡ mix_bytes start bytes
unfolding mix_bytes
words_whole start bytes h = ap (λ n. mix_words start bytes n) (sym (count_whole (length bytes) h))

-- a last word is left
pub words_more : (start : ℕ) (bytes rest : List ℕ) → rest ≡ drop (length bytes / 8 * 8) bytes → 0 < length bytes % 8 →
    mix (mix_words start bytes (length bytes / 8)) (from_be_bytes w64 rest) ≡ mix_bytes start bytes
unfolding mix_bytes
words_more start bytes rest is h = grind (arith, mix_words-more, count_more)
