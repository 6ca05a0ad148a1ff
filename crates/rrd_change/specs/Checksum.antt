-- Definition: the checksum, a fold over words of eight bytes. Each number is below 2^64.
use Rattle.std.specs.Prelude.{ℕ, zero, suc, ◌+◌, ◌*◌, ◌/◌, ◌%◌, ◌^◌, bit_xor, List, length, slice_range}
use Rattle.std.specs.Int.{w64, from_be_bytes}

abbrev pub seed : ℕ
seed = 0x9e37_79b9_7f4a_7c15

-- odd numbers with bits everywhere, so that no two words give the same product
abbrev pub first_factor : ℕ
first_factor = 0xd6e8_feb8_6659_fd93

abbrev pub second_factor : ℕ
second_factor = 0xbf58_476d_1ce4_e5b9

-- the high half of a number goes into its low half too
abbrev pub folded : ℕ → ℕ
folded n = bit_xor n (n / 2 ^ 32)

-- a checksum with one more word. Between the two products the high bits are folded into the low ones: a product alone leaves the
-- highest bit of a word alone, so that the next word could cancel it whatever the checksum was
unfoldable pub mix : ℕ → ℕ → ℕ
mix sum word = (folded ((bit_xor sum word * first_factor) % 2 ^ 64) * second_factor) % 2 ^ 64

-- the i-th word of bytes, the highest byte first; zeros complete the last word
abbrev pub word : List ℕ → ℕ → ℕ
word bytes i = from_be_bytes w64 (slice_range bytes (8 * i) (8 * i + 8))

-- a checksum after the first n words of bytes were added
abbrev pub mix_words : ℕ → List ℕ → ℕ → ℕ
mix_words sum bytes zero = sum
mix_words sum bytes (suc n) = mix (mix_words sum bytes n) (word bytes n)

-- a checksum after all words of bytes were added
unfoldable pub mix_bytes : ℕ → List ℕ → ℕ
mix_bytes sum bytes = mix_words sum bytes ((length bytes + 7) / 8)
