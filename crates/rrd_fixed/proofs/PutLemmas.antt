-- Texts that are put before an index.
use Rattle.rrd_fixed.proofs.Names.{◌≡◌, ◌∙◌, sym, ap, refl, ℕ, zero, suc, ◌+◌, ◌-◌, ◌<◌, ◌≤◌, ◌^◌, ◌/◌, ◌%◌, List, [], ◌∷◌, ◌++◌, length, take, drop, set, replicate, codes, arith, append_assoc, append-nil, length-append, lit<, ℤ, pos, negsuc, unsigned_abs, FitsSigned, int_le, false, true≢false, add-one, w128, leb-zero, IsAscii-decimal_wide, decimal_step_wide, length-decimal-le, length-decimal-le_wide, drop-drop, drop-set, drop-take, drop_all, take-append-drop, take-append-le, take-replicate, take_all, IsAscii-append, IsUtf8-from_ascii, IsAscii-cons, IsAscii, IsUtf8, between-put_mid, drop-put_mid, decimal, repeat, Puts, millionths_text, signed_text, six_digits, put_mid, rules, common_steps}

-- one text before another
pub puts_before : (a b c : List ℕ) (end mid start : ℕ) (text before : List ℕ) → Puts a b end text mid → Puts b c mid before start → Puts a c end (before ++ text) start
puts_before a b c end mid start text before p q = grind (arith, common_steps, length-append, append_assoc)

-- one byte before a text
pub puts_byte : (a b : List ℕ) (end start byte : ℕ) (text : List ℕ) → Puts a b end text start → 0 < start → start ≤ length b → Puts a (set b (start - 1) byte) end (byte ∷ text) (start - 1)
puts_byte a b end start byte text p some inside = grind (arith, common_steps, drop-set)

-- bytes that are copied into a part
pub puts_part : (a ys : List ℕ) (end at : ℕ) → at ≤ end → end ≤ length a → length ys ≡ end - at → Puts a (put_mid at (end - at) a ys) end ys at
puts_part a ys end at le inside long = grind (arith, common_steps, put_mid, between-put_mid, drop-put_mid, drop-drop, take-append-drop)

zeros_again : (n : ℕ) → replicate n 48 ≡ repeat n (codes "0")
zeros_again zero = refl
zeros_again (suc n) = ap (λ l. 48 ∷ l) (zeros_again n)

six_zeros : (m : ℕ) (rest : List ℕ) → m ≤ 6 → take m (codes "000000" ++ rest) ≡ repeat m (codes "0")
six_zeros m rest le = take-append-le m (codes "000000") rest le ∙ (take-replicate m 6 48 le ∙ zeros_again m)

zeros_length : (k : ℕ) (rest : List ℕ) → length (repeat k (codes "0") ++ rest) ≡ k + length rest
zeros_length zero rest = omega arith
zeros_length (suc k) rest = let more = zeros_length k rest in omega arith

six_length : (n at end : ℕ) → at + 6 ≡ end → length (decimal n) ≤ 6 → at + length (six_digits n) ≡ end
six_length n at end e few = let all = zeros_length (6 - length (decimal n)) (decimal n) in omega (arith, e, few, all)

-- digits over zeros
pub puts_six : (a b c : List ℕ) (end at start n : ℕ) → Puts a b end (codes "000000") at → Puts b c end (decimal n) start → length (decimal n) ≤ 6 → take start c ≡ take start b → Puts a c end (six_digits n) at
puts_six a b c end at start n p q few same =
    let m = start - at in
    let le : at ≤ start = omega (arith, p.begins, q.begins, few) in
    let up : at + m ≡ start = omega (arith, le) in
    let part : take m (drop at c) ≡ take m (drop at b) =
    sym (drop-take at m c) ∙ (ap (λ k. drop at (take k c)) up ∙ (ap (drop at) same ∙ (ap (λ k. drop at (take k b)) (sym up) ∙ drop-take at m b))) in
    let zeros : take m (drop at b) ≡ repeat m (codes "0") = ap (take m) p.bytes ∙ six_zeros m (drop end a) (omega (arith, p.begins, q.begins)) in
    let rest : drop end b ≡ drop end a = ap (λ k. drop k b) (sym p.begins) ∙ (sym (drop-drop 6 at b) ∙ ap (drop 6) p.bytes) in
    let back : drop m (drop at c) ≡ decimal n ++ drop end a = drop-drop m at c ∙ (ap (λ k. drop k c) up ∙ (q.bytes ∙ ap (λ l. decimal n ++ l) rest)) in
    grind (arith, common_steps, six_length, take-append-drop, append_assoc)

-- ---- how long texts are

pub few_digits : (n : ℕ) → n < 2 ^ 128 → length (decimal n) ≤ 39
few_digits n small = length-decimal-le_wide 39 n (lit< tt) (omega arith) (omega arith)

pub one_digit_more : (n : ℕ) → 10 ≤ n → n < 2 ^ 128 → length (decimal n) ≡ length (decimal (n / 10)) + 1
one_digit_more n low small = ap length (decimal_step_wide n low (omega arith)) ∙ length-append (decimal (n / 10)) ((48 + n % 10) ∷ [])

-- the last digit of a number, before what is put
pub digit_put : (n at : ℕ) (buffer : List ℕ) → 10 ≤ n → n < 2 ^ 128 → 0 < at → at ≤ length buffer
    → decimal (n / 10) ++ drop (at - 1) (set buffer (at - 1) (48 + n % 10)) ≡ decimal n ++ drop at buffer
digit_put n at buffer low small some inside = grind (arith, common_steps, drop-set, append_assoc, decimal_step_wide)

pub six_wide : (n : ℕ) → n < 1000000 → length (six_digits n) ≡ 6
six_wide n small = grind (arith, common_steps, length-decimal-le, zeros_length)

pub millionths_short : (n : ℕ) → n < 2 ^ 128 → length (millionths_text n) ≤ 46
millionths_short n small = grind (arith, common_steps, few_digits, six_wide, length-append)

-- ---- the sign

pub signed_minus : (z : ℤ) → int_le (pos 0) z ≡ false → 45 ∷ millionths_text (unsigned_abs z) ≡ signed_text z
signed_minus (pos n) e = absurd (true≢false (sym (leb-zero n) ∙ e))
signed_minus (negsuc n) e = ap (λ k. 45 ∷ millionths_text k) (sym (add-one n))

-- ---- a text that is put is one

zeros_ascii : (k : ℕ) → IsAscii (repeat k (codes "0"))
zeros_ascii zero = λ i. omega arith
zeros_ascii (suc k) = IsAscii-cons 48 (repeat k (codes "0")) (lit< tt) (zeros_ascii k)

millionths_ascii : (n : ℕ) → n < 2 ^ 128 → IsAscii (millionths_text n)
millionths_ascii n small = search (rules, IsAscii-decimal_wide, IsAscii-append, zeros_ascii, IsAscii-cons)

signed_ascii : (z : ℤ) → FitsSigned w128 z → IsAscii (signed_text z)
signed_ascii (pos n) h = let fits = h.sfits in millionths_ascii n (omega arith)
signed_ascii (negsuc n) h = let fits = h.sfits in IsAscii-cons 45 (millionths_text (n + 1)) (lit< tt) (millionths_ascii (n + 1) (omega arith))

pub signed_utf8 : (z : ℤ) (old new : List ℕ) (start : ℕ) → FitsSigned w128 z → length old ≡ 48 → Puts old new 48 (signed_text z) start → IsUtf8 (take (48 - start) (drop start new))
signed_utf8 z old new start fits long put = grind (arith, common_steps, drop_all, append-nil, take_all, IsUtf8-from_ascii, signed_ascii)
