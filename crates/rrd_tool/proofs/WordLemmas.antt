-- The words of a text, word by word.
use Rattle.std.specs.Prelude.{◌≡◌, ◌<◌, ◌++◌, ◌∷◌, [], ℕ, zero, suc, true, false, List, take, drop, Result, Ok, Err, OnErr}
use Rattle.rrd_tool.proofs.Names.{◌∙◌, sym, ap, refl, arith, append-nil, append_assoc, nat_tests, list_all, list_any, IsAscii, IsUtf8, IsUtf8-from_ascii, if_some, is_empty, is_blank, is_plain, words_after}
use Rattle.rrd_tool.proofs.Finding.{both}
use Rattle.rrd_tool.proofs.LineLemmas.{neither}

-- ---- plain bytes

pub plain_take : (n : ℕ) (bytes : List ℕ) → list_all is_plain bytes ≡ true → list_all is_plain (take n bytes) ≡ true
plain_take zero bytes h = refl
plain_take (suc n) [] h = refl
plain_take (suc n) (b ∷ bytes) h =
    let p = both (is_plain b) (list_all is_plain bytes) h in
    rw (p.0, plain_take n bytes p.1) refl

pub plain_drop : (n : ℕ) (bytes : List ℕ) → list_all is_plain bytes ≡ true → list_all is_plain (drop n bytes) ≡ true
plain_drop zero bytes h = h
plain_drop (suc n) [] h = refl
plain_drop (suc n) (b ∷ bytes) h = plain_drop n bytes (both (is_plain b) (list_all is_plain bytes) h).1

plain_small : (b : ℕ) → is_plain b ≡ true → b < 128
plain_small b h = grind (arith, nat_tests)

plain_ascii : (bytes : List ℕ) → list_all is_plain bytes ≡ true → IsAscii bytes
plain_ascii [] h i = omega arith
plain_ascii (b ∷ bytes) h zero = plain_small b (both (is_plain b) (list_all is_plain bytes) h).0
plain_ascii (b ∷ bytes) h (suc i) = plain_ascii bytes (both (is_plain b) (list_all is_plain bytes) h).1 i

pub plain_utf8 : (bytes : List ℕ) → list_all is_plain bytes ≡ true → IsUtf8 bytes
plain_utf8 bytes h = IsUtf8-from_ascii bytes (plain_ascii bytes h)

-- ---- words

-- letters go on with a word that is begun
words_run : (begun part rest : List ℕ) → list_any is_blank part ≡ false → words_after begun (part ++ rest) ≡ words_after (begun ++ part) rest
words_run begun [] rest h = ap (λ l. words_after l rest) (sym (append-nil begun))
words_run begun (b ∷ part) rest h =
    let parts = neither (is_blank b) (list_any is_blank part) h in
    rw parts.0 (words_run (begun ++ b ∷ []) part rest parts.1 ∙ ap (λ l. words_after l rest) (append_assoc begun (b ∷ []) part))

-- a word before a blank
pub words_first : (part rest : List ℕ) (b : ℕ) → list_any is_blank part ≡ false → is_blank b ≡ true → words_after [] (part ++ b ∷ rest) ≡ if_some part ++ words_after [] rest
words_first part rest b none blank = words_run [] part (b ∷ rest) none ∙ rw blank refl

-- a word without one
pub words_last : (part : List ℕ) → list_any is_blank part ≡ false → words_after [] part ≡ if_some part
words_last part none = ap (words_after []) (sym (append-nil part)) ∙ words_run [] part [] none

-- where no word can be added there is one
pub some_words : (words : List (List ℕ)) (part : List ℕ) (rest : List (List ℕ)) → is_empty part ≡ false → is_empty (words ++ (if_some part ++ rest)) ≡ false
some_words [] [] rest h = absurd (let bad : true ≡ false = h in cc)
some_words [] (b ∷ part) rest h = refl
some_words (word ∷ words) part rest h = refl

pub on_err : {T E P : Type 0} (r : Result T E) → P → OnErr r P
on_err (Ok x) p = tt
on_err (Err f) p = p
