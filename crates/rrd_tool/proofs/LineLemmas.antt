-- What bytes more do to the lines of an input, and to an unfinished one.
use Rattle.std.specs.Prelude.{◌≡◌, ◌++◌, ◌∷◌, ◌&&◌, ◌||◌, ◌≤◌, ℕ, zero, suc, take, ◌+◌, Bool, true, false, List, [], length, nat_le, ◌⊎◌, if◌then◌else◌, Result, Ok, Err, OnOk}
use Rattle.rrd_tool.proofs.Names.{◌∙◌, get_or, sym, ap, refl, append_assoc, append-nil, arith, nat_eq, length-append, ⊎_elim, inl, inr, is_err, cases_Bool, nat_tests, list_all, has_end, is_empty, is_plain, is_text, last_part, whole_lines, without_cr, BuffersBy, IsLost, Ending, Plain, Cr, Lost}
use Rattle.rrd_tool.proofs.Finding.{both}

cr_past : (xs : List ℕ) (b : ℕ) (more : List ℕ) → without_cr (xs ++ b ∷ more) ≡ xs ++ without_cr (b ∷ more)
cr_past (x ∷ y ∷ xs) b more = ap (λ l. x ∷ l) (cr_past (y ∷ xs) b more)
cr_past x b more = refl

and_false : (x : Bool) → (x && false) ≡ false
and_false true = refl
and_false false = refl

and_assoc : (x y z : Bool) → ((x && y) && z) ≡ (x && (y && z))
and_assoc true y z = refl
and_assoc false y z = refl

all-append : (xs ys : List ℕ) → list_all is_plain (xs ++ ys) ≡ (list_all is_plain xs && list_all is_plain ys)
all-append [] ys = refl
all-append (x ∷ xs) ys = ap (λ b. is_plain x && b) (all-append xs ys) ∙ sym (and_assoc (is_plain x) (list_all is_plain xs) (list_all is_plain ys))

not_text : (xs ys : List ℕ) → list_all is_plain ys ≡ false → is_text (xs ++ ys) ≡ false
not_text xs ys h = cc (all-append xs ys ∙ ap (λ b. list_all is_plain xs && b) h ∙ and_false (list_all is_plain xs), and_false (nat_le (length (xs ++ ys)) 65536))

too_long : (xs ys : List ℕ) → 65536 ≤ length xs → 1 ≤ length ys → is_text (xs ++ ys) ≡ false
too_long xs ys h k =
    let long : nat_le (length (xs ++ ys)) 65536 ≡ false = grind (arith, nat_tests, length-append xs ys) in
    ap (λ b. b && list_all is_plain (xs ++ ys)) long

from_here : (bytes : List ℕ) (b : ℕ) (more : List ℕ) (line : List ℕ) → line ≡ bytes
    → without_cr (line ++ b ∷ [] ++ more) ≡ bytes ++ without_cr (b ∷ more)
from_here bytes b more line e =
    ap without_cr (append_assoc line (b ∷ []) more ∙ ap (λ l. l ++ b ∷ more) e) ∙ cr_past bytes b more

-- a CR that is not the last
pub lost_cr : (bytes line : List ℕ) (b : ℕ) → line ≡ bytes ++ 13 ∷ [] → IsLost (line ++ b ∷ [])
lost_cr bytes line b e more =
    let all : without_cr (line ++ b ∷ [] ++ more) ≡ bytes ++ without_cr (13 ∷ b ∷ more) =
    ap without_cr (append_assoc line (b ∷ []) more ∙ ap (λ l. l ++ b ∷ more) e ∙ append_assoc bytes (13 ∷ []) (b ∷ more))
    ∙ cr_past bytes 13 (b ∷ more) in
    ap is_text all ∙ not_text bytes (13 ∷ without_cr (b ∷ more)) refl

unplain : (b : ℕ) (more : List ℕ) → nat_eq b 13 ≡ false → is_plain b ≡ false → list_all is_plain (without_cr (b ∷ more)) ≡ false
unplain b [] n h = rw n (rw h refl)
unplain b (c ∷ more) n h = ap (λ x. x && list_all is_plain (without_cr (c ∷ more))) h

-- a byte that is not plain
pub lost_byte : (bytes line : List ℕ) (b : ℕ) → line ≡ bytes → nat_eq b 13 ≡ false → is_plain b ≡ false → IsLost (line ++ b ∷ [])
lost_byte bytes line b e n h more = ap is_text (from_here bytes b more line e) ∙ not_text bytes (without_cr (b ∷ more)) (unplain b more n h)

some_left : (b : ℕ) (more : List ℕ) → nat_eq b 13 ≡ false → 1 ≤ length (without_cr (b ∷ more))
some_left b [] n = rw n (omega arith)
some_left b (c ∷ more) n = omega arith

-- a byte past the last that may stand
pub lost_long : (bytes line : List ℕ) (b : ℕ) → line ≡ bytes → nat_eq b 13 ≡ false → 65536 ≤ length bytes → IsLost (line ++ b ∷ [])
lost_long bytes line b e n h more = ap is_text (from_here bytes b more line e) ∙ too_long bytes (without_cr (b ∷ more)) h (some_left b more n)

plain_no_cr : (b : ℕ) → is_plain b ≡ true → nat_eq b 13 ≡ false
plain_no_cr b h = grind (arith, nat_tests)

-- a line of plain bytes has no CR
pub plain_whole : (bytes : List ℕ) → list_all is_plain bytes ≡ true → without_cr bytes ≡ bytes
plain_whole [] h = refl
plain_whole (b ∷ []) h = rw (plain_no_cr b (both (is_plain b) true h).0) refl
plain_whole (b ∷ c ∷ bytes) h = ap (λ l. b ∷ l) (plain_whole (c ∷ bytes) (both (is_plain b) (list_all is_plain (c ∷ bytes)) h).1)

pub text_whole : (bytes : List ℕ) → list_all is_plain bytes ≡ true → length bytes ≤ 65536 → is_text bytes ≡ true
text_whole bytes h k = rw h (grind (arith, nat_tests))

-- what a line of text is
pub cr_text : (bytes line : List ℕ) → BuffersBy Cr bytes line → without_cr line ≡ bytes
cr_text bytes line h = ap without_cr h.0 ∙ cr_past bytes 13 [] ∙ append-nil bytes

pub plain_text : (bytes line : List ℕ) → BuffersBy Plain bytes line → without_cr line ≡ bytes
plain_text bytes line h = ap without_cr h.0 ∙ plain_whole bytes h.1

pub lost_some : (line : List ℕ) → IsLost line → is_empty line ≡ false
lost_some [] h = absurd (let bad : true ≡ false = h [] in cc)
lost_some (b ∷ line) h = refl

none_cr : (bytes : List ℕ) → is_empty (bytes ++ 13 ∷ []) ≡ false
none_cr [] = refl
none_cr (b ∷ bytes) = refl

pub cr_some : (bytes line : List ℕ) → BuffersBy Cr bytes line → is_empty line ≡ false
cr_some bytes line h = ap is_empty h.0 ∙ none_cr bytes

-- what is lost is no text
pub lost_ended : (unfinished : List ℕ) → IsLost unfinished → is_text (without_cr unfinished) ≡ false
lost_ended unfinished h = ap (λ l. is_text (without_cr l)) (sym (append-nil unfinished)) ∙ h []

-- nor is it with the CR that may stand at its end
pub lost_cut : (unfinished : List ℕ) → IsLost unfinished → is_text unfinished ≡ false
lost_cut unfinished h = ⊎_elim
    (λ (is : is_text unfinished ≡ true). ap is_text (sym (plain_whole unfinished (both (nat_le (length unfinished) 65536) (list_all is_plain unfinished) is).1)) ∙ lost_ended unfinished h)
    (λ (no : is_text unfinished ≡ false). no)
    (cases_Bool (is_text unfinished))

-- a line that ends in CR is no text
pub cr_cut : (bytes unfinished : List ℕ) → BuffersBy Cr bytes unfinished → is_text unfinished ≡ false
cr_cut bytes unfinished h = ap is_text h.0 ∙ not_text bytes (13 ∷ []) refl

-- ---- what an unfinished line has come to

pub cut_none : (ending : Ending) (bytes unfinished : List ℕ) → (ending ≡ Lost) ⊎ (ending ≡ Cr) → BuffersBy ending bytes unfinished → is_text unfinished ≡ false
cut_none ending bytes unfinished (inl lost) h = lost_cut unfinished (rw lost at h)
cut_none ending bytes unfinished (inr cr) h = cr_cut bytes unfinished (rw cr at h)

pub some_held : (ending : Ending) (bytes unfinished : List ℕ) → (ending ≡ Lost) ⊎ (ending ≡ Cr) → BuffersBy ending bytes unfinished → is_empty unfinished ≡ false
some_held ending bytes unfinished (inl lost) h = lost_some unfinished (rw lost at h)
some_held ending bytes unfinished (inr cr) h = cr_some bytes unfinished (rw cr at h)

pub kept_text : (ending : Ending) (bytes unfinished : List ℕ) → (ending ≡ Plain) ⊎ (ending ≡ Cr) → BuffersBy ending bytes unfinished → (without_cr unfinished ≡ bytes) × (is_text bytes ≡ true)
kept_text ending bytes unfinished (inl plain) h = let k = rw plain at h in (plain_text bytes unfinished k, text_whole bytes k.1 k.2)
kept_text ending bytes unfinished (inr cr) h = let k = rw cr at h in (cr_text bytes unfinished k, text_whole bytes k.1 k.2)

-- ---- the lines of bytes that come one after another

pub whole_append : (unfinished xs ys : List ℕ) → whole_lines unfinished (xs ++ ys) ≡ whole_lines unfinished xs ++ whole_lines (last_part unfinished xs) ys
whole_append unfinished [] ys = refl
whole_append unfinished (x ∷ xs) ys = elim (nat_eq x 10) as
    (λ v. (if v then without_cr unfinished ∷ whole_lines [] (xs ++ ys) else whole_lines (unfinished ++ x ∷ []) (xs ++ ys))
    ≡ (if v then without_cr unfinished ∷ whole_lines [] xs else whole_lines (unfinished ++ x ∷ []) xs)
    ++ whole_lines (if v then last_part [] xs else last_part (unfinished ++ x ∷ []) xs) ys)
    [ true ↦ ap (λ l. without_cr unfinished ∷ l) (whole_append [] xs ys) | false ↦ whole_append (unfinished ++ x ∷ []) xs ys ]

pub part_append : (unfinished xs ys : List ℕ) → last_part unfinished (xs ++ ys) ≡ last_part (last_part unfinished xs) ys
part_append unfinished [] ys = refl
part_append unfinished (x ∷ xs) ys = elim (nat_eq x 10) as
    (λ v. (if v then last_part [] (xs ++ ys) else last_part (unfinished ++ x ∷ []) (xs ++ ys))
    ≡ last_part (if v then last_part [] xs else last_part (unfinished ++ x ∷ []) xs) ys)
    [ true ↦ part_append [] xs ys | false ↦ part_append (unfinished ++ x ∷ []) xs ys ]

pub at_ok : {T E P : Type 0} (r : Result T E) → is_err r ≡ false → OnOk r P → P
at_ok (Ok x) e p = p
at_ok (Err f) e p = absurd (let bad : true ≡ false = e in cc)

-- ---- lines that are found at once

pub neither : (x y : Bool) → (x || y) ≡ false → (x ≡ false) × (y ≡ false)
neither true y h = cc
neither false y h = (refl, h)

-- bytes without LF go on with a line
pub whole_run : (unfinished part rest : List ℕ) → has_end part ≡ false → whole_lines unfinished (part ++ rest) ≡ whole_lines (unfinished ++ part) rest
whole_run unfinished [] rest h = ap (λ l. whole_lines l rest) (sym (append-nil unfinished))
whole_run unfinished (b ∷ part) rest h =
    let parts = neither (nat_eq b 10) (has_end part) h in
    rw parts.0 (whole_run (unfinished ++ b ∷ []) part rest parts.1 ∙ ap (λ l. whole_lines l rest) (append_assoc unfinished (b ∷ []) part))

pub part_run : (unfinished part rest : List ℕ) → has_end part ≡ false → last_part unfinished (part ++ rest) ≡ last_part (unfinished ++ part) rest
part_run unfinished [] rest h = ap (λ l. last_part l rest) (sym (append-nil unfinished))
part_run unfinished (b ∷ part) rest h =
    let parts = neither (nat_eq b 10) (has_end part) h in
    rw parts.0 (part_run (unfinished ++ b ∷ []) part rest parts.1 ∙ ap (λ l. last_part l rest) (append_assoc unfinished (b ∷ []) part))

-- LF ends one line
pub one_whole : (unfinished part : List ℕ) → has_end part ≡ false → whole_lines unfinished (part ++ 10 ∷ []) ≡ without_cr (unfinished ++ part) ∷ []
one_whole unfinished part h = whole_run unfinished part (10 ∷ []) h

pub one_part : (unfinished part : List ℕ) → has_end part ≡ false → last_part unfinished (part ++ 10 ∷ []) ≡ []
one_part unfinished part h = part_run unfinished part (10 ∷ []) h

-- no LF, no whole line
pub no_whole : (unfinished part : List ℕ) → has_end part ≡ false → whole_lines unfinished part ≡ []
no_whole unfinished part h = ap (whole_lines unfinished) (sym (append-nil part)) ∙ whole_run unfinished part [] h

pub no_part : (unfinished part : List ℕ) → has_end part ≡ false → last_part unfinished part ≡ unfinished ++ part
no_part unfinished part h = ap (last_part unfinished) (sym (append-nil part)) ∙ part_run unfinished part [] h

pub none_empty : (line : List ℕ) → is_empty line ≡ true → line ≡ []
none_empty [] h = refl
none_empty (b ∷ line) h = cc

pub on_ok : {T E P : Type 0} (r : Result T E) → P → OnOk r P
on_ok (Ok x) p = p
on_ok (Err f) p = tt

-- a CR at the end is dropped, and nothing else
pub cr_dropped : (line : List ℕ) (n : ℕ) → length line ≡ n + 1 → get_or line n 0 ≡ 13 → without_cr line ≡ take n line
cr_dropped (b ∷ []) zero long is = rw is refl
cr_dropped (b ∷ c ∷ line) (suc n) long is = ap (λ l. b ∷ l) (cr_dropped (c ∷ line) n (omega (arith, long)) is)
cr_dropped x n long is = absurd (omega (arith, long))

pub cr_kept : (line : List ℕ) (n : ℕ) → length line ≡ n + 1 → nat_eq (get_or line n 0) 13 ≡ false → without_cr line ≡ line
cr_kept [] n long other = refl
cr_kept (b ∷ []) zero long other = rw other refl
cr_kept (b ∷ []) (suc n) long other = absurd (omega (arith, long))
cr_kept (b ∷ c ∷ line) zero long other = absurd (omega (arith, long))
cr_kept (b ∷ c ∷ line) (suc n) long other = ap (λ l. b ∷ l) (cr_kept (c ∷ line) n (omega (arith, long)) other)
