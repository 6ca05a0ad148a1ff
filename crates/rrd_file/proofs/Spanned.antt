-- Bytes that are in none of some spans stay as they were.
use Rattle.std.specs.Prelude.{◌≡◌, ◌⊎◌, ◌+◌, ◌-◌, ◌<◌, ◌≤◌, ◌++◌, ℕ, List, [], ◌∷◌, length, take, drop, Some, Result, OnOk}
use Rattle.rrd_file.proofs.Names.{◌∙◌, sym, ap, subst, inl, inr, arith, get_or, length-append, length-take, refl, All, get_or-append_right, get_or-drop, get_or-take, get_or_append_left, get_or_past, All-pop, cases_lt, AgreesOutside, IsBeside, Span}

-- ---- results

pub on_ok : {T E : Type 0} (result : Result T E) (P Q : Type 0) → (P → Q) → OnOk result P → OnOk result Q
on_ok result P Q f p = grind arith

-- ---- a part that is written over

-- a byte before it stays
pub before_part : (at : ℕ) (bytes new : List ℕ) (k : ℕ) → k < at → at ≤ length bytes → get_or (take at bytes ++ new) k 0 ≡ get_or bytes k 0
before_part at bytes new k low within =
    get_or_append_left (take at bytes) new 0 k (omega (arith, length-take at bytes)) ∙ get_or-take at bytes k 0 low

-- a byte stays, if the part stays there
pub beside_part : (at size : ℕ) (bytes new : List ℕ) (k : ℕ) → at + size ≤ length bytes → length new ≡ size
    → (at ≤ k → k < at + size → get_or new (k - at) 0 ≡ get_or bytes k 0)
    → get_or (take at bytes ++ (new ++ drop (at + size) bytes)) k 0 ≡ get_or bytes k 0
beside_part at size bytes new k within long part = elim (cases_lt k at) [
  | inl low ↦ before_part at bytes (new ++ drop (at + size) bytes) k low (omega arith)
  | inr high ↦
      let front : length (take at bytes) ≡ at = omega (arith, length-take at bytes) in
      get_or-append_right (take at bytes) (new ++ drop (at + size) bytes) at k 0 front high
      ∙ elim (cases_lt k (at + size)) [
        | inl inside ↦ get_or_append_left new (drop (at + size) bytes) 0 (k - at) (omega (arith, long)) ∙ part high inside
        | inr behind ↦
            get_or-append_right new (drop (at + size) bytes) size (k - at) 0 long (omega arith)
            ∙ get_or-drop (at + size) bytes (k - at - size) 0 ∙ ap (λ n. get_or bytes n 0) {x = at + size + (k - at - size)} {y = k} (omega arith)
      ]
]

-- ---- two parts

-- a byte stays, if it is beside the spans of both parts
pub beside_both : (bytes front back new_front new_back : List ℕ) (middle stays later end : ℕ) (k : ℕ)
    → bytes ≡ front ++ back → length front ≡ middle → length new_front ≡ middle → length new_back ≡ length back → end ≡ length bytes
    → ((i : ℕ) → i < stays → get_or new_front i 0 ≡ get_or front i 0) → ((i : ℕ) → i < later → get_or new_back i 0 ≡ get_or back i 0)
    → (k < stays) ⊎ (middle ≤ k) → (k < middle + later) ⊎ (end ≤ k) → stays ≤ middle → get_or (new_front ++ new_back) k 0 ≡ get_or bytes k 0
beside_both bytes front back new_front new_back middle stays later end k is long new_long back_long end_is same_front same_back (inl low) older few = cc (get_or_append_left new_front new_back 0 k (omega arith), same_front k low, get_or_append_left front back 0 k (omega arith), is)
beside_both bytes front back new_front new_back middle stays later end k is long new_long back_long end_is same_front same_back (inr high) (inl low) few = cc (get_or-append_right new_front new_back middle k 0 new_long high, same_back (k - middle) (omega arith), get_or-append_right front back middle k 0 long high, is)
beside_both bytes front back new_front new_back middle stays later end k is long new_long back_long end_is same_front same_back (inr high) (inr past) few = cc (get_or_past (new_front ++ new_back) k 0 (omega (arith, length-append new_front new_back, ap length is, length-append front back)), get_or_past bytes k 0 (omega arith))

-- ---- spans that were added

pub add_span : (P : Span → Type 0) (spans : List Span) (span : Span) → All P (spans ++ span ∷ []) → All P spans × P span
add_span P spans span all = All-pop P (spans ++ span ∷ []) spans (Some span) refl all

-- a byte beside a span that is so many bytes later
pub beside_earlier : (k at before : ℕ) (span : Span) → at ≤ k → (before + k < span.start + (before + at)) ⊎ (span.end + (before + at) ≤ before + k) → IsBeside (k - at) span
beside_earlier k at before span high h = grind arith

-- ---- a file after an update

below_end : (k end long : ℕ) → k < long → (k < end) ⊎ (long ≤ k) → k < end
below_end k end long inside h = grind arith

from_cells : (k at : ℕ) → (k < 0) ⊎ (at ≤ k) → at ≤ k
from_cells k at h = grind arith

abbrev pub span : ℕ → ℕ → Span
span start end = record { start = start; end = end }

-- the bytes before the cells, the spans of cells, and the journal
pub updated_agrees : (old cut put new journal : List ℕ) (spans more all : List Span) (at end long : ℕ)
    → end ≤ length old → cut ≡ take end old → length put ≡ end → new ≡ put ++ journal → length new ≤ long
    → more ≡ spans ++ span 0 at ∷ [] → all ≡ more ++ span end long ∷ []
    → ((k : ℕ) → at ≤ k → All (IsBeside k) spans → get_or put k 0 ≡ get_or cut k 0) → AgreesOutside all old new
updated_agrees old cut put new journal spans more all at end long within cut_is put_long new_is few more_is all_is same = record {
  each = λ k inside beside.
      let both = add_span (IsBeside k) more (span end long) (subst (All (IsBeside k)) all_is beside) in
      let one = add_span (IsBeside k) spans (span 0 at) (subst (All (IsBeside k)) more_is both.0) in
      let low : k < end = below_end k end long (omega (arith, inside, few)) both.1 in
      let equal : get_or old k 0 ≡ get_or new k 0 =
      sym (get_or-take end old k 0 low) ∙ ap (λ (l : List ℕ). get_or l k 0) (sym cut_is) ∙ sym (same k (from_cells k at one.1) one.0)
      ∙ sym (get_or_append_left put journal 0 k (omega (arith, put_long, low))) ∙ ap (λ (l : List ℕ). get_or l k 0) (sym new_is) in
      (omega (arith, low, within), equal);
}
