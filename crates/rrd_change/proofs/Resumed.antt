-- Lemmas on writes that are taken up again.
use Rattle.rrd_change.proofs.Names.{◌≡◌, ℕ, ◌+◌, ◌<◌, ◌≤◌, List, ◌++◌, length, take, drop, sym, ◌∙◌, subst, arith, inl, inr, take-add, cases_lt, take_all, length-take, length-drop, length-append, get_or_append_left, get_or-append_right, AreAny, ArePut, IsCut, IsFrontPut, common_steps}

pub put_any : (at : ℕ) (bytes old new : List ℕ) → ArePut at bytes old new → AreAny at (length bytes) old new
put_any at bytes old new p = record { longer = omega (arith, p.len); bound = omega (arith, p.len); outside = p.outside }

-- some of these bytes are any bytes
pub any_in : (at count d m : ℕ) (old new : List ℕ) → d + m ≤ count → AreAny (at + d) m old new → AreAny at count old new
any_in at count d m old new few a = grind arith

pub any_then : (at count : ℕ) (old mid new : List ℕ) → AreAny at count old mid → AreAny at count mid new → AreAny at count old new
any_then at count old mid new a b = grind arith

pub put_then : (at : ℕ) (xs ys old mid new : List ℕ) → ArePut at xs old mid → ArePut (at + length xs) ys mid new → ArePut at (xs ++ ys) old new
put_then at xs ys old mid new p q = grind (arith, common_steps, length-append, cases_lt, get_or_append_left, get_or-append_right)

pub front_any : (at n : ℕ) (bytes old new : List ℕ) → n ≤ length bytes → IsFrontPut at n bytes old new → AreAny at (length bytes) old new
front_any at n bytes old new few p = grind (arith, common_steps, cases_lt 0 n, length-take n bytes)

-- a part, and then a part of the rest
pub front_then : (at d n : ℕ) (bytes old mid new : List ℕ) → d ≤ length bytes → IsFrontPut at d bytes old mid → IsFrontPut (at + d) n (drop d bytes) mid new →
    IsFrontPut at (d + n) bytes old new
front_then at d n bytes old mid new few p q = record {
  none = λ e. q.none (omega (arith, e)) ∙ p.none (omega (arith, e));
  some = λ more. elim (cases_lt 0 d) [
    | inl first ↦
        let put = p.some first in
        let size : length (take d bytes) ≡ d = omega (arith, length-take d bytes, few) in
        elim (cases_lt 0 n) [
          | inl second ↦
              subst (λ (xs : List ℕ). ArePut at xs old new) (sym (take-add d n bytes)) (put_then at (take d bytes) (take n (drop d bytes)) old mid new put (subst (λ (m : ℕ). ArePut (at + m) (take n (drop d bytes)) mid new) (sym size) (q.some second)))
          | inr none ↦ grind arith
        ]
    | inr none ↦ grind arith
  ];
}

-- the rest of a write is cut short
pub cut_then : (at d : ℕ) (bytes old mid new : List ℕ) → d ≤ length bytes → IsFrontPut at d bytes old mid → IsCut (at + d) (drop d bytes) mid new → IsCut at bytes old new
cut_then at d bytes old mid new few p q =
    let rest = length-drop d bytes in
    record {
      any = grind (arith, any_then, front_any, any_in);
      front = λ behind.
          let reached : length mid ≤ at + d = grind (arith, length-take) in
          let more = q.front reached in
          (d + more.0, omega (arith, more.1, rest, few), front_then at d more.0 bytes old mid new few p more.2);
    }

pub cut_front : (at d : ℕ) (bytes old new : List ℕ) → d ≤ length bytes → IsFrontPut at d bytes old new → IsCut at bytes old new
cut_front at d bytes old new few p = record { any = front_any at d bytes old new few p; front = λ behind. (d, few, p) }

pub put_cut : (at : ℕ) (bytes old new : List ℕ) → 0 < length bytes → ArePut at bytes old new → IsCut at bytes old new
put_cut at bytes old new more put = grind (arith, take_all)
