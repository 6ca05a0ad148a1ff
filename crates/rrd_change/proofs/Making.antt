-- Lemmas on a file that is written for the first time.
use Rattle.rrd_change.proofs.Names.{◌≡◌, ℕ, ◌+◌, ◌-◌, ◌<◌, ◌≤◌, List, [], length, take, drop, get_or, sym, ◌∙◌, ap, arith, inl, inr, cases_lt, length-take, length-drop, get_or-take, get_or-drop, ext_get_or, AreAny, ArePut, AreWholeOrNot, IsSized, IsTorn, IsMadeTo, IsUnmade, StaysFirst, IsDatabase, World, Fails, All, common_steps}
use Rattle.rrd_change.proofs.Holding.{marks_all}
use Rattle.rrd_change.proofs.Marking.{put_behind, put_front}

pub first_then : (old mid file : List ℕ) → StaysFirst old mid → StaysFirst mid file → StaysFirst old file
first_then old mid file a b k low = b k low ∙ a k low

pub any_first : (at count : ℕ) (old file : List ℕ) → 16 ≤ at → AreAny at count old file → StaysFirst old file
any_first at count old file high a k low = a.outside k (inl (omega (arith, low, high)))

pub made_more : (at end : ℕ) (new old mid file : List ℕ) → 16 ≤ at → at ≤ end → end ≤ length new → IsMadeTo at new old mid → ArePut at (take (end - at) (drop at new)) mid file → IsMadeTo end new old file
made_more at end new old mid file high ordered few was put =
    let size : length (take (end - at) (drop at new)) ≡ end - at = omega (arith, length-take (end - at) (drop at new), length-drop at new, few) in
    record {
      len = λ enough. omega (arith, put.len, size, was.len enough, ordered);
      made = λ k from to. elim (cases_lt k at) [
        | inl before ↦ put.outside k (inl before) ∙ was.made k from before
        | inr behind ↦
            let here : at + (k - at) ≡ k = omega (arith, behind) in
            ap (λ n. get_or file n 0) (sym here) ∙ put.inside (k - at) (omega (arith, behind, to, size)) ∙ get_or-take (end - at) (drop at new) (k - at) 0 (omega (arith, behind, to))
            ∙ get_or-drop at new (k - at) 0 ∙ ap (λ n. get_or new n 0) here
      ];
      first = λ k low. put.outside k (inl (omega (arith, low, high))) ∙ was.first k low;
    }

-- ---- the steps

-- sixteen zeros, or what follows them
pub record IsBegun (file : List ℕ) : Type 0 where
  pub len : length file ≡ 16
  pub zero_first : get_or file 0 0 ≡ 0

pub begun_sized : (x f : List ℕ) → x ≡ [] → IsSized 16 x f → IsBegun f
begun_sized x f e s = record { len = s.len; zero_first = s.below 0 (omega arith) ∙ ap (λ xs. get_or xs 0 0) e }

pub unmade_first : (new x f : List ℕ) → IsBegun x → StaysFirst x f → IsUnmade new f
unmade_first new x f b s = inl (s 0 (omega arith) ∙ b.zero_first)

-- all but the first sixteen bytes
pub record IsBehind (new file : List ℕ) : Type 0 where
  pub len : length file ≡ length new
  pub made : (k : ℕ) → 16 ≤ k → k < length new → get_or file k 0 ≡ get_or new k 0
  pub zero_first : get_or file 0 0 ≡ 0

pub made_whole : (new x f : List ℕ) → IsDatabase new → IsBehind new x → ArePut 0 (take 16 new) x f → f ≡ new
made_whole new x f is b put = grind (arith, common_steps, length-take 16 new, ext_get_or 0 f new, cases_lt, put_front (take 16 new) x f, get_or-take 16 new, put_behind (take 16 new) x f)

pub made_marked : (new : List ℕ) (u v : World) → IsDatabase new → Fails (AreWholeOrNot 0 (take 16 new)) (IsTorn 0 (take 16 new)) u v → All (IsBehind new) u → All (IsUnmade new) v
made_marked new u v is f a = grind (arith, common_steps, marks_all (IsBehind new) (IsUnmade new) (take 16 new) u v, length-take 16 new, made_whole new)
