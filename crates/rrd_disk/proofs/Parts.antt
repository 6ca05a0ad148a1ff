-- A write that may have been done in part, and calls that are made again after it.
use Rattle.rrd_disk.proofs.Names.{◌≡◌, ℕ, zero, suc, ◌+◌, ◌%◌, ◌<◌, ◌≤◌, ◌⊎◌, inl, inr, ◌==◌, ◌&&◌, ◌||◌, nat_le, min, Bool, List, length, take, slice_index, IsTrue, refl, sym, ◌∙◌, ap, subst, arith, length-take, get_or-take, or-true, cases_lt, eqb-true, le-leb, leb-true, not-true, or_cases, true≢false, take_all, take_min, AreAny, ArePut, AreWholeOrNot, IsCut, IsFrontPut, IsSized, IsSizedOrNot, IsTorn, IsPartPut, AreTorn, is_small, overlaid, padded_or_not, common_steps}
use Rattle.rrd_disk.proofs.Overlays.{overlaid-ArePut, overlaid_none, padded-IsSized}
use Rattle.rrd_disk.specs.Replayed.{is_honest_part}

-- ---- writes at one offset

module _ (at : ℕ) where
  -- bytes over fewer bytes
  pub put_over : (xs ys f g h : List ℕ) → length xs ≤ length ys → ArePut at xs f g → ArePut at ys g h → ArePut at ys f h
  put_over xs ys f g h few first second = grind (arith, common_steps)

  -- fewer of the same bytes over bytes
  put_under : (bytes f g h : List ℕ) (n m : ℕ) → m < n → n ≤ length bytes → ArePut at (take n bytes) f g → ArePut at (take m bytes) g h → ArePut at (take n bytes) f h
  put_under bytes f g h n m fewer within first second = grind (arith, common_steps, length-take, cases_lt, slice_index, get_or-take)

  module _ (bytes : List ℕ) where
    length_front : (n : ℕ) → n ≤ length bytes → length (take n bytes) ≡ n
    length_front n few = omega (arith, length-take n bytes)

    all_front : (n : ℕ) → length bytes ≤ n → take n bytes ≡ bytes
    all_front n enough = take_all n bytes enough

    -- fewer bytes of the same write after more of them, or as many or more
    fewer_after : (n m : ℕ) (f g h : List ℕ) → m < n → n ≤ length bytes → IsFrontPut at n bytes f g → IsFrontPut at m bytes g h → IsFrontPut at n bytes f h
    fewer_after n m f g h fewer few first second = record {
      none = λ empty. absurd (omega (arith, empty, fewer));
      some = λ some. elim (cases_lt 0 m) as (λ _. ArePut at (take n bytes) f h) [
        | inl any ↦ put_under bytes f g h n m fewer few (first.some some) (second.some any)
        | inr empty ↦ subst (λ (b : List ℕ). ArePut at (take n bytes) f b) (sym (second.none (omega (arith, empty)))) (first.some some)
      ];
    }

    more_after : (n m : ℕ) (f g h : List ℕ) → n ≤ m → m ≤ length bytes → IsFrontPut at n bytes f g → IsFrontPut at m bytes g h → IsFrontPut at m bytes f h
    more_after n m f g h more few first second = record {
      none = λ empty. second.none empty ∙ first.none (omega (arith, empty, more));
      some = λ some. elim (cases_lt 0 n) as (λ _. ArePut at (take m bytes) f h) [
        | inl any ↦
            let long : length (take n bytes) ≤ length (take m bytes) = omega (arith, length_front n (omega (arith, more, few)), length_front m few) in
            put_over (take n bytes) (take m bytes) f g h long (first.some any) (second.some some)
        | inr empty ↦ subst (λ (b : List ℕ). ArePut at (take m bytes) b h) (first.none (omega (arith, empty))) (second.some some)
      ];
    }

    -- the same write again
    pub part_twice : (k l : ℕ) (f g h : List ℕ) → IsPartPut k at bytes f g → IsPartPut l at bytes g h → IsPartPut l at bytes f h
    part_twice k l f g h first second = grind (arith, common_steps, cases_lt, fewer_after, more_after)

    -- all bytes were written
    pub part_all : (k : ℕ) (f g : List ℕ) → 0 < length bytes → length bytes ≤ k → IsPartPut k at bytes f g → ArePut at bytes f g
    part_all k f g some all part = grind (arith, common_steps, all_front)

    pub part_none : (f : List ℕ) → IsPartPut 0 at bytes f f
    part_none f = grind (arith, common_steps)

    pub part_less : (k l : ℕ) (f g : List ℕ) → l ≤ k → IsPartPut k at bytes f g → IsPartPut l at bytes f g
    part_less k l f g less part = record { count = part.count; few = part.few; enough = omega (arith, less, part.enough); whole = part.whole; put = part.put }

    -- ---- what rrd_change allows after a failed write

    any_same : (f : List ℕ) → AreAny at (length bytes) f f
    any_same f = record { longer = omega arith; bound = omega arith; outside = λ k away. refl }

    any_put : (n : ℕ) (f g : List ℕ) → n ≤ length bytes → ArePut at (take n bytes) f g → AreAny at (length bytes) f g
    any_put n f g few put = grind (arith, common_steps, length_front)

    pub part_cut : (k : ℕ) (f g : List ℕ) → IsPartPut k at bytes f g → IsCut at bytes f g
    part_cut k f g part = record {
      any = elim (cases_lt 0 part.count) as (λ _. AreAny at (length bytes) f g) [
        | inl some ↦ any_put part.count f g part.few (part.put.some some)
        | inr empty ↦ subst (λ (b : List ℕ). AreAny at (length bytes) f b) (sym (part.put.none (omega (arith, empty)))) (any_same f)
      ];
      front = λ long. (part.count, part.few, part.put);
    }

    pub part_whole : (k : ℕ) (f g : List ℕ) → IsTrue (is_small at (length bytes)) → IsPartPut k at bytes f g → AreWholeOrNot at bytes f g
    part_whole k f g within part = grind (arith, common_steps, cases_lt, all_front)

    pub torn_within : (f g : List ℕ) → at % 512 + length bytes ≤ 512 → AreTorn at bytes f g → IsTorn at bytes f g
    torn_within f g within torn = record { any = torn.any; whole = torn.whole within }

    pub put_front : (f g : List ℕ) → 0 < length bytes → ArePut at bytes f g → IsFrontPut at (length bytes) bytes f g
    put_front f g some put = grind (arith, common_steps, all_front)

    -- ---- a torn write

    pub torn_none : (f : List ℕ) → AreTorn at bytes f f
    torn_none f = record { any = any_same f; whole = λ within inside. inl refl }

    any_twice : (f g h : List ℕ) → AreAny at (length bytes) f g → AreAny at (length bytes) g h → AreAny at (length bytes) f h
    any_twice f g h first second = grind (arith, common_steps)

    whole_twice : (f g h : List ℕ) → AreWholeOrNot at bytes f g → AreWholeOrNot at bytes g h → AreWholeOrNot at bytes f h
    whole_twice f g h (inl first) second = subst (λ (b : List ℕ). AreWholeOrNot at bytes b h) first second
    whole_twice f g h (inr first) (inl second) = subst (λ (b : List ℕ). AreWholeOrNot at bytes f b) (sym second) (inr first)
    whole_twice f g h (inr first) (inr second) = inr (put_over bytes bytes f g h (omega arith) first second)

    -- torn after torn of the same write is torn
    pub torn_twice : (f g h : List ℕ) → AreTorn at bytes f g → AreTorn at bytes g h → AreTorn at bytes f h
    torn_twice f g h first second = grind (arith, common_steps, any_twice, whole_twice)

    -- ---- a call that wrote a part

    -- of a small write, all bytes were written, or none
    whole_within : (part : ℕ) → IsTrue (is_honest_part at bytes part) → IsTrue (is_small at (length bytes)) → (min part (length bytes) ≡ 0) ⊎ (min part (length bytes) ≡ length bytes)
    unfolding is_honest_part
    whole_within part honest small = grind (arith, common_steps, or_cases, true≢false, not-true, eqb-true, leb-true)

    pub cut_short : (part : ℕ) → IsTrue (is_honest_part at bytes part) → IsTrue (is_small at (length bytes)) → 0 < part → part < length bytes → ⊥
    cut_short part honest small some few = elim (whole_within part honest small) as (λ _. ⊥) [
      | inl none ↦ omega (arith, none, some, few)
      | inr all ↦ omega (arith, all, few)
    ]

    front_of : (file front : List ℕ) (n : ℕ) → take n bytes ≡ front → n ≤ length bytes → IsFrontPut at n bytes file (overlaid file at front)
    front_of file front n is few = grind (arith, common_steps, length_front, overlaid_none, overlaid-ArePut)

    pub put_part : (file : List ℕ) (part least : ℕ) → IsTrue (is_honest_part at bytes part) → least ≤ min part (length bytes) → IsPartPut least at bytes file (overlaid file at (take part bytes))
    put_part file part least honest enough = record {
      count = min part (length bytes);
      few = omega arith;
      enough = enough;
      whole = whole_within part honest;
      put = front_of file (take part bytes) (min part (length bytes)) (take_min part bytes) (omega arith);
    }

-- a write of the first page is small
pub within_page : (count : ℕ) → count ≤ 4096 → IsTrue (is_small 0 count)
within_page count few = ap (λ (b : Bool). nat_le (0 % 512 + count) 512 || b) (le-leb count 4096 few) ∙ or-true (nat_le (0 % 512 + count) 512)

-- a write within one sector is small
pub within_sector : (at count : ℕ) → at % 512 + count ≤ 512 → IsTrue (is_small at count)
within_sector at count within = ap (λ (b : Bool). b || ((at == 0) && nat_le count 4096)) (le-leb (at % 512 + count) 512 within)

-- ---- changes of the length

module _ (count : ℕ) where
  pub sized_over : (f g h : List ℕ) → IsSizedOrNot count f g → IsSized count g h → IsSized count f h
  sized_over f g h (inl same) second = subst (λ (b : List ℕ). IsSized count b h) same second
  sized_over f g h (inr first) second = record { len = second.len; below = λ k low. second.below k low ∙ first.below k low }

  pub sized_twice : (f g h : List ℕ) → IsSizedOrNot count f g → IsSizedOrNot count g h → IsSizedOrNot count f h
  sized_twice f g h first (inl same) = subst (λ (b : List ℕ). IsSizedOrNot count f b) (sym same) first
  sized_twice f g h first (inr second) = inr (sized_over f g h first second)

  pub failed_size : (file : List ℕ) (part : ℕ) → IsSizedOrNot count file (padded_or_not file count part)
  failed_size file zero = inl refl
  failed_size file (suc part) = inr (padded-IsSized file count)
