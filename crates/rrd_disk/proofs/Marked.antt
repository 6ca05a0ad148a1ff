-- The first sixteen bytes of a file say its mark.
use Rattle.rrd_disk.proofs.Names.{◌≡◌, ℕ, ◌+◌, ◌<◌, ◌≤◌, min, Bool, true, List, Option, Some, None, length, take, drop, sym, ◌∙◌, ap, inl, inr, arith, length-drop, length-take, get_or-take, get_or-drop, if◌then◌else◌, w64, from_be_bytes, cases_Bool, cases_lt, true≢false, ext_get_or, front_from_reads, front_reads, begins_with, Cut, cut_mark, log_mark, spelled_tail, begins_from, front_of, Begins, common_steps}
use Rattle.rrd_change.specs.Settled.{Log, Mark, mark_of}
use Rattle.rrd_disk.proofs.Fronts.{whole}

module _ (file front : List ℕ) (begins : Begins file front) where
  -- ---- a test of fewer bytes

  module _ (mark : List ℕ) (few : length mark ≤ length front) where
    begins_more : begins_with front mark ≡ true → begins_with file mark ≡ true
    begins_more is = begins_from file mark (drop (length mark) file)
        (front_from_reads 0 file mark (omega (arith, few, begins.within))
        (λ i low. sym (begins.each i (omega (arith, low, few))) ∙ front_reads 0 front mark (drop (length mark) front) (front_of front mark is) i low))

    begins_less : begins_with file mark ≡ true → begins_with front mark ≡ true
    begins_less is = begins_from front mark (drop (length mark) front)
        (front_from_reads 0 front mark few
        (λ i low. begins.each i (omega (arith, low, few)) ∙ front_reads 0 file mark (drop (length mark) file) (front_of file mark is) i low))

    begins_same : begins_with front mark ≡ begins_with file mark
    begins_same = grind (arith, common_steps, cases_Bool, begins_more, true≢false, begins_less)

  -- ---- the first bytes

  pub take_same : (n : ℕ) → n ≤ length front → take n front ≡ take n file
  take_same n few = ext_get_or 0 (take n front) (take n file)
      (omega (arith, few, begins.within, length-take n front, length-take n file))
      (λ i low.
      let small : i < n = omega (arith, low, length-take n front) in
      get_or-take n front i 0 small ∙ begins.each i (omega (arith, small, few)) ∙ sym (get_or-take n file i 0 small))

  tail_same : 16 ≤ length front → spelled_tail front ≡ spelled_tail file
  tail_same long = ap (λ (b : List ℕ). from_be_bytes w64 b) (ext_get_or 0 (take 8 (drop 8 front)) (take 8 (drop 8 file))
      (omega (arith, long, begins.within, length-take 8 (drop 8 front), length-take 8 (drop 8 file), length-drop 8 front, length-drop 8 file))
      (λ i low.
      let small : i < 8 = omega (arith, low, length-take 8 (drop 8 front)) in
      get_or-take 8 (drop 8 front) i 0 small ∙ get_or-drop 8 front i 0 ∙ begins.each (8 + i) (omega (arith, small, long))
      ∙ sym (get_or-drop 8 file i 0) ∙ sym (get_or-take 8 (drop 8 file) i 0 small)))

  abbrev marked_by : Bool → Bool → ℕ → Option Mark
  marked_by is_cut is_log tail = if is_cut then Some Cut else (if is_log then Some (Log tail) else None)

  mark_same : 16 ≤ length front → mark_of front ≡ mark_of file
  unfolding mark_of
  mark_same long =
      let tail = spelled_tail file in
      ap (λ (t : ℕ). marked_by (begins_with front cut_mark) (begins_with front (log_mark t)) t) (tail_same long)
      ∙ ap (λ (b : Bool). marked_by (begins_with front cut_mark) b tail) (begins_same (log_mark tail) (omega (arith, long)))
      ∙ ap (λ (b : Bool). marked_by b (begins_with file (log_mark tail)) tail) (begins_same cut_mark (omega (arith, long)))

  pub mark_shown : min 16 (length file) ≤ length front → mark_of front ≡ mark_of file
  mark_shown enough = elim (cases_lt (length front) 16) as (λ _. mark_of front ≡ mark_of file) [
    | inl short ↦ ap mark_of (whole file front begins (omega (arith, enough, short, begins.within)))
    | inr long ↦ mark_same long
  ]
