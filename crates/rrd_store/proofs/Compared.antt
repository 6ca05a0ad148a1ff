-- Two files that are compared block by block, and the spans of the blocks that differ.
use Rattle.std.proofs.Common.{◌≡◌, ℕ, ◌+◌, ◌<◌, ◌≤◌, ◌-◌, List, length, take, drop, slice_index, get_or, inl, inr, sym, ◌∙◌, ap, arith}
use Rattle.std.specs.List.{All}
use Rattle.std.proofs.lemmas.Bool.{cases_lt}
use Rattle.std.proofs.lemmas.List.{get_or-take, get_or-drop}
use Rattle.rrd_file.specs.Spans.{AgreesOutside, IsBeside}
use Rattle.rrd_file.specs.declared.span.Span.{Span}

-- the first `start` bytes were compared: those that differ are in the spans, or in the last one, which may yet grow
pub record IsCompared (start : ℕ) (last : Span) (spans : List Span) (old new : List ℕ) : Type 0 where
  pub within : start ≤ length new
  pub order : last.start ≤ last.end
  pub each : (k : ℕ) → k < start → All (IsBeside k) spans → IsBeside k last → (k < length old) × (slice_index old k ≡ slice_index new k)

-- a block with the same bytes in both
pub same_block : (old new : List ℕ) (start end k : ℕ) → take (end - start) (drop start old) ≡ take (end - start) (drop start new) → end ≤ length old → start ≤ k → k < end
    → (k < length old) × (slice_index old k ≡ slice_index new k)
same_block old new start end k same within from to = (
  omega (arith, within, to),
  sym (read old) ∙ ap (λ (xs : List ℕ). get_or xs (k - start) 0) same ∙ read new,
)
  where
    at : start + (k - start) ≡ k
    at = omega (arith, from)

    read : (xs : List ℕ) → get_or (take (end - start) (drop start xs)) (k - start) 0 ≡ get_or xs k 0
    read xs = get_or-take (end - start) (drop start xs) (k - start) 0 (omega (arith, from, to)) ∙ get_or-drop start xs (k - start) 0 ∙ ap (λ (n : ℕ). get_or xs n 0) at

module _ (start count : ℕ) (last : Span) (spans : List Span) (old new : List ℕ) (done : IsCompared start last spans old new) (less : start + count ≤ length new) where
  -- one more block, which is the same
  pub compared_same : ((k : ℕ) → start ≤ k → k < start + count → (k < length old) × (slice_index old k ≡ slice_index new k)) → IsCompared (start + count) last spans old new
  compared_same same = record {
    within = less;
    order = done.order;
    each = λ k low beside beside_last. elim (cases_lt k start) [
      | inl before ↦ done.each k before beside beside_last
      | inr after ↦ same k after low
    ];
  }

  -- one more, which may differ: the last span grows
  pub compared_more : last.end ≡ start → IsCompared (start + count) (record { start = last.start; end = start + count }) spans old new
  compared_more next = record {
    within = less;
    order = omega (arith, done.order, next);
    each = λ k low beside beside_last. elim beside_last [
      | inl below ↦ done.each k (omega (arith, below, done.order, next)) beside (inl below)
      | inr behind ↦ absurd (omega (arith, behind, low))
    ];
  }

  -- or a new one begins, and the last one is kept
  pub compared_new : (kept : List Span) → ((k : ℕ) → All (IsBeside k) kept → All (IsBeside k) spans × IsBeside k last) → IsCompared (start + count) (record { start = start; end = start + count }) kept old new
  compared_new kept keeps = record {
    within = less;
    order = omega arith;
    each = λ k low beside beside_last. elim beside_last [
      | inl below ↦ done.each k below (keeps k beside).0 (keeps k beside).1
      | inr behind ↦ absurd (omega (arith, behind, low))
    ];
  }

-- all bytes were compared, and the last span is kept too
pub compared_all : (start : ℕ) (last : Span) (spans kept : List Span) (old new : List ℕ) → IsCompared start last spans old new → length new ≤ start
    → ((k : ℕ) → All (IsBeside k) kept → All (IsBeside k) spans × IsBeside k last) → AgreesOutside kept old new
compared_all start last spans kept old new done over keeps = record {
  each = λ k low beside. done.each k (omega (arith, low, over)) (keeps k beside).0 (keeps k beside).1;
}
