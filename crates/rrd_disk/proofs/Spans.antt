-- Spans, as the crate names them that encodes databases, and as the crate does that changes files.
use Rattle.rrd_disk.proofs.Names.{◌≡◌, ◌⊎◌, [], ◌∷◌, ◌++◌, ℕ, ◌+◌, ◌<◌, ◌≤◌, List, get_or, length, min, take, inl, inr, arith, All-more, in_left, in_right, IsIn, Span, IsBeside, FileSpan, AreMore, AreOf}
use Rattle.std.specs.List.{All}
use Rattle.rrd_file.specs.Spans.{AgreesOutside}

pub are_none : (count : ℕ) (changed : List FileSpan) → AreOf count (take 0 changed) []
are_none count changed = λ k low. inl (λ i d none. absurd (omega (arith, none)))

-- byte k is beside a span, or in it
beside_or : (k start end : ℕ) → ((k < start) ⊎ (end ≤ k)) ⊎ ((start ≤ k) × (k < end))
beside_or k start end = grind arith

pub more_none : (count : ℕ) (span : FileSpan) (spans : List Span) → min span.end count ≤ span.start → AreMore count span spans spans
more_none count span spans empty = grind arith

pub more_pushed : (count start end : ℕ) (span : FileSpan) (spans : List Span) → start ≡ span.start → end ≡ min span.end count → AreMore count span spans (spans ++ record { start = start; end = end } ∷ [])
more_pushed count start end span spans start_is end_is = λ k low. (
  λ is. in_left k spans (record { start = start; end = end } ∷ []) is,
  elim (beside_or k span.start span.end) as (λ _. IsBeside k span ⊎ IsIn k (spans ++ record { start = start; end = end } ∷ [])) [
    | inl here ↦ inl here
    | inr (above, inside) ↦ inr (in_right k spans (record { start = start; end = end } ∷ []) (inl (omega (arith, above, start_is), omega (arith, inside, low, end_is))))
  ],
)

pub are_more : (count n : ℕ) (changed : List FileSpan) (none : FileSpan) (old new : List Span) → n < length changed → AreOf count (take n changed) old → AreMore count (get_or changed n none) old new → AreOf count (take (n + 1) changed) new
are_more count n changed none old new less are more = λ k low. elim (are k low) as (λ _. All (IsBeside k) (take (n + 1) changed) ⊎ IsIn k new) [
  | inl beside ↦ elim (more k low).1 as (λ _. All (IsBeside k) (take (n + 1) changed) ⊎ IsIn k new) [
    | inl here ↦ inl (All-more (IsBeside k) changed n none less beside here)
    | inr is ↦ inr is
  ]
  | inr is ↦ inr ((more k low).0 is)
]

-- one span of all bytes
beside_all : (k count : ℕ) → k < count → IsBeside k (record { start = 0; end = count }) → ⊥
beside_all k count low (inl below) = absurd (omega (arith, below))
beside_all k count low (inr behind) = absurd (omega (arith, behind, low))

pub all_agree : (old new : List ℕ) → AgreesOutside (record { start = 0; end = length new } ∷ []) old new
all_agree old new = record { each = λ k low beside. absurd (beside_all k (length new) low (beside 0 (record { start = 0; end = 0 }) (omega arith))) }
