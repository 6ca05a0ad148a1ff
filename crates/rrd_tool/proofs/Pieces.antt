-- Texts that are cut at their colons.
use Rattle.std.specs.Prelude.{◌≡◌, ℕ, List, [], ◌∷◌, ◌++◌, Some, None, option_map}
use Rattle.rrd_tool.proofs.Names.{ap₂, refl, sym, arith, IsSplitOnceResult, split_parts, Lacks, list_any-Lacks, list_any-at, before_first-at, after_first-at, slice_split-Lacks, slice_split-at, cut_of, pieces}

cut_none : (text : List ℕ) → Lacks 58 text → cut_of text ≡ None
cut_none text lacks = rw (list_any-Lacks 58 text lacks) refl

cut_at : (text before after : List ℕ) → text ≡ before ++ 58 ∷ after → Lacks 58 before → cut_of text ≡ Some (before, after)
cut_at text before after e lacks =
    rw (e, list_any-at 58 before after) (ap₂ (λ a b. Some (a, b)) (before_first-at 58 before after lacks) (after_first-at 58 before after lacks))

pub cut_is : (text : List ℕ) (r : _) → IsSplitOnceResult 58 text r → option_map (λ p. (p.0.now, p.1.now)) r ≡ cut_of text
cut_is text None h = sym (cut_none text (split_parts 58 text None h (omega arith)))
cut_is text (Some p) h =
    let parts = split_parts 58 text (Some p) h (omega arith) in
    sym (cut_at text p.0.now p.1.now parts.0 parts.1)

pub pieces_none : (text : List ℕ) → IsSplitOnceResult 58 text None → pieces text ≡ text ∷ []
pieces_none text h = slice_split-Lacks 58 text (split_parts 58 text None h (omega arith))

pub pieces_some : (text : List ℕ) (p : _) → IsSplitOnceResult 58 text (Some p) → pieces text ≡ p.0.now ∷ pieces p.1.now
pieces_some text p h =
    let parts = split_parts 58 text (Some p) h (omega arith) in
    rw parts.0 (slice_split-at 58 p.0.now p.1.now parts.1)
