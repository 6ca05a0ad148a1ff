use Rattle.rrd_ring.proofs.Common.{◌∙◌, ap, sym, ℕ, ◌≡◌, ◌++◌, List, [], take, length, replicate, arith, Unknown, Cell, clones_same, take_all}
use Rattle.rrd_ring.proofs.unwritten.UnwrittenRow.new.Goals as goal

-- what is in a list to which only copies were added is a copy
copies : (n : ℕ) (front items added : List Cell) → front ≡ [] → items ≡ take n front ++ added → added ≡ replicate (length added) Unknown → items ≡ replicate (length items) Unknown
copies n front items added none is same =
    let all : items ≡ added = is ∙ ap (λ (xs : List Cell). xs ++ added) (ap (take n) none ∙ take_all n [] (omega arith)) in
    all ∙ same ∙ sym (ap (λ (xs : List Cell). replicate (length xs) Unknown) all)

pub invariant_of-result : goal.invariant_of-result
invariant_of-result c =
    let grown = c.in_ok-resize.ensures.ok in
    copies c.args.sources c.in_ok-cells.cells.items c.resize.new.self.items grown.0 c.in_ok-cells.ensures.items grown.1 (clones_same (λ (x y : Cell). y ≡ x) _ grown.0 grown.2 (λ y same. same) ∙ ap (replicate (length grown.0)) c.unknown.ensures)
