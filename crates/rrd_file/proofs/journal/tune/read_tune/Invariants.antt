use Rattle.rrd_file.proofs.Common.{◌≡◌, ◌∷◌, ◌-◌, ◌≤◌, [], ℕ, List, length, map, ATune, OfCount, OfSavedSource, OfTag, first_due, named_due, Comes}
use Rattle.rrd_file.proofs.journal.tune.read_tune.Given as goal

abbrev pub invariant-loop : goal.invariant-loop
invariant-loop g l =
    (length l.olds.items ≡ l.counter) × (l.lowest ≤ 64)
    × ((bytes : List ℕ) → Comes bytes l.build (OfTag ATune ∷ []) (first_due ATune) l.fn.input
    → Comes bytes l.build (OfTag ATune ∷ OfCount l.count ∷ map OfSavedSource l.olds.items) (named_due l.lowest (l.count - l.counter)) l.input)
