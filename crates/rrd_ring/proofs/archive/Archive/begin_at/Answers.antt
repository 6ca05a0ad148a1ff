use Rattle.std.proofs.lemmas.Grind.{common_steps}
use Rattle.rrd_ring.proofs.Common.{◌≡◌, ◌*◌, ◌<◌, ℕ, List, [], ◌∷◌, arith, length, vec_len, eqb-true, Cell, ring_rows, with_unwritten, unknown_rows, ring_unknown, row_count}
use Rattle.rrd_ring.proofs.archive.Archive.begin_at.Goals as goal

-- rows of which none is written are the same from each index on
blank : (rows sources index : ℕ) (written : List Cell) → length written ≡ 0 → index < rows
    → ring_rows rows sources index (with_unwritten (rows * sources) written) ≡ unknown_rows rows sources
blank rows sources index [] none within = grind (arith, common_steps, ring_unknown rows sources index within)
blank rows sources index (cell ∷ written) none within = absurd (omega arith)

pub overflow_sub-self-inside : goal.overflow_sub-self-inside
overflow_sub-self-inside c = omega (arith, c.requires, row_count c.self.invariant.0 c.self.view_is)

pub returns-then-is_empty : goal.returns-then-is_empty
returns-then-is_empty c = grind (arith, common_steps, vec_len, eqb-true, blank)
