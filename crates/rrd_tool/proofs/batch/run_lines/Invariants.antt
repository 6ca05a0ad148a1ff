use Rattle.rrd_tool.proofs.Common.{GoesOnBy, List, ℕ, Option, [], ◌≤◌, ◌*◌, Consumes, State, Buffers, last_part, whole_lines, Ran, Tally, no_lines, Tallies, StandsFor, turn}
use Rattle.rrd_tool.proofs.batch.run_lines.Given as goal

abbrev pub invariant-reads : goal.invariant-reads
invariant-reads g l = ((s0 : Option State) → StandsFor l.fn.batch.database s0 → (most : ℕ) → Tallies most l.fn.batch.refusals no_lines
    → (seen : List ℕ) × Consumes (g.R.Read.remaining l.fn.reader) (g.R.Read.remaining l.reader) seen
    × (s1 : Option State) × StandsFor l.batch.database s1
    × (tally : Tally) × Tallies most l.batch.refusals tally
    × Ran (turn l.context.now) s0 s1 no_lines tally (g.W.Write.contents l.fn.out) (g.W.Write.contents l.out) (whole_lines [] seen)
    × Buffers l.line (last_part [] seen))
    × (l.batch.refusals.lines ≤ 65536 * l.counter)
    × GoesOnBy l.fn.batch.changed_by l.batch.changed_by l.fn.batch.database l.batch.database
