use Rattle.rrd_file.proofs.Common.{◌-◌, ◌^◌, ℕ, List, Body, Stands}
use Rattle.rrd_file.proofs.read_body.Given as goal

abbrev pub invariant-loop-input : goal.invariant-loop-input
invariant-loop-input g l = (bytes : List ℕ) → Stands bytes (Body l.fn.build) l.fn.input → Stands bytes (Body l.build) l.input

abbrev pub decreases-loop-input : goal.decreases-loop-input
decreases-loop-input g l = 2 ^ 64 - l.input.at
