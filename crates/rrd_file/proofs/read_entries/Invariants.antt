use Rattle.rrd_file.proofs.Common.{◌≡◌, ◌-◌, ◌⊎◌, ℕ, List, length, due, EntryDue, NothingDue, Body, Stands}
use Rattle.rrd_file.proofs.read_entries.Given as goal

abbrev pub invariant-loop-input : goal.invariant-loop-input
invariant-loop-input g l =
    ((due l.build ≡ EntryDue) ⊎ (due l.build ≡ NothingDue))
    × ((bytes : List ℕ) → Stands bytes (Body l.fn.build) l.fn.input → Stands bytes (Body l.build) l.input)

abbrev pub decreases-loop-input : goal.decreases-loop-input
decreases-loop-input g l = l.build.header.entries - length l.build.entries
