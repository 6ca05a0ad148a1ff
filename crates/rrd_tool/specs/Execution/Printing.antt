-- Glue: the result of a command that prints.
use Rattle.std.specs.Prelude.{◌≡◌, ℕ, List, Option, Some, None, false}
use Rattle.rrd_tool.specs.Names.{Appends, AppendsFront, Stored}
use Rattle.rrd_tool.specs.Execution.{database_left, fault_left, has_changed}
use Rattle.rrd_tool.specs.declared.execution.Outcome.{Outcome}
use Rattle.rrd_tool.specs.declared.faults.Fault.{Fault}
use Rattle.rrd_tool.specs.declared.faults.Fault.TheVariants.{Line, Refused, NoDatabase, Output}

-- a text was printed, or after a failed write a prefix of it
abbrev pub PrintsBy : Option (List ℕ) → Option (List ℕ) → List ℕ → Option Fault → Type 0
PrintsBy c0 c1 text None = Appends c0 c1 text
PrintsBy c0 c1 text (Some Output) = AppendsFront c0 c1 text
PrintsBy c0 c1 text (Some (Line fault)) = ⊥
PrintsBy c0 c1 text (Some (Refused fault)) = ⊥
PrintsBy c0 c1 text (Some NoDatabase) = ⊥

-- the database stays unchanged, and the text was printed
abbrev pub Prints : Stored → Option (List ℕ) → Option (List ℕ) → List ℕ → Outcome → Type 0
Prints kept c0 c1 text outcome =
    (database_left outcome ≡ Some kept) × (has_changed outcome ≡ false) × PrintsBy c0 c1 text (fault_left outcome)
