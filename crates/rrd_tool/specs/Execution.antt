-- Definition: the result of running one command (this project's rule).
use Rattle.std.specs.Prelude.{◌≡◌, ◌⊎◌, ℕ, Bool, List, Option, Some, None, true, false, option_map}
use Rattle.rrd_tool.specs.Names.{Appends, Keeps, AppendsFront, State, Stored}
use Rattle.rrd_spec.specs.declared.refusal.Refusal.TheVariants as refusal
use Rattle.rrd_tool.specs.Commands.{effect}
use Rattle.rrd_tool.specs.Effects.{Effect, StandsFor, is_change, stored_next, stored_of, next, takes_memory, text_on, verdict_on}
use Rattle.rrd_tool.specs.Lines.{is_empty}
use Rattle.rrd_tool.specs.declared.commands.Command.{Command}
use Rattle.rrd_tool.specs.declared.faults.Fault.{Fault}
use Rattle.rrd_tool.specs.declared.faults.Fault.TheVariants.{Line, Refused, NoDatabase, Output}
use Rattle.rrd_tool.specs.declared.execution.Outcome.{Outcome}
use Rattle.rrd_tool.specs.declared.execution.Outcome.TheVariants as outcome
pub mod Printing

-- the error of the verdict; or memory ran out for an accepted effect
abbrev pub IsFault : Option Fault → Effect → Fault → Type 0
IsFault verdict effect fault =
    (verdict ≡ Some fault)
    ⊎ ((verdict ≡ None) × (fault ≡ Refused refusal.OutOfMemory) × (takes_memory effect ≡ true))

-- the result of a command with this effect, by its verdict and its text. `Moved` means that the database is the one
-- after the effect, `Same` that it is the one before. After a failed write the command is done, and a prefix of the
-- text is written; any other error changed nothing and wrote nothing
abbrev pub Comes : Option Fault → List ℕ → Effect → Type 0 → Type 0 → Option (List ℕ) → Option (List ℕ) → Bool
    → Option Fault → Type 0
Comes verdict text effect Moved Same c0 c1 changed None =
    (verdict ≡ None) × Moved × (changed ≡ is_change effect) × Appends c0 c1 text
Comes verdict text effect Moved Same c0 c1 changed (Some Output) =
    (verdict ≡ None) × Moved × (changed ≡ is_change effect) × AppendsFront c0 c1 text
Comes verdict text effect Moved Same c0 c1 changed (Some (Line fault)) =
    IsFault verdict effect (Line fault) × Same × (changed ≡ false) × Keeps c0 c1
Comes verdict text effect Moved Same c0 c1 changed (Some (Refused fault)) =
    IsFault verdict effect (Refused fault) × Same × (changed ≡ false) × Keeps c0 c1
Comes verdict text effect Moved Same c0 c1 changed (Some NoDatabase) =
    IsFault verdict effect NoDatabase × Same × (changed ≡ false) × Keeps c0 c1

-- ---- the parts of an outcome

-- the database that is left
abbrev pub database_left : Outcome → Option Stored
database_left (outcome.Printed database) = Some database
database_left (outcome.Changed database) = Some database
database_left (outcome.Refused database fault) = database

-- whether the command was done and changed the database
abbrev pub has_changed : Outcome → Bool
has_changed (outcome.Printed database) = false
has_changed (outcome.Changed database) = true
has_changed (outcome.Refused database fault) = false

-- the error of a command that was not done, or not completely
abbrev pub fault_left : Outcome → Option Fault
fault_left (outcome.Printed database) = None
fault_left (outcome.Changed database) = None
fault_left (outcome.Refused database fault) = Some fault

-- a command with this effect, on a database with this content and journal
abbrev pub Affects : Option Stored → Effect → Option (List ℕ) → Option (List ℕ) → Outcome → Type 0
Affects kept effect c0 c1 outcome =
    Comes (verdict_on kept effect) (text_on kept effect) effect (database_left outcome ≡ stored_next kept effect)
    (database_left outcome ≡ kept) c0 c1 (has_changed outcome) (fault_left outcome)

-- the command, on a database with this content and journal
abbrev pub Executes : Option Stored → Command → Option (List ℕ) → Option (List ℕ) → Outcome → Type 0
Executes kept command c0 c1 outcome = Affects kept (effect command) c0 c1 outcome

-- a command that was done and changed nothing printed some text
abbrev pub PrintsSome : Option Stored → Command → Outcome → Type 0
PrintsSome kept command outcome =
    fault_left outcome ≡ None → has_changed outcome ≡ false → is_empty (text_on kept (effect command)) ≡ false

-- a command with this effect, in a run that reached this state
abbrev pub AffectsIn : Option State → Effect → Option (List ℕ) → Option (List ℕ) → Outcome → Type 0
AffectsIn state effect c0 c1 outcome =
    Comes (verdict_on (option_map stored_of state) effect) (text_on (option_map stored_of state) effect) effect
    (StandsFor (database_left outcome) (next state effect)) (StandsFor (database_left outcome) state)
    c0 c1 (has_changed outcome) (fault_left outcome)

-- the command, in a run that reached this state
abbrev pub RunsOn : Option State → Command → Option (List ℕ) → Option (List ℕ) → Outcome → Type 0
RunsOn state command c0 c1 outcome = AffectsIn state (effect command) c0 c1 outcome
