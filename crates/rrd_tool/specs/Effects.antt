-- Definition: the effects of commands, and the result of each kind of effect, on a database and in a run (this
-- project's rule).
use Rattle.std.specs.Prelude.{◌∷◌, [], ℕ, Bool, List, Option, Some, None, Result, true, false, option_map}
use Rattle.rrd_tool.specs.Names.{unwrap_or, result_err, result_ok, CreateSpec, Refusal, NothingToRevert, Content, DatabaseChange, Resizing, TuningBy, Updating, is_addition, create_verdict, created, Entry, State, Stored, Changed, Reverted, Stands, after, changed, journal_of, reverted, survived, verdict}
use Rattle.rrd_tool.specs.declared.faults.Fault.{Fault}
use Rattle.rrd_tool.specs.declared.faults.Fault.TheVariants.{Refused, NoDatabase}

-- the effect of a command: it creates a database, changes one, undoes the newest change, or shows a text of one or the
-- reason why there is no text
pub data Effect : Type 0 where
  Makes : CreateSpec → Effect
  Changes : DatabaseChange → Effect
  Reverts : Effect
  Shows : (Stored → Result (List ℕ) Refusal) → Effect

-- ---- effects on a database

-- the refusal of a revert, `None` if the journal has an entry
abbrev pub revert_verdict : List Entry → Option Refusal
revert_verdict [] = Some NothingToRevert
revert_verdict (entry ∷ journal) = None

-- the error on a database with this content and journal, `None` if the effect is accepted. Memory is left out
abbrev pub verdict_on : Option Stored → Effect → Option Fault
verdict_on kept (Makes spec) = option_map Refused (create_verdict spec)
verdict_on None effect = Some NoDatabase
verdict_on (Some kept) (Changes command) = option_map Refused (verdict kept.content command)
verdict_on (Some kept) Reverts = option_map Refused (revert_verdict kept.journal)
verdict_on (Some kept) (Shows show) = option_map Refused (result_err (show kept))

-- the text that is printed, if the effect is accepted
abbrev pub text_on : Option Stored → Effect → List ℕ
text_on kept (Makes spec) = []
text_on kept (Changes command) = []
text_on kept Reverts = []
text_on None (Shows show) = []
text_on (Some kept) (Shows show) = unwrap_or (result_ok (show kept)) []

-- whether the effect changes the database, if it is accepted
abbrev pub is_change : Effect → Bool
is_change (Makes spec) = true
is_change (Changes command) = true
is_change Reverts = true
is_change (Shows show) = false

-- whether memory may run out, if the effect is accepted
abbrev pub takes_memory : Effect → Bool
takes_memory (Makes spec) = true
takes_memory (Changes (Updating update)) = true
-- only for an archive that is added
takes_memory (Changes (TuningBy tuning)) = is_addition tuning.archive
takes_memory (Changes (Resizing archive change rows)) = true
takes_memory Reverts = false
takes_memory (Shows show) = false

-- the database after the effect, if it is accepted
abbrev pub stored_next : Option Stored → Effect → Option Stored
stored_next kept (Makes spec) = Some (record { content = created spec; journal = [] })
stored_next kept (Changes command) = option_map (λ (k : Stored). changed k command) kept
stored_next kept Reverts = option_map (λ (k : Stored). reverted k.content k.journal) kept
stored_next kept (Shows show) = kept

-- ---- effects in a run

-- the content and the journal that the survivors make
abbrev pub stored_of : State → Stored
stored_of state = record { content = survived state.base state.survivors; journal = journal_of state }

-- a new base, on which no command survives yet
abbrev pub first_state : Content → State
first_state base = record { base = base; brought = []; survivors = []; revertible = 0 }

-- the state after the effect, if it is accepted
abbrev pub next : Option State → Effect → Option State
next state (Makes spec) = Some (first_state (created spec))
next state (Changes command) = option_map (λ (s : State). after s (Changed command)) state
next state Reverts = option_map (λ (s : State). after s Reverted) state
next state (Shows show) = state

-- the database represents the state; no database represents no state
abbrev pub StandsFor : Option Stored → Option State → Type 0
StandsFor None None = Unit {0}
StandsFor None (Some state) = ⊥
StandsFor (Some kept) None = ⊥
StandsFor (Some kept) (Some state) = Stands state kept
