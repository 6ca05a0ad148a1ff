-- Definition: commands that are accepted, refused and reverted, and which of them survive (this project's rule).
use Rattle.std.specs.Prelude.{◌≡◌, ℕ, zero, suc, ◌+◌, ◌-◌, ◌≤◌, ◌<◌, min, if◌then◌else◌, None, List, [], ◌∷◌, ◌++◌, length, take, reverse}
use Rattle.rrd_spec.specs.History.{Content}
use Rattle.rrd_spec.specs.Commands.{DatabaseChange, content_of, moved}
use Rattle.rrd_spec.specs.Commands.Verdict.{is_accepted, verdict}
use Rattle.rrd_spec.specs.Journal.Entries.{Entry, entry, undone, IsSound}

-- a command that changes the database, or a revert
pub data Action : Type 0 where
  Changed : DatabaseChange → Action
  Reverted : Action

-- the base, the entries that it brought along (newest first), the commands that survive (newest first), and the number
-- of surviving commands that can be reverted
pub record State : Type 0 where
  pub base : Content
  pub brought : List Entry
  pub survivors : List DatabaseChange
  pub revertible : ℕ

-- a database as it is stored: the present content, and the journal, newest entry first
pub record Stored : Type 0 where
  pub content : Content
  pub journal : List Entry

-- the content that the survivors make of the base
abbrev pub survived : Content → List DatabaseChange → Content
survived base newest_first = content_of base (reverse newest_first)

-- the entries of the newest commands, newest first
abbrev pub entries : Content → ℕ → List DatabaseChange → List Entry
entries base zero commands = []
entries base (suc n) [] = []
entries base (suc n) (command ∷ commands) = entry (survived base commands) command ∷ entries base n commands

abbrev pub journal_of : State → List Entry
journal_of state = entries state.base state.revertible state.survivors ++ state.brought

-- ---- the state of a run, by the definition

-- an accepted command survives. The journal has room for `depth` entries: the oldest entries beyond are lost, those
-- that were brought along before the others
abbrev pub with_change : State → DatabaseChange → State
with_change state command = record {
  base = state.base;
  brought = take (state.base.depth - (state.revertible + 1)) state.brought;
  survivors = command ∷ state.survivors;
  revertible = min (state.revertible + 1) state.base.depth;
}

-- a revert drops the newest command that can be reverted; if there is none, the newest entry that was brought along is
-- undone in the base; if there is none either, the revert is refused
abbrev pub without_last : Content → List Entry → List DatabaseChange → ℕ → State
without_last base brought (command ∷ survivors) (suc n) =
    record { base = base; brought = brought; survivors = survivors; revertible = n }
without_last base brought [] (suc n) = record { base = base; brought = brought; survivors = []; revertible = suc n }
without_last base (entry ∷ brought) survivors zero =
    record { base = undone base entry; brought = brought; survivors = []; revertible = 0 }
without_last base [] survivors zero = record { base = base; brought = []; survivors = survivors; revertible = 0 }

abbrev pub after : State → Action → State
after state (Changed command) =
    if is_accepted (survived state.base state.survivors) command then with_change state command else state
after state Reverted = without_last state.base state.brought state.survivors state.revertible

-- ---- the same actions on a content and a journal

abbrev pub reverted : Content → List Entry → Stored
reverted now [] = record { content = now; journal = [] }
reverted now (entry ∷ journal) = record { content = undone now entry; journal = journal }

abbrev pub changed : Stored → DatabaseChange → Stored
changed stored command =
    record {
      content = moved stored.content command;
      journal = take stored.content.depth (entry stored.content command ∷ stored.journal);
    }

abbrev pub stored_after : Stored → Action → Stored
stored_after stored (Changed command) = if is_accepted stored.content command then changed stored command else stored
stored_after stored Reverted = reverted stored.content stored.journal

-- ---- the agreement of both

-- each survivor was accepted on the content that the earlier survivors made
abbrev pub AllAccepted : Content → List DatabaseChange → Type 0
AllAccepted base [] = Unit {0}
AllAccepted base (command ∷ commands) = (verdict (survived base commands) command ≡ None) × AllAccepted base commands

-- undoing the brought entries one after another leaves sound contents of the same depth
abbrev pub AllUndo : Content → List Entry → Type 0
AllUndo base [] = Unit {0}
AllUndo base (entry ∷ entries) =
    IsSound (undone base entry) × ((undone base entry).depth ≡ base.depth) × AllUndo (undone base entry) entries

pub record Stands (state : State) (stored : Stored) : Type 0 where
  pub content_is : stored.content ≡ survived state.base state.survivors
  pub journal_is : stored.journal ≡ journal_of state
  pub enough : state.revertible ≤ length state.survivors
  pub places : state.revertible + length state.brought ≤ state.base.depth
  pub whole : 0 < length state.brought → state.revertible ≡ length state.survivors
  pub all_accepted : AllAccepted state.base state.survivors
  pub sound : IsSound state.base
  pub undo : AllUndo state.base state.brought
