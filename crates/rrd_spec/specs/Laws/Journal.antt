-- Law: the database that reverts restore and that any run leaves: the content of the survivors, and a valid journal;
-- and the parts of a journal.
use Rattle.std.specs.Prelude.{◌≡◌, ◌-◌, List, length, take, None, [], ◌∷◌, ◌++◌, ◌≤◌}
use Rattle.rrd_spec.specs.Names.{fold}
use Rattle.rrd_spec.specs.Limits.{Limits}
use Rattle.rrd_spec.specs.History.{Content}
use Rattle.rrd_spec.specs.Commands.{DatabaseChange, moved}
use Rattle.rrd_spec.specs.Commands.Verdict.{verdict}
use Rattle.rrd_spec.specs.Journal.Entries.{Entry, entry, undone, IsSound}
use Rattle.rrd_spec.specs.Journal.Survivors.{Action, changed, reverted, stored_after, after, Stands, State, Stored, AllUndo}
use Rattle.rrd_spec.specs.Validity.{IsValid, IsValidDatabase, IsValidJournalWithin, IsValidWithin, Fits}

-- the entry of an accepted command fits the content after the command
abbrev pub EntryFits : Content → DatabaseChange → Type 0
EntryFits base command = IsValid base → verdict base command ≡ None → Fits (moved base command) (entry base command)

-- the entry of an accepted command undoes the command
abbrev pub ComesBack : Content → DatabaseChange → Type 0
ComesBack base command =
    IsSound base → verdict base command ≡ None → undone (moved base command) (entry base command) ≡ base

-- an accepted command leaves a valid database with a valid journal; a full journal drops its oldest entry
abbrev pub DatabaseStays : Content → List Entry → DatabaseChange → Type 0
DatabaseStays now journal command =
    IsValidDatabase now journal
    → verdict now command ≡ None
    → IsValidDatabase (moved now command) (take now.depth (entry now command ∷ journal))

-- a revert leaves a valid database with a valid journal, and an empty journal as it is
abbrev pub RevertStays : Content → List Entry → Type 0
RevertStays now journal =
    let stored = reverted now journal in IsValidDatabase now journal → IsValidDatabase stored.content stored.journal

-- a revert restores the content and the journal from before an accepted command, except the oldest entry of a full
-- journal
abbrev pub RevertTakesBack : Content → List Entry → DatabaseChange → Type 0
RevertTakesBack now journal command =
    let stored = changed (record { content = now; journal = journal }) command in
    IsValidDatabase now journal
    → verdict now command ≡ None
    → reverted stored.content stored.journal ≡ record { content = now; journal = take (now.depth - 1) journal }

-- undoing the whole journal of a valid content leaves a valid content
abbrev pub JournalLeavesValid : Limits → Content → List Entry → Type 0
JournalLeavesValid limits now journal =
    IsValidWithin limits now → IsValidJournalWithin limits now journal → IsValidWithin limits (fold undone now journal)

-- older entries are a journal of the content that the newer entries leave
abbrev pub JournalsJoin : Limits → Content → List Entry → List Entry → Type 0
JournalsJoin limits now newer older =
    IsValidJournalWithin limits now newer → IsValidJournalWithin limits (fold undone now newer) older
    → IsValidJournalWithin limits now (newer ++ older)

abbrev pub JournalParts : Limits → Content → List Entry → List Entry → Type 0
JournalParts limits now newer older =
    IsValidJournalWithin limits now (newer ++ older)
    → IsValidJournalWithin limits now newer × IsValidJournalWithin limits (fold undone now newer) older

-- a valid database represents the state that starts with it: no command survives on its content yet, and its journal is
-- brought along
abbrev pub Begins : Content → List Entry → Type 0
Begins base brought =
    IsValidDatabase base brought
    → Stands (record { base = base; brought = brought; survivors = []; revertible = 0 }) (record {
      content = base;
      journal = brought;
    })

-- if a database represents a state, it represents the state after one more action too
abbrev pub ActsOn : State → Stored → Action → Type 0
ActsOn state kept action = Stands state kept → Stands (after state action) (stored_after kept action)

-- after any list of actions the content is that of the survivors, and the journal has their entries
abbrev pub RunsAgree : Content → List Entry → List Action → Type 0
RunsAgree base brought actions =
    IsSound base → AllUndo base brought → length brought ≤ base.depth
    → Stands (fold after (record {
      base = base;
      brought = brought;
      survivors = [];
      revertible = 0;
    }) actions) (fold stored_after (record { content = base; journal = brought }) actions)

-- a run on a valid database follows the definition of the survivors, and leaves a valid database
pub record RunStays (base : Content) (brought : List Entry) (actions : List Action) : Type 0 where
  pub stands :
      let stored = fold stored_after (record { content = base; journal = brought }) actions in
      Stands
      (fold after (record { base = base; brought = brought; survivors = []; revertible = 0 }) actions) stored
  pub valid :
      let stored = fold stored_after (record { content = base; journal = brought }) actions in
      IsValidDatabase stored.content stored.journal

abbrev pub RunsStay : Content → List Entry → List Action → Type 0
RunsStay base brought actions = IsValidDatabase base brought → RunStays base brought actions
