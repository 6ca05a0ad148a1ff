-- Law: which entries a journal may contain, decided by outlines alone.
use Rattle.std.specs.Prelude.{◌≡◌, ℕ, List, [], ◌∷◌, ◌++◌, length}
use Rattle.rrd_spec.specs.Names.{fold}
use Rattle.rrd_spec.specs.declared.outline.Outline.{Outline}
use Rattle.rrd_spec.specs.Limits.{Limits}
use Rattle.rrd_spec.specs.History.{Content}
use Rattle.rrd_spec.specs.Journal.Entries.{Entry, undone}
use Rattle.rrd_spec.specs.Journal.Survivors.{Stored}
use Rattle.rrd_spec.specs.Validity.{FitsWithin, IsValidJournalWithin, IsValidWithin}
use Rattle.rrd_spec.specs.declared.version.Version.{Version}
use Rattle.rrd_spec.specs.Files.Filed.{filed}
use Rattle.rrd_spec.specs.Journal.Outlines.{outline_of, outline_undone}
use Rattle.rrd_spec.specs.Journal.Fitting.{MayUndo}
use Rattle.rrd_spec.specs.Files.Rebuilding.{outline_filed}

-- ---- outlines of contents

-- undoing one entry or many keeps the seconds in a step, and changes the outline by the entries alone
pub record OutlineFollows (now : Content) (journal : List Entry) : Type 0 where
  pub step_stays : (fold undone now journal).step ≡ now.step
  pub outline_is : outline_of (fold undone now journal) ≡ fold outline_undone (outline_of now) journal

-- the lists of a database have the outline of its content
abbrev pub FiledOutline : Version → Stored → Type 0
FiledOutline version d =
    length d.content.raws ≡ length d.content.sources → length d.content.parts ≡ length d.content.sources
    → outline_filed (filed version d) ≡ outline_of d.content

-- ---- one entry

-- an entry that the outline of a valid content allows fits the content, and undoing it leaves a valid content
abbrev pub OutlineSuffices : Limits → Content → Entry → Type 0
OutlineSuffices limits now entry =
    IsValidWithin limits now → MayUndo limits now.step (outline_of now) entry
    → FitsWithin limits now entry × IsValidWithin limits (undone now entry)

-- the outline allows each entry that fits and leaves a valid content
abbrev pub OutlineIsNeeded : Limits → Content → Entry → Type 0
OutlineIsNeeded limits now entry =
    IsValidWithin limits now → FitsWithin limits now entry → IsValidWithin limits (undone now entry)
    → MayUndo limits now.step (outline_of now) entry

-- ---- journals

-- a journal takes one more entry, older than all others, if the outline that is left allows the entry
abbrev pub JournalTakes : Limits → Content → List Entry → Entry → Type 0
JournalTakes limits now journal entry =
    IsValidWithin limits now → IsValidJournalWithin limits now journal
    → MayUndo limits now.step (fold outline_undone (outline_of now) journal) entry
    → IsValidJournalWithin limits now (journal ++ entry ∷ [])

-- a journal takes one more entry only if the outline that is left allows the entry
abbrev pub JournalTook : Limits → Content → List Entry → Entry → Type 0
JournalTook limits now journal entry =
    IsValidWithin limits now → IsValidJournalWithin limits now (journal ++ entry ∷ [])
    → IsValidJournalWithin limits now journal
    × MayUndo limits now.step (fold outline_undone (outline_of now) journal) entry

-- the entries that outlines allow one after another, newest first
abbrev pub MayUndoEach : Limits → ℕ → Outline → List Entry → Type 0
MayUndoEach limits step now [] = Unit {0}
MayUndoEach limits step now (entry ∷ journal) =
    MayUndo limits step now entry × MayUndoEach limits step (outline_undone now entry) journal

-- these entries are a journal of a valid content, and no other list is
abbrev pub OutlinesSuffice : Limits → Content → List Entry → Type 0
OutlinesSuffice limits now journal =
    IsValidWithin limits now → MayUndoEach limits now.step (outline_of now) journal
    → IsValidJournalWithin limits now journal

abbrev pub OutlinesAreNeeded : Limits → Content → List Entry → Type 0
OutlinesAreNeeded limits now journal =
    IsValidWithin limits now → IsValidJournalWithin limits now journal
    → MayUndoEach limits now.step (outline_of now) journal
