-- Law: the limits of each version are within those of every database; and a file of version 1 has no entry for an
-- archive that was added or removed.
use Rattle.std.specs.Prelude.{◌≡◌, ℕ, List}
use Rattle.rrd_spec.specs.Limits.{limits_of}
use Rattle.rrd_spec.specs.History.{Rra, Content}
use Rattle.rrd_spec.specs.Journal.Entries.{AddedEntry, Entry, RemovedEntry}
use Rattle.rrd_spec.specs.Validity.{Fits, FitsWithin, IsValid, IsValidDatabase, IsValidDatabaseWithin, IsValidJournal, IsValidJournalWithin, IsValidWithin}
use Rattle.rrd_spec.specs.Files.Filed.{Filed}
use Rattle.rrd_spec.specs.Files.Rebuilding.{MayEntry}
use Rattle.rrd_spec.specs.declared.version.Version.{Version}
use Rattle.rrd_spec.specs.declared.version.Version.TheVariants.{One}

abbrev pub ContentIsWithin : Version → Content → Type 0
ContentIsWithin version content = IsValidWithin (limits_of version) content → IsValid content

abbrev pub EntryIsWithin : Version → Content → Entry → Type 0
EntryIsWithin version now entry = FitsWithin (limits_of version) now entry → Fits now entry

abbrev pub JournalIsWithin : Version → Content → List Entry → Type 0
JournalIsWithin version now journal =
    IsValidJournalWithin (limits_of version) now journal → IsValidJournal now journal

abbrev pub DatabaseIsWithin : Version → Content → List Entry → Type 0
DatabaseIsWithin version now journal =
    IsValidDatabaseWithin (limits_of version) now journal → IsValidDatabase now journal

-- in a file of version 1 neither entry may come, whatever came before it
abbrev pub FirstTellsNoArchive : Filed → Type 0
FirstTellsNoArchive f =
    f.header.version ≡ One
    → (MayEntry f AddedEntry → ⊥) × ((number : ℕ) (archive : Rra) → MayEntry f (RemovedEntry number archive) → ⊥)
