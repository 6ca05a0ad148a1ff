-- Law: the changes that an accepted command makes in a content, and all that it keeps.
use Rattle.std.specs.Prelude.{◌≡◌, ◌++◌, ℕ, List, [], length, map, false, Some, None, ◌∷◌, slice_index_or, ◌<◌, ◌≤◌, replicate, reverse}
use Rattle.rrd_spec.specs.Names.{AllByRecursion, remove, Cell}
use Rattle.rrd_spec.specs.Limits.{present}
use Rattle.rrd_spec.specs.History.{Content, IsBase, raws_under}
use Rattle.rrd_spec.specs.Commands.{DatabaseChange, events, settings_of, moved, content_of, Resizing, TuningBy, raw_of, rows_changed, rows_of_archives, tuned}
use Rattle.rrd_spec.specs.Commands.Verdict.{verdict, Check, checks}
use Rattle.rrd_spec.specs.Journal.Entries.{IsSound, rows_at, with_rows_at}
use Rattle.rrd_spec.specs.Journal.Survivors.{AllAccepted, survived}
use Rattle.rrd_spec.specs.Laws.ListedContent.{KeepsArchives, keep_last, filled_up, moved_listed}
use Rattle.rrd_spec.specs.Laws.ListedLives.{content_lived}
use Rattle.rrd_spec.specs.Validity.{IsValid, AreAccepted}
use Rattle.rrd_spec.specs.declared.requests.resize.Change.{Change}
use Rattle.rrd_spec.specs.declared.settings.DsDef.{DsDef}
use Rattle.rrd_spec.specs.declared.requests.tune.Tuning.{Tuning}
use Rattle.rrd_spec.specs.declared.requests.tune.ArchiveTune.TheVariants.{Add, Remove}
use Rattle.rrd_spec.specs.declared.settings.RraDef.{RraDef}
use Rattle.rrd_spec.specs.History.Lives.{new_archive}
use Rattle.rrd_spec.specs.declared.requests.update.Given.{Given}

abbrev pub Passes : Check → Type 0
Passes check = check.wrong ≡ false

-- an accepted command passes each check
abbrev pub PassesAll : Content → DatabaseChange → Type 0
PassesAll base command = verdict base command ≡ None → AllByRecursion Passes (checks present base command)

-- each data source accepts the raw value that it keeps of a given value
abbrev pub AreKept : (DsDef → Given) → List DsDef → Type 0
AreKept given sources = AreAccepted sources (map (λ (source : DsDef). raw_of source.kind (given source)) sources)

-- an accepted command makes the same content as lists and by times
abbrev pub MovesListed : Content → DatabaseChange → Type 0
MovesListed base command =
    IsValid base → verdict base command ≡ None
    → content_lived base (events (settings_of base) command) ≡ moved base command

-- if an accepted command neither adds nor removes an archive, the lists may be those of the base's archives
abbrev pub MovesListedByNumber : Content → DatabaseChange → Type 0
MovesListedByNumber base command =
    IsValid base → verdict base command ≡ None → KeepsArchives (events (settings_of base) command)
    → moved_listed base command ≡ moved base command

-- one more accepted command moves the content once more
abbrev pub Moves : Content → List DatabaseChange → DatabaseChange → Type 0
Moves base commands command =
    IsSound base → AllAccepted base (command ∷ commands)
    → survived base (command ∷ commands) ≡ moved (survived base commands) command

-- on the content that accepted commands leave, further commands make the content of all commands
abbrev pub CommandsGoOn : Content → List DatabaseChange → List DatabaseChange → Type 0
CommandsGoOn base first second =
    IsSound base → AllAccepted base (reverse (first ++ second))
    → content_of base (first ++ second) ≡ content_of (content_of base first) second

-- a tune without an archive gives the data sources their new settings, and makes the raw value unknown if the type
-- changes; all else stays unchanged
abbrev pub TuneChanges : Content → Tuning → Type 0
TuneChanges base tuning =
    let sources = map (tuned tuning) base.sources in
    IsBase base → tuning.archive ≡ None → moved base (TuningBy tuning)
    ≡ record base { sources = sources; raws = raws_under base.sources sources base.raws }

-- a tune that adds an archive puts a new one after the others; all else stays unchanged
abbrev pub TuneAdds : Content → Tuning → RraDef → Type 0
TuneAdds base tuning def =
    IsValid base → tuning.archive ≡ Some (Add def) → verdict base (TuningBy tuning) ≡ None
    → moved base (TuningBy tuning)
    ≡ record base { archives = base.archives ++ new_archive (length base.sources) def ∷ [] }

-- a tune that removes an archive removes an existing one; all else stays unchanged
abbrev pub TuneRemoves : Content → Tuning → ℕ → Type 0
TuneRemoves base tuning number =
    IsValid base → tuning.archive ≡ Some (Remove number) → verdict base (TuningBy tuning) ≡ None
    → (number < length base.archives)
    × (moved base (TuningBy tuning) ≡ record base { archives = remove base.archives number })

-- the number of rows of an archive after a resize
abbrev pub rows_then : Content → ℕ → Change → ℕ → ℕ
rows_then base archive change rows =
    rows_changed change (slice_index_or (rows_of_archives base.archives) archive 0) rows

-- an accepted resize names an existing archive, and asks for and leaves a number of rows within the limits
pub record IsResize (base : Content) (archive : ℕ) (change : Change) (rows : ℕ) : Type 0 where
  pub there : archive < length base.archives
  pub few_asked : rows ≤ present.max_rows
  pub some_then : 0 < rows_then base archive change rows
  pub few_then : rows_then base archive change rows ≤ present.max_rows

abbrev pub ResizeFits : Content → ℕ → Change → ℕ → Type 0
ResizeFits base archive change rows =
    IsValid base → verdict base (Resizing archive change rows) ≡ None → IsResize base archive change rows

-- the `n` newest rows of an archive; if there are fewer, unknown rows precede them
abbrev pub newest_of : Content → ℕ → ℕ → List (List Cell)
newest_of base archive n =
    filled_up n (replicate (length base.sources) Cell.Unknown) (keep_last n (rows_at base.archives archive))

-- an accepted resize leaves its archive the newest rows; all else stays unchanged
abbrev pub ResizeChanges : Content → ℕ → Change → ℕ → Type 0
ResizeChanges base archive change rows =
    let newest = newest_of base archive (rows_then base archive change rows) in
    IsValid base → verdict base (Resizing archive change rows) ≡ None → moved base (Resizing archive change rows)
    ≡ record base { archives = with_rows_at base.archives archive newest }
