-- Law: different databases have different lists in a file.
use Rattle.std.specs.Prelude.{◌≡◌, ℕ, ◌<◌, List, length}
use Rattle.rrd_spec.specs.Names.{AllByRecursion, Cell}
use Rattle.rrd_spec.specs.declared.version.Version.{Version}
use Rattle.rrd_spec.specs.Files.Filed.{filed}
use Rattle.rrd_spec.specs.Limits.{Limits}
use Rattle.rrd_spec.specs.Laws.Slots.{HasOneEach}
use Rattle.rrd_spec.specs.Files.Slots.{by_slot}
use Rattle.rrd_spec.specs.Journal.Survivors.{Stored}
use Rattle.rrd_spec.specs.Validity.{IsValidWithin}

-- rows with one cell for each data source are equal if their numbers and their cells in slot order are
abbrev pub RowsFiledOnce : ℕ → ℕ → ℕ → List (List Cell) → List (List Cell) → Type 0
RowsFiledOnce resolution last sources rows others =
    0 < resolution → AllByRecursion (HasOneEach sources) rows → AllByRecursion (HasOneEach sources) others
    → length rows ≡ length others → by_slot resolution last rows ≡ by_slot resolution last others → rows ≡ others

-- databases with valid contents are equal if their lists are
abbrev pub FiledOnce : Limits → Version → Stored → Stored → Type 0
FiledOnce limits version d other =
    IsValidWithin limits d.content → IsValidWithin limits other.content → filed version d ≡ filed version other
    → d ≡ other
