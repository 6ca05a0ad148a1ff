-- Law: the rows that an archive shows, by time, as lists and by age.
use Rattle.std.specs.Prelude.{◌≡◌, ◌++◌, ℕ, ◌-◌, ◌/◌, List, length, take, map, if◌then◌else◌, ℤ, nat_lt, Some, slice_index_or, ◌<◌, ◌≤◌, min, pos, slice_get}
use Rattle.rrd_spec.specs.Names.{range_with_len, Cell, int_rem_euclid}
use Rattle.rrd_spec.specs.History.{Content, Rra, Event, moment_of, IsHistory, IsBase, Reading, Sampled, IsArchive}
use Rattle.rrd_spec.specs.Commands.{events}
use Rattle.rrd_spec.specs.History.Lives.{Life, life_of, lives}
use Rattle.rrd_spec.specs.Settings.{resolution}
use Rattle.rrd_spec.specs.History.Steps.{steps_of, step as step_numbered}
use Rattle.rrd_spec.specs.History.Rows.{rows_of, row}
use Rattle.rrd_spec.specs.Laws.ListedContent.{KeepsArchives, content_listed, keep_last, filled_up, kept_rows}
use Rattle.rrd_spec.specs.Laws.ListedLives.{content_lived}
use Rattle.rrd_spec.specs.History.Cells.{row_at, cell_at, cell, content, row_by_time}

-- the rows of a content as lists are its rows by their times, whatever archives are added and removed
abbrev pub IsListed : Content → List Event → Type 0
IsListed base events =
    IsBase base → IsHistory (moment_of base) events → content_lived base events ≡ content base events

-- if no archive is added or removed, the lists may be those of the base's archives, number by number
abbrev pub IsListedByNumber : Content → List Event → Type 0
IsListedByNumber base events =
    IsBase base → IsHistory (moment_of base) events → KeepsArchives events
    → content_listed base events ≡ content base events

-- a time at which rows of this resolution end
abbrev pub IsMultiple : ℤ → ℕ → Type 0
IsMultiple time size = int_rem_euclid time (pos size) ≡ pos 0

-- each archive of a history's content shows at each such time the row of that time
abbrev pub ShowsByTime : Content → List Event → Type 0
ShowsByTime base events =
    IsBase base → IsHistory (moment_of base) events →
    (index : ℕ) (life : Life) (shown : Rra) → slice_get (lives base events) index ≡ Some life
    → slice_get (content base events).archives index ≡ Some shown →
    (time : ℤ) → IsMultiple time (resolution base.step life.begun.def)
    → row_at (content base events) shown time ≡ row_by_time base life events time

-- so the content shows each cell of that row
abbrev pub ShowsCells : Content → List Event → Type 0
ShowsCells base events =
    IsBase base → IsHistory (moment_of base) events →
    (index : ℕ) (life : Life) → slice_get (lives base events) index ≡ Some life →
    (time : ℤ) (source : ℕ) → IsMultiple time (resolution base.step life.begun.def)
    → cell_at (content base events) index time source ≡ cell base life events time source

-- the steps and rows of a history, each by itself
pub record ListsByNumber (base : Content) (archive : Rra) (events : List Event) : Type 0 where
  pub steps_are : steps_of base events
      ≡ map (step_numbered base events) (range_with_len (base.last / base.step) (length (steps_of base events)))
  pub rows_are : rows_of base archive events
      ≡ map (row base (life_of base archive) events)
      (range_with_len (base.last / base.step / archive.def.steps) (length (rows_of base archive events)))

-- the rows before an update are the oldest rows, as many as the update finished, followed by those that the update left
abbrev pub RowsComeBack : Content → ℕ → Rra → List Reading → Type 0
RowsComeBack base index archive samples =
    let f = length (rows_of base archive (map Sampled samples)) in let r = length archive.rows in IsArchive archive
    → take (min f r) archive.rows ++ take (r - min f r) (kept_rows base index archive (map Sampled samples))
    ≡ archive.rows

-- of all rows that ever ended, the archive shows those for which it had room at every moment; a row is named by its
-- age, 0 for the newest
abbrev pub ShowsByAge : ℕ → ℕ → List (List Cell) → List Cell → Type 0
ShowsByAge rows lasting all unknown =
    (age : ℕ) → age < rows → lasting ≤ length all → lasting ≤ rows
    → slice_index_or (filled_up rows unknown (keep_last lasting all)) (rows - 1 - age) unknown
    ≡ (if nat_lt age lasting then slice_index_or all (length all - 1 - age) unknown else unknown)
