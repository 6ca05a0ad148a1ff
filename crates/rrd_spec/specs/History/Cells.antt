-- Definition: the rows that an archive shows at each time.
use Rattle.std.specs.Prelude.{ℕ, ◌+◌, ◌-◌, ◌*◌, ◌/◌, ℤ, pos, ◌+ℤ◌, ◌-ℤ◌, int_lt, int_le, if◌then◌else◌, List, [], ◌∷◌, map, length, replicate, slice_index_or, negsuc, nat_lt, zero, suc, Result, ok_or, option_map, slice_get}
use Rattle.rrd_spec.specs.Names.{fold, range_with_len, int_max, int_div_euclid, Cell, Unknown, Average, Consolidating, nothing}
use Rattle.rrd_spec.specs.declared.refusal.Refusal.{Refusal}
use Rattle.rrd_spec.specs.declared.refusal.Refusal.TheVariants.{NoSuchArchive}
use Rattle.rrd_spec.specs.declared.settings.RraDef.{RraDef}
use Rattle.rrd_spec.specs.Settings.{resolution}
use Rattle.rrd_spec.specs.History.{Rra, Content, Event, definitions, moment_after, moment_at_end, rows_at_end}
use Rattle.rrd_spec.specs.History.Lives.{Life, lives}
use Rattle.rrd_spec.specs.History.Steps.{parts_of}
use Rattle.rrd_spec.specs.History.Rows.{row_parts, row_ending}

-- the row of an age, counted in rows from the newest, which has age 0; unknown if the archive has no such row
abbrev pub row_of_age : List (List Cell) → List Cell → ℤ → List Cell
row_of_age rows unknown (pos age) =
    if nat_lt age (length rows) then slice_index_or rows (length rows - 1 - age) unknown else unknown
row_of_age rows unknown (negsuc ahead) = unknown

-- the row that an archive shows at a time, a multiple of the resolution, if the database's last time is `last`
abbrev pub row_then : ℕ → ℕ → ℕ → Rra → ℤ → List Cell
row_then sources step last archive time =
    let size = resolution step archive.def in
    row_of_age archive.rows (replicate sources Cell.Unknown) (pos (last / size) -ℤ int_div_euclid time (pos size))

abbrev pub row_at : Content → Rra → ℤ → List Cell
row_at content archive time = row_then (length content.sources) content.step content.last archive time

-- the cell of a data source in the row that archive `number` shows at a time; unknown if there is none
abbrev pub cell_in : Content → List Rra → ℕ → ℤ → ℕ → Cell
cell_in content [] number time source = Unknown
cell_in content (archive ∷ archives) zero time source = slice_index_or (row_at content archive time) source Unknown
cell_in content (archive ∷ archives) (suc number) time source = cell_in content archives number time source

abbrev pub cell_at : Content → ℕ → ℤ → ℕ → Cell
cell_at content number time source = cell_in content content.archives number time source

-- the partial row of a data source in archive `number`
abbrev pub prep_in : List Rra → ℕ → ℕ → Consolidating
prep_in [] number source = record { function = Average; part = nothing }
prep_in (archive ∷ archives) zero source =
    record { function = archive.def.function; part = slice_index_or archive.parts source nothing }
prep_in (archive ∷ archives) (suc number) source = prep_in archives number source

abbrev pub prep_at : Content → ℕ → ℕ → Consolidating
prep_at content number source = prep_in content.archives number source

-- ---- the rows of an archive and their times

-- the end of the newest row: rows end at the multiples of the resolution (rrdcreate, "RRA")
abbrev pub newest : ℕ → ℕ → ℕ
newest resolution last = last / resolution * resolution

-- the time after which all rows end: the end of the newest row less the seconds of all rows. The time may be negative
abbrev pub reach : ℕ → ℕ → ℕ → ℤ
reach resolution rows last = pos (newest resolution last) -ℤ pos (rows * resolution)

-- ---- the horizon

-- the prefixes of a list, from the empty list to the whole list
abbrev pub prefixes : {A : Type 0} → List A → List (List A)
prefixes [] = [] ∷ []
prefixes (x ∷ xs) = [] ∷ map (λ (begun : List _). x ∷ begun) (prefixes xs)

abbrev pub greatest : List ℤ → ℤ
greatest [] = pos 0
greatest (x ∷ xs) = fold int_max x xs

-- the time after which all rows of an archive end, after the events `since` it began
abbrev pub reach_after : ℕ → Life → List Event → ℤ
reach_after step life since =
    reach (resolution step life.begun.def) (rows_at_end 0 life.begun.def.rows since)
    (fold moment_after life.birth since).last

-- the time up to which rows have been lost: if an archive had no room for a row at some moment since it began, the
-- archive never shows this row again (rrdresize)
abbrev pub horizon : ℕ → Life → ℤ
horizon step life = greatest (map (reach_after step life) (prefixes life.since))

-- ---- the rows that an archive shows

-- Each second by itself is `second` in History, and each step and row by itself is `step` and `row` in History/Steps
-- and History/Rows.

-- the row at a time, a multiple of the resolution. Up to the horizon, and after the end: unknown. Up to the end of the
-- newest row that the archive began with: that row, which is the base's row, or unknown in an added archive. After
-- that: the row of its steps (rrdresize)
abbrev pub row_by_time : Content → Life → List Event → ℤ → List Cell
row_by_time base life events time =
    let size = resolution base.step life.begun.def in
    let unknown = replicate (length base.sources) Cell.Unknown in
    if int_le time (horizon base.step life) then unknown
    else (if int_lt (pos (newest size (moment_at_end base events).last)) time then unknown
    else (if int_le time (pos (newest size life.birth.last))
    then row_then (length base.sources) base.step life.birth.last life.begun time
    else row_ending base life events time))

-- the cell of a data source at a time (rrdfetch)
abbrev pub cell : Content → Life → List Event → ℤ → ℕ → Cell
cell base life events time source = slice_index_or (row_by_time base life events time) source Cell.Unknown

-- ---- a content by the times of its rows

-- the time of the row at an index, 0 the oldest, in an archive of `rows` rows
abbrev pub time_of : ℕ → ℕ → ℕ → ℕ → ℤ
time_of resolution rows last place = reach resolution rows last +ℤ pos ((place + 1) * resolution)

-- the time of the oldest row of an archive. The time may be negative
abbrev pub oldest : ℕ → ℕ → RraDef → ℤ
oldest step last def = time_of (resolution step def) def.rows last 0

-- the time of the oldest row of archive `number`, or the refusal if there is no such archive (rrdfirst)
abbrev pub oldest_time : Content → ℕ → Result ℤ Refusal
oldest_time content number =
    ok_or (option_map (oldest content.step content.last) (slice_get (definitions content.archives) number))
    NoSuchArchive

-- the rows of an archive, oldest first: those at the last multiples of the resolution up to the end
abbrev pub rows_by_time : Content → List Event → Life → List (List Cell)
rows_by_time base events life =
    let rows = rows_at_end 0 life.begun.def.rows life.since in
    map (λ (place : ℕ). row_by_time base life events
    (time_of (resolution base.step life.begun.def) rows (moment_at_end base events).last place)) (range_with_len 0 rows)

-- an archive after the events: its settings with its number of rows, the parts of its unfinished row, and its rows
abbrev pub archive_by_time : Content → List Event → Life → Rra
archive_by_time base events life = record {
  def = record life.begun.def { rows = rows_at_end 0 life.begun.def.rows life.since };
  parts = row_parts base life events;
  rows = rows_by_time base events life;
}

-- the content after a history, in which each row is that of its time
abbrev pub content : Content → List Event → Content
content base events = record {
  step = base.step;
  depth = base.depth;
  sources = (moment_at_end base events).sources;
  last = (moment_at_end base events).last;
  raws = (moment_at_end base events).raws;
  parts = parts_of base events;
  archives = map (archive_by_time base events) (lives base events);
}
