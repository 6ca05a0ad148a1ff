-- Law: the content of a history in which no archive is added or removed, each archive's rows as the list of those that
-- are kept; proofs use this form. `content` in History/Cells gives each row by its time, and is the definition;
-- `IsListedByNumber` in Laws/Cells says that both are equal.
use Rattle.std.specs.Prelude.{ℕ, ◌+◌, ◌-◌, ◌/◌, min, List, [], ◌∷◌, ◌++◌, map, length, drop, replicate}
use Rattle.rrd_spec.specs.Names.{enumerate_from, Cell}
use Rattle.rrd_spec.specs.Settings.{resolution}
use Rattle.rrd_spec.specs.History.{Rra, Content, Event, Sampled, Tuned, Resized, Added, Removed, rows_after, Moment, moment_after, moment_at_end, moment_of, rows_at_end}
use Rattle.rrd_spec.specs.History.Steps.{parts_of}
use Rattle.rrd_spec.specs.History.Rows.{row_parts_of, rows_of}
use Rattle.rrd_spec.specs.Commands.{DatabaseChange, events, settings_of}

-- no archive is added or removed, so that all archives are the base's: the list below needs this
abbrev pub KeepsArchives : List Event → Type 0
KeepsArchives [] = Unit {0}
KeepsArchives (Sampled sample ∷ events) = KeepsArchives events
KeepsArchives (Tuned sources ∷ events) = KeepsArchives events
KeepsArchives (Resized archive rows ∷ events) = KeepsArchives events
KeepsArchives (Added def ∷ events) = ⊥
KeepsArchives (Removed archive ∷ events) = ⊥

-- the `n` newest items
abbrev pub keep_last : {A : Type 0} → ℕ → List A → List A
keep_last n xs = drop (length xs - n) xs

-- the number of the newest rows for which there was room at every moment from the first to the last. `since` is the
-- number of rows that ended after a time
abbrev pub rows_never_lost : ℕ → (ℕ → ℕ) → ℕ → Moment → List Event → ℕ
rows_never_lost index since rows now [] = rows + since now.last
rows_never_lost index since rows now (event ∷ events) =
    min (rows + since now.last)
    (rows_never_lost index since (rows_after index rows event) (moment_after now event) events)

-- the items; if there are fewer than `n`, unknown items precede them
abbrev pub filled_up : {A : Type 0} → ℕ → A → List A → List A
filled_up n unknown items = replicate (n - length items) unknown ++ items

-- the base's rows and those that ended since, as far as there was always room for them (rrdcreate, "RRA"; rrdresize)
unfoldable pub kept_rows : Content → ℕ → Rra → List Event → List (List Cell)
kept_rows base index archive events =
    let size = resolution base.step archive.def in
    let since = λ (time : ℕ). (moment_at_end base events).last / size - time / size in
    filled_up (rows_at_end index archive.def.rows events) (replicate (length base.sources) Cell.Unknown)
    (keep_last (rows_never_lost index since archive.def.rows (moment_of base) events)
    (archive.rows ++ rows_of base archive events))

abbrev pub archive_of : Content → List Event → ℕ × Rra → Rra
archive_of base events (index, archive) = record {
  def = record archive.def { rows = rows_at_end index archive.def.rows events };
  parts = row_parts_of base archive events;
  rows = kept_rows base index archive events;
}

-- the content that the events make of a base
unfoldable pub content_listed : Content → List Event → Content
content_listed base events = record base {
  sources = (moment_at_end base events).sources;
  last = (moment_at_end base events).last;
  raws = (moment_at_end base events).raws;
  parts = parts_of base events;
  archives = map (archive_of base events) (enumerate_from 0 base.archives);
}

-- a content after one command, with the rows as lists
abbrev pub moved_listed : Content → DatabaseChange → Content
moved_listed base command = content_listed base (events (settings_of base) command)
