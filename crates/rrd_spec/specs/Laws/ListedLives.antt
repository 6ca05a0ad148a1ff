-- Law: the content of any history, also one in which archives are added and removed, each archive's rows as the list of
-- those that are kept; proofs use this form. `content` in History/Cells gives each row by its time, and is the
-- definition; `IsListed` in Laws/Cells says that both are equal.
use Rattle.std.specs.Prelude.{ℕ, ◌-◌, ◌/◌, List, ◌++◌, map, length, replicate}
use Rattle.rrd_spec.specs.Names.{Cell}
use Rattle.rrd_spec.specs.Settings.{resolution}
use Rattle.rrd_spec.specs.History.{Rra, Content, Event, moment_at_end, rows_at_end}
use Rattle.rrd_spec.specs.History.Groups.{finished}
use Rattle.rrd_spec.specs.History.Lives.{Life, lives}
use Rattle.rrd_spec.specs.History.Rows.{row_parts, steps_before, steps_for, steps_to_rows}
use Rattle.rrd_spec.specs.History.Steps.{parts_of}
use Rattle.rrd_spec.specs.Laws.ListedContent.{filled_up, keep_last, rows_never_lost}

-- the rows of an archive that ended since the archive began
unfoldable pub rows_for : Content → List Event → Life → List (List Cell)
rows_for base events life =
    finished (steps_to_rows life.begun.def (length base.sources)) (steps_before base life) life.begun.parts
    (steps_for base life events)

-- the rows that the archive began with and those that ended since, as far as there was always room for them
unfoldable pub kept_for : Content → List Event → Life → List (List Cell)
kept_for base events life =
    let size = resolution base.step life.begun.def in
    let since = λ (time : ℕ). (moment_at_end base events).last / size - time / size in
    filled_up (rows_at_end 0 life.begun.def.rows life.since) (replicate (length base.sources) Cell.Unknown)
    (keep_last (rows_never_lost 0 since life.begun.def.rows life.birth life.since)
    (life.begun.rows ++ rows_for base events life))

abbrev pub archive_for : Content → List Event → Life → Rra
archive_for base events life = record {
  def = record life.begun.def { rows = rows_at_end 0 life.begun.def.rows life.since };
  parts = row_parts base life events;
  rows = kept_for base events life;
}

unfoldable pub content_lived : Content → List Event → Content
content_lived base events = record base {
  sources = (moment_at_end base events).sources;
  last = (moment_at_end base events).last;
  raws = (moment_at_end base events).raws;
  parts = parts_of base events;
  archives = map (archive_for base events) (lives base events);
}
