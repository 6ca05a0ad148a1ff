-- Definition: the rows of a history, each by itself (rrdcreate, "RRA").
use Rattle.std.specs.Prelude.{◌-◌, ◌/◌, ℕ, ℤ, List, drop, length, map, replicate, unsigned_abs}
use Rattle.rrd_spec.specs.Names.{Cell, Part, nothing, with_each, row_cell}
use Rattle.rrd_spec.specs.declared.settings.RraDef.{RraDef}
use Rattle.rrd_spec.specs.Settings.{resolution}
use Rattle.rrd_spec.specs.History.{Rra, Content, Event}
use Rattle.rrd_spec.specs.History.Groups.{Rule, finished, group_part, unfinished}
use Rattle.rrd_spec.specs.History.Steps.{steps_of}
use Rattle.rrd_spec.specs.History.Lives.{Life}

-- how the steps of an archive make its rows, for `sources` data sources
abbrev pub steps_to_rows : RraDef → ℕ → Rule (List Cell) (List Part) (List Cell)
steps_to_rows def sources =
    record {
      size = def.steps;
      empty = replicate sources nothing;
      add = with_each def.function;
      close = map (row_cell def.function def.xff def.steps);
    }

-- the rows of an archive that end after the base's last time (rrdcreate, "RRA")
unfoldable pub rows_of : Content → Rra → List Event → List (List Cell)
rows_of base archive events =
    finished (steps_to_rows archive.def (length base.sources)) (base.last / base.step) archive.parts (steps_of base events)

-- the parts of an archive's unfinished row (rrdcreate, "RRA")
unfoldable pub row_parts_of : Content → Rra → List Event → List Part
row_parts_of base archive events =
    unfinished (steps_to_rows archive.def (length base.sources)) (base.last / base.step)
    archive.parts (steps_of base events)

-- ---- all archives, with those that a history adds

-- the steps of the history that count for an archive: those that end after it began
abbrev pub steps_for : Content → Life → List Event → List (List Cell)
steps_for base life events = drop life.missed (steps_of base events)

-- the number of steps since 1970 that had ended when the archive began
abbrev pub steps_before : Content → Life → ℕ
steps_before base life = life.birth.last / base.step

-- row `number`, counted from 1970: its steps are those of its time that count for the archive, after the unfinished row
-- that the archive began with (rrdcreate, "RRA")
abbrev pub row : Content → Life → List Event → ℕ → List Cell
row base life events number =
    let rule = steps_to_rows life.begun.def (length base.sources) in
    rule.close (group_part rule (steps_before base life) life.begun.parts (steps_for base life events) number)

-- the row that ends at a time after 1970, a multiple of the resolution
abbrev pub row_ending : Content → Life → List Event → ℤ → List Cell
row_ending base life events time =
    row base life events (unsigned_abs time / resolution base.step life.begun.def - 1)

-- the parts of the archive's unfinished row (rrdcreate, "RRA")
unfoldable pub row_parts : Content → Life → List Event → List Part
row_parts base life events =
    unfinished (steps_to_rows life.begun.def (length base.sources)) (steps_before base life) life.begun.parts
    (steps_for base life events)
