-- Definition: the steps of a history, each by itself (rrdcreate, "The HEARTBEAT and the STEP").
use Rattle.std.specs.Prelude.{ℕ, List, length, map, replicate}
use Rattle.rrd_spec.specs.Names.{Cell, Average, Part, nothing, with_each, step_cell}
use Rattle.rrd_spec.specs.History.{Content, Event, seconds_of}
use Rattle.rrd_spec.specs.History.Groups.{Rule, finished, group_part, unfinished}

-- how seconds make steps, for `sources` data sources
abbrev pub seconds_to_steps : ℕ → ℕ → Rule (List Cell) (List Part) (List Cell)
seconds_to_steps step sources =
    record { size = step; empty = replicate sources nothing; add = with_each Average; close = map (step_cell step) }

-- the steps that end after the base's last time (rrdcreate, "The HEARTBEAT and the STEP")
unfoldable pub steps_of : Content → List Event → List (List Cell)
steps_of base events =
    finished (seconds_to_steps base.step (length base.sources)) base.last base.parts (seconds_of base events)

-- the parts of the unfinished step
unfoldable pub parts_of : Content → List Event → List Part
parts_of base events =
    unfinished (seconds_to_steps base.step (length base.sources)) base.last base.parts (seconds_of base events)

-- step `number`, 0 the first since 1970: its seconds are those of its time, after the base's unfinished step
-- (rrdcreate, "The HEARTBEAT and the STEP")
abbrev pub step : Content → List Event → ℕ → List Cell
step base events number =
    let rule = seconds_to_steps base.step (length base.sources) in
    rule.close (group_part rule base.last base.parts (seconds_of base events) number)
