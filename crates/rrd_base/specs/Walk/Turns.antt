-- Glue: the minimum and the maximum units of work of a walk.
use Rattle.std.specs.Prelude.{ℕ, ◌+◌, ◌-◌, ◌*◌, ◌/◌, List, length, map, min, sum}
use Rattle.rrd_base.specs.Names.{RraDef, Rra, Content, definitions, least_of_sample, most_of_sample}
use Rattle.rrd_base.specs.Walk.{count_of, sources_of}
use Rattle.rrd_base.specs.declared.walk.Steps.{Steps}

-- the number of an archive's rows that end with `count` more steps, if `before` steps ended earlier
abbrev pub rows_ended : ℕ → ℕ → RraDef → ℕ
rows_ended before count def = (before + count) / def.steps - before / def.steps

-- the number of these rows that the archive shows in the end
abbrev pub rows_pushed : ℕ → ℕ → RraDef → ℕ
rows_pushed before count def = min (rows_ended before count def) def.rows

-- for all archives, and one data source: the cells of these rows, and at most four units more for each archive
abbrev pub least_of_steps : ℕ → ℕ → List RraDef → ℕ
least_of_steps before count defs = sum (map (rows_pushed before count) defs)

abbrev pub most_of_steps : ℕ → ℕ → List RraDef → ℕ
most_of_steps before count defs = sum (map (λ (def : RraDef). 4 + rows_pushed before count def) defs)

-- for the steps that are added at once: the units of one archive, and of all archives
abbrev pub least_of_one : Steps → Rra → ℕ
least_of_one steps archive = sources_of steps * rows_pushed steps.before (count_of steps) archive.def

abbrev pub most_of_one : Steps → Rra → ℕ
most_of_one steps archive = sources_of steps * (4 + rows_pushed steps.before (count_of steps) archive.def)

abbrev pub least_of_all : Steps → List Rra → ℕ
least_of_all steps archives = sources_of steps * least_of_steps steps.before (count_of steps) (definitions archives)

abbrev pub most_of_all : Steps → List Rra → ℕ
most_of_all steps archives = sources_of steps * most_of_steps steps.before (count_of steps) (definitions archives)

-- for a content: the units to the end of the step in progress and `count` steps further
abbrev pub least_of_ends : Content → ℕ → ℕ
least_of_ends base count =
    length base.sources * least_of_steps (base.last / base.step) (1 + count) (definitions base.archives)

abbrev pub most_of_ends : Content → ℕ → ℕ
most_of_ends base count =
    length base.sources * (2 + most_of_steps (base.last / base.step) (1 + count) (definitions base.archives))

-- for a content: the units up to a time
abbrev pub least_to : Content → ℕ → ℕ
least_to base time = least_of_sample (length base.sources) base.step (definitions base.archives) base.last time

abbrev pub most_to : Content → ℕ → ℕ
most_to base time = most_of_sample (length base.sources) base.step (definitions base.archives) base.last time
