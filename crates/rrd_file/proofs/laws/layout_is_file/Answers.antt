use Rattle.rrd_file.proofs.Common.{layout_is_file, layout_is_no_other}
use Rattle.rrd_file.proofs.laws.layout_is_file.Goals as goal

pub returns-clause-read : goal.returns-clause-read
returns-clause-read c = layout_is_file (record { needed = c.outlines_judge_journals.ensures.needed; filed_is = c.outlines_follow.ensures.filed; many = c.cells_stand_in_slots.ensures.as_many; within = c.versions_stay_within.ensures.database })

pub returns-clause-no_other : goal.returns-clause-no_other
returns-clause-no_other c = layout_is_no_other (record { needed = c.outlines_judge_journals.ensures.needed; filed_is = c.outlines_follow.ensures.filed; many = c.cells_stand_in_slots.ensures.as_many; within = c.versions_stay_within.ensures.database }) (c.databases_are_filed_once.ensures.databases)
