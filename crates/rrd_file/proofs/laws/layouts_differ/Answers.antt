use Rattle.rrd_file.proofs.Common.{layouts_differ}
use Rattle.rrd_file.proofs.laws.layouts_differ.Goals as goal

pub returns : goal.returns
returns c = layouts_differ (record { needed = c.outlines_judge_journals.ensures.needed; filed_is = c.outlines_follow.ensures.filed; many = c.cells_stand_in_slots.ensures.as_many; within = c.versions_stay_within.ensures.database }) (c.databases_are_filed_once.ensures.databases)
