use Rattle.rrd_file.proofs.Common.{end_is_found}
use Rattle.rrd_file.proofs.laws.ends_are_found.Goals as goal

pub returns : goal.returns
returns c = end_is_found (record { many = c.cells_stand_in_slots.ensures.as_many; needed = c.outlines_judge_journals.ensures.needed; within = c.versions_stay_within.ensures.database })
