use Rattle.rrd_file.proofs.Common.{spell, archive_one, cell_one, part_one, raw_and_part_one, saved_source_one, source_one}
use Rattle.rrd_file.proofs.laws.one_value.Goals as goal

pub returns : goal.returns
unfolding spell
returns c = record { source = source_one; archive = archive_one; prep = part_one; cell = cell_one; raw_and_part = raw_and_part_one; saved_source = saved_source_one }
