use Rattle.rrd_store.proofs.Common.{damaged_stays}
use Rattle.rrd_store.proofs.laws.damaged_files_stay.Goals as goal

pub returns : goal.returns
returns c =
    damaged_stays (record { read = c.layout_is_file.ensures.read; one = c.one_answer.ensures; sizes = c.sizes.ensures })
