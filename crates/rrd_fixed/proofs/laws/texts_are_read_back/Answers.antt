use Rattle.rrd_fixed.proofs.ReadBack.{number_back, units_back, whole_back}
use Rattle.rrd_fixed.proofs.laws.texts_are_read_back.Goals as goal

pub returns : goal.returns
returns c = record { whole = whole_back; units = units_back; millionths = number_back }
