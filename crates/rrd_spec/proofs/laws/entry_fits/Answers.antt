use Rattle.rrd_spec.proofs.Fitting.{fits}
use Rattle.rrd_spec.proofs.laws.entry_fits.Goals as goal

pub returns : goal.returns
returns c = fits
