use Rattle.rrd_file.proofs.Common.{length, removed_fits}
use Rattle.rrd_file.proofs.Entering.{small_numbers}
use Rattle.rrd_file.proofs.journal.write_entry.Goals as goal

pub write_tune-requires-clause-numbers : goal.write_tune-requires-clause-numbers
write_tune-requires-clause-numbers g c =
    let e = rw c.in-Tune.is at c.requires in
    rw c.as_slice.ensures.value (small_numbers 0 (length e.now.sources) c.in-Tune.olds.items e.valid.few_sources e.fits.rise)

pub write_removed-requires-clause-settings_fit : goal.write_removed-requires-clause-settings_fit
write_removed-requires-clause-settings_fit g c =
    let e = rw c.in-Removed.is at c.requires in
    removed_fits e.now c.in-Removed.archive c.in-Removed.old e.fits.1.there e.before
