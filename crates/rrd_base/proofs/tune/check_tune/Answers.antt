use Rattle.rrd_base.proofs.Common.{err_from_is_err_and, archive_tune_checks, option_checks, present, settings, refused}
use Rattle.rrd_base.proofs.tune.check_tune.Goals as goal

pub returns-in_err-check_options : goal.returns-in_err-check_options
returns-in_err-check_options c =
    let tuning = c.args.tuning.now in
    let p = err_from_is_err_and c.from_residual.result c.from_residual.ensures.1 in
    rw (p.1, p.2) (refused (option_checks present c.args.sources.now tuning) (archive_tune_checks present (settings c.args.sources.now c.args.archives.now) tuning.archive) c.in_err-check_options.field-0.0 c.in_err-check_options.ensures)
