use Rattle.rrd_base.proofs.Common.{archive_tuned}
use Rattle.rrd_base.proofs.content.Content.tune.Goals as goal

pub tune_archive-requires-clause-there : goal.tune_archive-requires-clause-there
tune_archive-requires-clause-there c =
    (archive_tuned c.tune_changes_archives.ensures.added c.tune_changes_archives.ensures.removed c.args.self.now c.args.tuning.now c.in-Some.asked c.requires.valid c.in-Some.is c.requires.accepted).there
