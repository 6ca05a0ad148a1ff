use Rattle.rrd_file.proofs.Common.{◌∙◌, sym, rules, saved_source_back, saved_source_said}
use Rattle.rrd_file.proofs.journal.tune.saved_source_of.Goals as goal

pub returns-in_default-clause-none : goal.returns-in_default-clause-none
returns-in_default-clause-none c = λ r old fits e. c.def_of.ensures.none (search rules) old.source fits.source (saved_source_said c.args.bytes.now c.two_of-number.result.1.now c.two_of-number.result.0 old c.requires c.two_of-number.ensures.spelled fits e ∙ sym c.split_at.ensures.front)

pub returns-clause-some : goal.returns-clause-some
returns-clause-some c = (
  record { number = c.two_of-number.ensures.small; source = c.in-Some.ensures.some.0; raw = c.raw_of-raw.ensures.fits },
  saved_source_back c.args.bytes.now c.two_of-number.result.1.now c.split_at.result.0.now c.split_at.result.1.now c.raw_of-raw.result.1.now (record { number = c.two_of-number.result.0; source = c.in-Some.source; raw = c.raw_of-raw.result.0 }) c.requires c.two_of-number.ensures.spelled c.two_of-number.ensures.room c.split_at.ensures.front c.split_at.ensures.back c.in-Some.ensures.some.1 c.raw_of-raw.ensures.spelled c.raw_of-raw.ensures.room,
)
