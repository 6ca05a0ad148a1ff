use Rattle.rrd_spec.proofs.Newest.{content_is_within, database_is_within, entry_is_within, journal_is_within}
use Rattle.rrd_spec.proofs.laws.versions_stay_within.Goals as goal

pub returns : goal.returns
returns c = record {
  content = content_is_within;
  entry = entry_is_within;
  journal = journal_is_within;
  database = database_is_within;
}
