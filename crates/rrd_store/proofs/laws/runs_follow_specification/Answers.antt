use Rattle.rrd_store.proofs.Common.{run_computed, runs_computed}
use Rattle.rrd_store.proofs.laws.runs_follow_specification.Goals as goal

pub returns-clause-all : goal.returns-clause-all
returns-clause-all c =
    runs_computed
    (record {
      stays = record { created = c.created_is_valid.ensures; begins = c.database_begins.ensures; acts = c.action_goes_on.ensures; changed = c.database_stays.ensures.changed; reverted = c.database_stays.ensures.reverted };
      reading = record { no_other = c.layout_is_file.ensures.no_other; is_layout = c.file_is_layout.ensures; one = c.one_answer.ensures; within = c.versions_stay_within.ensures.database };
      layouts = record { read = c.layout_is_file.ensures.read; one = c.one_answer.ensures; sizes = c.sizes.ensures };
    })

pub returns-clause-each : goal.returns-clause-each
returns-clause-each c =
    run_computed
    (record {
      stays = record { created = c.created_is_valid.ensures; begins = c.database_begins.ensures; acts = c.action_goes_on.ensures; changed = c.database_stays.ensures.changed; reverted = c.database_stays.ensures.reverted };
      reading = record { no_other = c.layout_is_file.ensures.no_other; is_layout = c.file_is_layout.ensures; one = c.one_answer.ensures; within = c.versions_stay_within.ensures.database };
      layouts = record { read = c.layout_is_file.ensures.read; one = c.one_answer.ensures; sizes = c.sizes.ensures };
    })
