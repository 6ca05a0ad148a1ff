use Rattle.rrd_spec.proofs.Common.{accepted_history, events, settings_of, sound, is_lived, is_listed, moved_is}
use Rattle.rrd_spec.proofs.laws.content_is_listed.Goals as goal

pub returns-clause-events : goal.returns-clause-events
returns-clause-events c = is_lived

pub returns-clause-command : goal.returns-clause-command
returns-clause-command c = λ base command is h. is_lived base (events (settings_of base) command) (sound base is).is_base (accepted_history base command h)

pub returns-clause-events_by_number : goal.returns-clause-events_by_number
returns-clause-events_by_number c = is_listed

pub returns-clause-command_by_number : goal.returns-clause-command_by_number
returns-clause-command_by_number c = λ base command is h keeps. moved_is base command (sound base is) h keeps
