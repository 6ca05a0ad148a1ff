use Rattle.rrd_tool.proofs.Common.{last_alone, lastupdate_alone, info_alone, revert_alone}
use Rattle.rrd_tool.proofs.commands.name.CommandName.alone.Goals as goal

pub returns-in-Last : goal.returns-in-Last
returns-in-Last c = rw c.in-Last.is last_alone

pub returns-in-LastUpdate : goal.returns-in-LastUpdate
returns-in-LastUpdate c = rw c.in-LastUpdate.is lastupdate_alone

pub returns-in-Info : goal.returns-in-Info
returns-in-Info c = rw c.in-Info.is info_alone

pub returns-in-Revert : goal.returns-in-Revert
returns-in-Revert c = rw c.in-Revert.is revert_alone
