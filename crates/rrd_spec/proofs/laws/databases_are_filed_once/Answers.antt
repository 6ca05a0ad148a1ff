use Rattle.rrd_spec.proofs.ReadBack.{filed_once, rows_filed_once}
use Rattle.rrd_spec.proofs.laws.databases_are_filed_once.Goals as goal

pub returns-clause-rows : goal.returns-clause-rows
returns-clause-rows c = rows_filed_once

pub returns-clause-databases : goal.returns-clause-databases
returns-clause-databases c = filed_once
