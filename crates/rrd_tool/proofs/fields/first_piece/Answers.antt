use Rattle.rrd_tool.proofs.Common.{pieces_none, pieces_some}
use Rattle.rrd_tool.proofs.fields.first_piece.Goals as goal

pub returns-in-Some-clause-split : goal.returns-in-Some-clause-split
returns-in-Some-clause-split c = pieces_some c.args.text.now (c.in-Some.piece, c.in-Some.rest) c.in-Some.ensures.cases

pub returns-in-None-clause-split : goal.returns-in-None-clause-split
returns-in-None-clause-split c = pieces_none c.args.text.now c.in-None.ensures.cases
