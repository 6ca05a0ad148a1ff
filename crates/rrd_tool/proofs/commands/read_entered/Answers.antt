use Rattle.rrd_tool.proofs.Common.{found_of, rows_of, out-ArgMatches, joined}
use Rattle.rrd_tool.proofs.commands.read_entered.Goals as goal

pub returns : goal.returns
returns c =
    let rows = rows_of (found_of c.in-Some.inner.now) in
    rw (joined ((out-ArgMatches c.args.matches.now).subcommand) c.in-Some._word.now rows c.in-Some.ensures.name c.in-Some.ensures.rows) c.read.ensures
