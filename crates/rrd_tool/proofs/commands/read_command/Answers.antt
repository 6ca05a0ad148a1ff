use Rattle.rrd_tool.proofs.Common.{◌∙◌, ap, is_some, sym, subcommand_rows_of, shape_of, read_as, serves_as, read_from, taken_enters, unnamed_refused}
use Rattle.rrd_tool.proofs.commands.read_command.Goals as goal

pub returns-in_default : goal.returns-in_default
returns-in_default c = unnamed_refused c.args.words.now (sym c.name_of.ensures ∙ c.in_default.is)

pub parse-requires : goal.parse-requires
parse-requires c =
    serves_as _ c.in-Some.name c.args.words.now (c.in_ok-command_with.ensures (shape_of c.in-Some.name) c.in_ok-shape.ensures) (sym c.name_of.ensures ∙ c.in-Some.is)

pub read_entered-requires : goal.read_entered-requires
read_entered-requires c =
    let got = c.in_ok-matches.ensures in
    ap (λ o. is_some o) got.1 ∙ taken_enters c.args.words.now got.0

pub returns : goal.returns
returns c =
    let got = c.in_ok-matches.ensures in
    let entered = subcommand_rows_of c.in_ok-matches.matches in
    read_from c.args.words.now c.args.now entered c.read_entered.result got.0 got.1
    (read_as c.in-Some.name c.args.words.now c.args.now entered c.read_entered.result (sym c.name_of.ensures ∙ c.in-Some.is) got.1 c.read_entered.ensures)
