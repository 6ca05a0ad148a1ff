use Rattle.rrd_tool.proofs.Common.{◌≡◌, rules, codes, IfOk-weaker, new_app, rule_of, added, HasApp, name_text, option_rule, first_app}
use Rattle.rrd_tool.specs.declared.commands.name.CommandName.TheVariants as verb
use Rattle.rrd_tool.proofs.commands.first.shape.Goals as goal

pub returns : goal.returns
unfolding first_app
returns c =
    let start : HasApp (new_app (name_text verb.First)) c.bare.result = c.bare.ensures in
    let a : rule_of c.option_arg.result ≡ option_rule (codes "rraindex") (codes "rraindex") = search rules in
    IfOk-weaker c.arg.result _ _ (λ r h. added _ r _ _ _ h start a c.option_arg.ensures.local) c.arg.ensures
