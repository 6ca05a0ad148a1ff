use Rattle.rrd_tool.proofs.Common.{◌≡◌, rules, codes, IfOk-weaker, new_app, rule_of, added, HasApp, name_text, letter_rule, many_rule, update_app}
use Rattle.rrd_tool.specs.declared.commands.name.CommandName.TheVariants as verb
use Rattle.rrd_tool.proofs.commands.update.shape.Goals as goal

pub returns : goal.returns
unfolding update_app
returns c =
    let start : HasApp (new_app (name_text verb.Update)) c.bare.result = c.bare.ensures in
    let template : rule_of c.letter_arg.result ≡ letter_rule (codes "template") (codes "template") 116 = search rules in
    let samples : rule_of c.many_arg.result ≡ many_rule (codes "sample") = search rules in
    let one = added _ _ _ _ _ c.in_ok-arg.ensures start template c.letter_arg.ensures.local in
    IfOk-weaker c.arg-2.result _ _ (λ r h. added _ r _ _ _ h one samples c.many_arg.ensures.local) c.arg-2.ensures
