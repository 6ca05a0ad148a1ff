use Rattle.rrd_tool.proofs.Common.{◌≡◌, rules, codes, IfOk-weaker, new_app, rule_of, added, HasApp, name_text, required_rule, resize_app}
use Rattle.rrd_tool.specs.declared.commands.name.CommandName.TheVariants as verb
use Rattle.rrd_tool.proofs.commands.resize.shape.Goals as goal

pub returns : goal.returns
unfolding resize_app
returns c =
    let start : HasApp (new_app (name_text verb.Resize)) c.bare.result = c.bare.ensures in
    let a : rule_of c.required_arg.result ≡ required_rule (codes "archive") = search rules in
    let b : rule_of c.required_arg-2.result ≡ required_rule (codes "change") = search rules in
    let d : rule_of c.required_arg-3.result ≡ required_rule (codes "rows") = search rules in
    let one = added _ _ _ _ _ c.in_ok-arg.ensures start a c.required_arg.ensures.local in
    let two = added _ _ _ _ _ c.in_ok-arg-2.ensures one b c.required_arg-2.ensures.local in
    IfOk-weaker c.arg-3.result _ _ (λ r h. added _ r _ _ _ h two d c.required_arg-3.ensures.local) c.arg-3.ensures
