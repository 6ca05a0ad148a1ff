use Rattle.rrd_tool.proofs.Common.{◌≡◌, rules, codes, IfOk-weaker, new_app, rule_of, added, HasApp, name_text, letter_rule, many_rule, option_rule, create_app}
use Rattle.rrd_tool.specs.declared.commands.name.CommandName.TheVariants as verb
use Rattle.rrd_tool.proofs.commands.create.shape.Goals as goal

pub returns : goal.returns
unfolding create_app
returns c =
    let start : HasApp (new_app (name_text verb.Create)) c.bare.result = c.bare.ensures in
    let a : rule_of c.letter_arg.result ≡ letter_rule (codes "step") (codes "step") 115 = search rules in
    let b : rule_of c.letter_arg-2.result ≡ letter_rule (codes "start") (codes "start") 98 = search rules in
    let d : rule_of c.option_arg.result ≡ option_rule (codes "journal") (codes "journal") = search rules in
    let e : rule_of c.many_arg.result ≡ many_rule (codes "definition") = search rules in
    let two = added _ _ _ _ _ c.in_ok-arg-2.ensures (added _ _ _ _ _ c.in_ok-arg.ensures start a c.letter_arg.ensures.local) b c.letter_arg-2.ensures.local in
    let three = added _ _ _ _ _ c.in_ok-arg-3.ensures two d c.option_arg.ensures.local in
    IfOk-weaker c.arg-4.result _ _ (λ r h. added _ r _ _ _ h three e c.many_arg.ensures.local) c.arg-4.ensures
