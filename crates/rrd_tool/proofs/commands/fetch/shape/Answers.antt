use Rattle.rrd_tool.proofs.Common.{◌≡◌, rules, codes, IfOk-weaker, new_app, rule_of, added, HasApp, name_text, letter_rule, required_rule, fetch_app}
use Rattle.rrd_tool.specs.declared.commands.name.CommandName.TheVariants as verb
use Rattle.rrd_tool.proofs.commands.fetch.shape.Goals as goal

pub returns : goal.returns
unfolding fetch_app
returns c =
    let start : HasApp (new_app (name_text verb.Fetch)) c.bare.result = c.bare.ensures in
    let a : rule_of c.required_arg.result ≡ required_rule (codes "function") = search rules in
    let b : rule_of c.letter_arg.result ≡ letter_rule (codes "resolution") (codes "resolution") 114 = search rules in
    let d : rule_of c.letter_arg-2.result ≡ letter_rule (codes "start") (codes "start") 115 = search rules in
    let e : rule_of c.letter_arg-3.result ≡ letter_rule (codes "end") (codes "end") 101 = search rules in
    let two = added _ _ _ _ _ c.in_ok-arg-2.ensures (added _ _ _ _ _ c.in_ok-arg.ensures start a c.required_arg.ensures.local) b c.letter_arg.ensures.local in
    let three = added _ _ _ _ _ c.in_ok-arg-3.ensures two d c.letter_arg-2.ensures.local in
    IfOk-weaker c.arg-4.result _ _ (λ r h. added _ r _ _ _ h three e c.letter_arg-3.ensures.local) c.arg-4.ensures
