use Rattle.rrd_tool.proofs.Common.{◌≡◌, rules, codes, IfOk-weaker, new_app, rule_of, added, HasApp, name_text, letter_rule, option_rule, word_rule, tune_app}
use Rattle.rrd_tool.specs.declared.commands.name.CommandName.TheVariants as verb
use Rattle.rrd_tool.proofs.commands.tune.shape.Goals as goal

pub returns : goal.returns
unfolding tune_app
returns c =
    let start : HasApp (new_app (name_text verb.Tune)) c.bare.result = c.bare.ensures in
    let a : rule_of c.option_arg.result ≡ option_rule (codes "heartbeat") (codes "heartbeat") = search rules in
    let b : rule_of c.letter_arg.result ≡ letter_rule (codes "minimum") (codes "minimum") 105 = search rules in
    let d : rule_of c.letter_arg-2.result ≡ letter_rule (codes "maximum") (codes "maximum") 97 = search rules in
    let e : rule_of c.letter_arg-3.result ≡ letter_rule (codes "type") (codes "data-source-type") 100 = search rules in
    let f : rule_of c.letter_arg-4.result ≡ letter_rule (codes "rename") (codes "data-source-rename") 114 = search rules in
    let h : rule_of c.word_arg.result ≡ word_rule (codes "definition") = search rules in
    let two = added _ _ _ _ _ c.in_ok-arg-2.ensures (added _ _ _ _ _ c.in_ok-arg.ensures start a c.option_arg.ensures.local) b c.letter_arg.ensures.local in
    let three = added _ _ _ _ _ c.in_ok-arg-3.ensures two d c.letter_arg-2.ensures.local in
    let four = added _ _ _ _ _ c.in_ok-arg-4.ensures three e c.letter_arg-3.ensures.local in
    let five = added _ _ _ _ _ c.in_ok-arg-5.ensures four f c.letter_arg-4.ensures.local in
    IfOk-weaker c.arg-6.result _ _ (λ r k. added _ r _ _ _ k five h c.word_arg.ensures.local) c.arg-6.ensures
