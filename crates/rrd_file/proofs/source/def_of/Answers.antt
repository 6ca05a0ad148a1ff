use Rattle.rrd_file.proofs.Common.{◌∙◌, sym, ap, rules, take, get_or, def_said}
use Rattle.rrd_file.proofs.source.def_of.Goals as goal

pub returns-in_default-clause-none : goal.returns-in_default-clause-none
returns-in_default-clause-none c = λ r def fits e. c.name_of.ensures.none (search rules) def.name fits.name ((def_said c.args.bytes.now def c.requires fits e).0 ∙ sym c.split_at.ensures.front)

pub returns-in_default-kind_of-clause-none : goal.returns-in_default-kind_of-clause-none
returns-in_default-kind_of-clause-none c = λ r def fits e.
    c.kind_of.ensures.none (search rules) def.kind ((def_said c.args.bytes.now def c.requires fits e).1 ∙ ap (λ m. get_or (take 1 m) 0 0) (sym c.split_at.ensures.back) ∙ ap (λ m. get_or m 0 0) (sym c.split_at-2.ensures.front))
