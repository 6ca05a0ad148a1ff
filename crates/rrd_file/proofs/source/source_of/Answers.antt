use Rattle.rrd_file.proofs.Common.{◌∙◌, sym, rules, to_z-of_z, FitsSigned, w128, Source, source_back}
use Rattle.rrd_file.proofs.ReadBack.{source_said}
use Rattle.rrd_file.proofs.source.source_of.Goals as goal

pub returns-in_default-clause-none : goal.returns-in_default-clause-none
returns-in_default-clause-none c = λ r source fits e. c.def_of.ensures.none (search rules) source.def fits.def (source_said c.args.bytes.now source c.requires fits e ∙ sym c.split_at.ensures.front)

pub returns-clause-some : goal.returns-clause-some
returns-clause-some c =
    let fits : FitsSigned w128 c.before_of-raw.result.2 = search rules in
    let source : Source = record { def = c.in-Some.def; raw = c.before_of-raw.result.0; part = record { known = c.before_of-raw.result.1; value = c.before_of-raw.result.2 } } in
    rw (to_z-of_z {w = w128} fits) (
      record { def = c.in-Some.ensures.some.0; raw = c.before_of-raw.ensures.raw; part = c.before_of-raw.ensures.part },
      source_back c.args.bytes.now c.split_at.result.0.now c.split_at.result.1.now source c.split_at.ensures.front c.split_at.ensures.back c.in-Some.ensures.some.1 c.before_of-raw.ensures.spelled,
    )
