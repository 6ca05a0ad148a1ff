use Rattle.rrd_base.proofs.Common.{◌∙◌, ◌-◌, Some, sym, ap, arith, Filed, unprepared, coming, prepared_last, prepared_none, unprepared_some}
use Rattle.rrd_base.proofs.rebuild.Rebuild.unprepared_archive.Goals as goal

pub returns-then-archives-eq0 : goal.returns-then-archives-eq0
returns-then-archives-eq0 c = sym (prepared_none (coming c.self.inside) (omega arith)) ∙ ap (λ (f : Filed). unprepared f.header.sources f.heads) c.self.view_is

pub returns-then-prep_count-self : goal.returns-then-prep_count-self
returns-then-prep_count-self c = ap Some c.def.ensures ∙ sym (unprepared_some (coming c.self.inside) c.get-rra.result.now (c.len-archives.result - 1) c.self.invariant.came (omega arith) c.get-rra.ensures (omega arith)) ∙ ap (λ (f : Filed). unprepared f.header.sources f.heads) c.self.view_is

pub returns : goal.returns
returns c = sym (prepared_last (coming c.self.inside) c.get-rra.result.now (c.len-archives.result - 1) c.self.invariant.came (omega arith) c.get-rra.ensures (omega arith)) ∙ ap (λ (f : Filed). unprepared f.header.sources f.heads) c.self.view_is
