use Rattle.rrd_spec.proofs.Common.{◌≡◌, Some, length, arith, leb-false, length-map, rows_of_archives, Rra, base_of_valid, Remove, tune_passes, tune_added, tune_removed}
use Rattle.rrd_spec.proofs.laws.tune_changes_archives.Goals as goal

pub returns-clause-added : goal.returns-clause-added
returns-clause-added c = λ base tuning def is e h. tune_added base tuning def (base_of_valid base is) e h

pub returns-clause-removed : goal.returns-clause-removed
returns-clause-removed c = λ base tuning number is e h.
    let p = tune_passes base tuning (Some (Remove number)) e h in
    let as_many : length (rows_of_archives base.archives) ≡ length base.archives = length-map base.archives (λ (a : Rra). a.def.rows) in
    (omega (arith, leb-false (length (rows_of_archives base.archives)) number p.0, as_many), tune_removed base tuning number (base_of_valid base is) e)
