use Rattle.rrd_fold.proofs.Common.{fold-with_cell, stands_more, ◌∷◌, [], replicate}
use Rattle.rrd_fold.proofs.laws.parts_represent_lists.Goals as goal

pub returns-clause-from_nothing : goal.returns-clause-from_nothing
returns-clause-from_nothing c = fold-with_cell

pub returns-clause-one_more : goal.returns-clause-one_more
returns-clause-one_more c = λ function cells cell. stands_more function cells (cell ∷ [])

pub returns-clause-many_more : goal.returns-clause-many_more
returns-clause-many_more c = λ function cells cell n. stands_more function cells (replicate n cell)
