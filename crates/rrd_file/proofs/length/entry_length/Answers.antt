use Rattle.rrd_file.proofs.Common.{◌∙◌, ap, length, sym, entry_of, entry_pieces, spelled, added_has}
use Rattle.rrd_base.specs.declared.journal.Entry.{Entry}
use Rattle.rrd_file.proofs.length.entry_length.Goals as goal

pub returns-in-Added-clause-count : goal.returns-in-Added-clause-count
returns-in-Added-clause-count c = sym (ap (λ (entry : Entry). length (spelled (entry_pieces (entry_of entry)))) c.in-Added.is ∙ added_has)
