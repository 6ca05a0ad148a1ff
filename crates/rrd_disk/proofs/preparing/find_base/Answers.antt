use Rattle.rrd_disk.proofs.Common.{◌∙◌, sym, bytes_after, no_file}
use Rattle.rrd_disk.proofs.preparing.find_base.Goals as goal

pub returns-in-Err-clause-none : goal.returns-in-Err-clause-none
returns-in-Err-clause-none g c = λ s honest.
    no_file c.one_answer.ensures (bytes_after s (g.D.Disk.events c.load.new.file.disk)) c.in-Err.fault (c.in-Err.ensures.reads s honest) (sym c.is_of_bytes.ensures ∙ c.if-is_of_bytes.true)
