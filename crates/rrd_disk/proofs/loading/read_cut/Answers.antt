use Rattle.rrd_disk.proofs.Common.{rules, bytes_after, forged_none}
use Rattle.rrd_disk.proofs.loading.read_cut.Goals as goal

pub returns-then-branch-clause-none : goal.returns-then-branch-clause-none
returns-then-branch-clause-none g c = λ s honest now stand.
    forged_none c.file_laws.ensures c.one_answer.ensures c.front_has_the_fault.ensures (bytes_after s (g.D.Disk.events c.loop.file.disk)) c.front-front.result.now now (c.front-front.ensures.shown s honest) (search rules) (c.in_ok-is_forged.ensures (search rules)) stand
