use Rattle.rrd_disk.proofs.open_file.OpenFile.begin.Goals as goal

pub returns-clause-safe : goal.returns-clause-safe
returns-clause-safe g c = elim c.if-eq.branch [
  | goal.then-eq w ↦ rw w.self-is w.own.ensures.safe
  | goal.else-eq+else-is_none w ↦ rw w.self-is (λ d v honest P safe. safe)
]
