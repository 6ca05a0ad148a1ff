use Rattle.rrd_ring.proofs.Common.{sym, subst, AreDropped, AreDropped-rows_of, rows_len}
use Rattle.rrd_ring.proofs.dropped.Dropped.len.Goals as goal

pub returns-clause-count : goal.returns-clause-count
returns-clause-count c = sym (rows_len _ _ _ _ c.self.view_is)

pub returns-clause-each_row : goal.returns-clause-each_row
returns-clause-each_row c =
    let a = c.self.inside in
    (subst AreDropped c.self.view_is (AreDropped-rows_of a.rows a.sources a.cells.items c.self.invariant)).one_width
