use Rattle.rrd_change.proofs.Common.{length, AreAny, ArePut, AreWholeOrNot, does_as, never_does, page_failed, page_put}
use Rattle.rrd_change.proofs.page.replace_page.Goals as goal

pub returns : goal.returns
returns g c =
    let new = c.args.new.now in
    let base = c.args.base.now in
    does_as _ _ _ _ c.write_page.result _ _ (λ x u v s old began is rest. page_put base old new c.requires.longer began is u v s rest)
    (λ u v s old began is rest. page_failed base old new c.requires.longer began is u v s rest)
    (never_does (ArePut 0 new) (AreWholeOrNot 0 new) (AreAny 0 (length new)) c.write_page.result (g.F.Bytes.view c.args.file.now) (g.F.Bytes.view c.write_page.new.self) c.write_page.ensures)
