use Rattle.rrd_change.proofs.Common.{◌+◌, ℕ, List, subst, sym, FailsToRestore, Reads, Restores, Steps, part_failed, part_restores, seen_restored, does_then}
use Rattle.rrd_change.proofs.writing.rewrite.Goals as goal

pub returns : goal.returns
returns g c =
    let at = c.args.at in
    let count = c.args.count in
    let end = at + count in
    let bytes = c.deref.result.now in
    let P : List ℕ → Type 0 = λ xs. Steps (Reads at count xs) (g.F.Bytes.view c.args.file.now) (g.F.Bytes.view c.read.new.self) in
    seen_restored c.args.syncs at end c.write_whole.result _ _
    (does_then (Reads at count bytes) _ (λ x. Restores at end) _ (FailsToRestore at end) c.write_whole.result _ _ _ (λ x u v w r m. part_restores at count bytes u v w r m)
    (λ u v w r m. part_failed at count bytes u v w r m) (subst P (sym c.deref.ensures.value) c.in_ok-read.ensures) c.write_whole.ensures)
