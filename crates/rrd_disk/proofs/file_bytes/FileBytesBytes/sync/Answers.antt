use Rattle.rrd_disk.proofs.Common.{List, ℕ, length, sym, ◌∙◌, ap, subst, Begins, sync_keeps, guards_kept}
use Rattle.rrd_disk.proofs.file_bytes.FileBytesBytes.sync.Goals as goal

pub invariant_of-self-2 : goal.invariant_of-self-2
invariant_of-self-2 g c =
    let old = g.D.Disk.events c.args.self.now.disk in
    let new = g.D.Disk.events c.sync.new.disk in
    record {
      shown = λ s h.
          let kept = sync_keeps c.sync.result old new c.sync.ensures.did s h in
          subst (λ (b : List ℕ). Begins b c.args.self.now.front.bytes.items) (sym kept.1) (c.args.self.now.shown s kept.0);
      measured = λ s h n is.
          let kept = sync_keeps c.sync.result old new c.sync.ensures.did s h in
          c.args.self.now.measured s kept.0 n is ∙ ap (λ (b : List ℕ). length b) (sym kept.1);
      guarded = guards_kept c.args.self.now.file old new c.sync.ensures.guard c.args.self.now.guarded;
    }
