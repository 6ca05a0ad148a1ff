use Rattle.rrd_disk.proofs.Common.{sym, ◌∙◌, bytes_after, failed, did_size, size_fails, guards_kept, some_is, arith, common_steps}
use Rattle.rrd_disk.proofs.file_bytes.FileBytesBytes.set_len.Goals as goal

pub returns-in_err-set_length : goal.returns-in_err-set_length
returns-in_err-set_length g c = grind (arith, common_steps, failed, size_fails)

pub invariant_of-self-2 : goal.invariant_of-self-2
invariant_of-self-2 g c =
    let mid = g.D.Disk.events c.forget.new.self.disk in
    let new = g.D.Disk.events c.set_length.new.disk in
    record {
      shown = λ s h. c.forget.ensures.front (bytes_after s new);
      measured = λ s h n is. some_is n c.args.count is ∙ sym (did_size c.args.count mid new c.in_ok-set_length.ensures.did s h);
      guarded = guards_kept c.forget.new.self.file mid new c.in_ok-set_length.ensures.guard c.forget.new.self.guarded;
    }
