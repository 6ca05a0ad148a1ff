use Rattle.rrd_change.proofs.Common.{◌∙◌, ap, ◌++◌, three}
use Rattle.rrd_change.proofs.encoding.push_piece.Goals as goal

pub returns : goal.returns
returns c = three c.args.buffer.now.items _ _ c.args.bytes.now _ _ _ (c.in_ok-extend_from_slice.ensures.items ∙ ap (λ xs. c.args.buffer.now.items ++ xs) c.to_be_bytes.ensures)
    (c.in_ok-extend_from_slice-2.ensures.items ∙ ap (λ xs. c.extend_from_slice.new.self.items ++ xs) c.to_be_bytes-2.ensures) c.in_ok-extend_from_slice-3.ensures.items
