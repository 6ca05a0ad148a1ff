use Rattle.rrd_change.proofs.Common.{◌≡◌, ◌++◌, length, ◌∙◌, ap, sym, body_bytes, head_bytes, change_of, change_pushed, length-pieces}
use Rattle.rrd_change.proofs.encoding.push_change.Goals as goal

pub returns-clause-ok : goal.returns-clause-ok
returns-clause-ok c =
    let size = c.args.size in
    let bytes = c.args.bytes.now in
    let spans = c.args.spans.now in
    let change = change_of size bytes spans in
    let body : c.push_pieces.new.buffer.items ≡ body_bytes change = c.in_ok-push_pieces.ensures.ok ∙ ap (λ xs. xs ++ body_bytes change) c.new-body.ensures.items in
    let seen : c.deref.result.now ≡ body_bytes change = c.deref.ensures.value ∙ body in
    let seen_too : c.deref-2.result.now ≡ body_bytes change = c.deref-2.ensures.value ∙ body in
    change_pushed c.args.tail c.args.at change c.args.buffer.now.items c.head.result c.deref-2.result.now _ (length spans)
    (c.head.ensures ∙ ap (λ xs. head_bytes c.args.tail c.args.at (length spans) size xs) (seen ∙ sym seen_too)) seen_too (sym (length-pieces bytes spans))
    (c.in_ok-extend_from_slice-2.ensures.items ∙ ap (λ xs. xs ++ c.deref-2.result.now) c.in_ok-extend_from_slice.ensures.items)
