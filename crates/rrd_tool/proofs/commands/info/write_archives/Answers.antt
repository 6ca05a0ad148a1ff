use Rattle.rrd_tool.proofs.Common.{◌≡◌, ◌∙◌, ◌<◌, [], ap, arith, length, err_from_is_err_and, Appends, option_map_or, AppendsFront, archive_at, archive_text, one_more, one_stops}
use Rattle.rrd_tool.proofs.commands.info.write_archives.Goals as goal

pub returns-in_err-write_bytes : goal.returns-in_err-write_bytes
returns-in_err-write_bytes g c =
    let p = err_from_is_err_and c.from_residual.result c.from_residual.ensures.1 in
    let content = c.args.database.now.content in
    let old = g.W.Write.contents c.args.out.now in
    let mid = g.W.Write.contents c.loop-archive.out in
    let new = g.W.Write.contents c.write_bytes.new.out in
    let k = c.loop-archive.archive in
    let inside : k < length content.archives = omega (arith, c.archives-archive-end.ensures, c.loop-archive-test.true) in
    let here : archive_text k c.archive.result ≡ archive_at content k = ap (λ def. option_map_or (archive_text k) def []) c.archive.ensures in
    let text : c.as_bytes.result.now ≡ archive_at content k = c.as_bytes.ensures.value ∙ (c.as_str.ensures.value ∙ (c.archive_string-text.ensures ∙ here)) in
    let bad : AppendsFront mid new (archive_at content k) = rw text at c.in_err-write_bytes.ensures in
    rw p.1 (one_stops old mid new (archive_at content) k (length content.archives) inside c.loop-archive.invariant bad)

pub loop-archive-preserved : goal.loop-archive-preserved
loop-archive-preserved g c =
    let content = c.args.database.now.content in
    let old = g.W.Write.contents c.args.out.now in
    let mid = g.W.Write.contents c.loop-archive.out in
    let new = g.W.Write.contents c.write_bytes.new.out in
    let k = c.loop-archive.archive in
    let here : archive_text k c.archive.result ≡ archive_at content k = ap (λ def. option_map_or (archive_text k) def []) c.archive.ensures in
    let text : c.as_bytes.result.now ≡ archive_at content k = c.as_bytes.ensures.value ∙ (c.as_str.ensures.value ∙ (c.archive_string-text.ensures ∙ here)) in
    let good : Appends mid new (archive_at content k) = rw text at c.in_ok-write_bytes.ensures in
    one_more old mid new (archive_at content) k c.loop-archive.invariant good
