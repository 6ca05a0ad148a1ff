use Rattle.rrd_tool.proofs.Common.{◌++◌, length, refl, texts_below, archive_at, head_text, info_text, source_at, shown_comes}
use Rattle.rrd_tool.proofs.commands.info.run.Goals as goal

pub returns : goal.returns
returns g c =
    let kept = c.args.database in
    let text = head_text kept
    ++ texts_below (source_at kept.content) (length kept.content.sources)
    ++ texts_below (archive_at kept.content) (length kept.content.archives) in
    let old = g.W.Write.contents c.args.out.now in
    let new = g.W.Write.contents c.write_info-written.new.out in
    shown_comes kept info_text text old new c.of_text.result refl (c.of_text.ensures old new text c.write_info-written.ensures)
