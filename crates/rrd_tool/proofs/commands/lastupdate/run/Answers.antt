use Rattle.rrd_tool.proofs.Common.{◌++◌, refl, header_text, lastupdate_text, raws_text, shown_comes}
use Rattle.rrd_tool.proofs.commands.lastupdate.run.Goals as goal

pub returns : goal.returns
returns g c =
    let kept = c.args.database in
    let text = header_text kept.content.sources ++ raws_text kept.content in
    let old = g.W.Write.contents c.args.out.now in
    let new = g.W.Write.contents c.write_raws-written.new.out in
    shown_comes kept (λ k. lastupdate_text k.content) text old new c.of_text.result refl (c.of_text.ensures old new text c.write_raws-written.ensures)
