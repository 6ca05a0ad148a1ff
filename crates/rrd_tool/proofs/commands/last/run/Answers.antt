use Rattle.rrd_tool.proofs.Common.{pos, refl, last_text, time_line, shown_comes}
use Rattle.rrd_tool.proofs.commands.last.run.Goals as goal

pub returns : goal.returns
returns g c =
    let kept = c.args.database in
    let old = g.W.Write.contents c.args.out.now in
    let new = g.W.Write.contents c.write_line-written.new.out in
    shown_comes kept (λ k. last_text k.content) (time_line (pos kept.content.last)) old new c.of_text.result refl
    (c.of_text.ensures old new (time_line (pos kept.content.last)) (rw (c.format.ensures.text, c.last.ensures) at c.write_line-written.ensures))
