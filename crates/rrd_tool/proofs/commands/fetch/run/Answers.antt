use Rattle.rrd_tool.proofs.Common.{◌≡◌, Ok, refl, sym, choice, fetch_text, fetch_answer, shown_comes}
use Rattle.rrd_tool.proofs.commands.fetch.run.Goals as goal

pub returns-in-Ok : goal.returns-in-Ok
returns-in-Ok g c =
    let kept = c.args.database in
    let chosen : choice kept.content c.args.request.function c.args.request.asked c.args.request.start c.args.request.end ≡ Ok c.in-Ok.chosen = sym c.in-Ok.ensures in
    let text = fetch_text kept.content c.in-Ok.chosen in
    let old = g.W.Write.contents c.args.out.now in
    let new = g.W.Write.contents c.write_fetch-written.new.out in
    shown_comes kept (λ k. fetch_answer k.content c.args.request) text old new c.of_text.result (rw chosen refl)
    (c.of_text.ensures old new text c.write_fetch-written.ensures)

pub write_fetch-written-requires : goal.write_fetch-written-requires
write_fetch-written-requires g c = (c.args.request.function, c.args.request.asked, c.args.request.start, c.args.request.end, sym c.in-Ok.ensures)
