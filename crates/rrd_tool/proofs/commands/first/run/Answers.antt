use Rattle.rrd_tool.proofs.Common.{◌≡◌, FitsSigned, Ok, refl, rules, sym, oldest_time, first_text, time_line, shown_comes}
use Rattle.std.specs.Int.{w64}
use Rattle.std.proofs.lemmas.Int.{to_z-of_z}
use Rattle.rrd_tool.proofs.commands.first.run.Goals as goal

pub returns-in-Ok : goal.returns-in-Ok
returns-in-Ok g c =
    let kept = c.args.database in
    let fits : FitsSigned w64 c.in-Ok.time = search rules in
    let time : oldest_time kept.content c.args.archive ≡ Ok c.in-Ok.time = sym c.in-Ok.ensures in
    let old = g.W.Write.contents c.args.out.now in
    let new = g.W.Write.contents c.write_line-written.new.out in
    let written = rw (c.as_str.ensures.value, c.time_string.ensures.text, to_z-of_z w64 c.in-Ok.time fits) at c.write_line-written.ensures in
    shown_comes kept (λ k. first_text k.content c.args.archive) (time_line c.in-Ok.time) old new c.of_text.result (rw time refl)
    (c.of_text.ensures old new (time_line c.in-Ok.time) written)
