use Rattle.rrd_tool.proofs.Common.{◌∙◌, ◌<◌, ◌++◌, ap, sym, arith, codes, length, names_more}
use Rattle.rrd_tool.proofs.commands.fetch.header_string.Goals as goal

pub loop-source-preserved : goal.loop-source-preserved
loop-source-preserved c =
    let sources = c.args.database.now.content.sources in
    let i = c.loop-source.source in
    let source = c.source.result.now in
    let inside : i < length sources = omega (arith, c.sources-source-end.ensures.count, c.loop-source-test.true) in
    let inv = c.loop-source.invariant in (
      c.push_name.ensures.text ∙ (ap (λ l. l ++ codes " " ++ source.name) inv.0 ∙ ap (λ l. codes "time:" ++ l) (sym (names_more sources i source inside c.source.ensures))),
      omega (arith, inv.1, c.push_name.ensures.room),
    )
