use Rattle.rrd_tool.proofs.Common.{◌≡◌, ◌∙◌, ◌<◌, ◌++◌, ap, sym, append_assoc, arith, codes, get_or, length, pos, Unknown, raw_text, time_text, DsDef, texts_below, raw_at, at_place, below_more}
use Rattle.rrd_tool.proofs.commands.lastupdate.raws_string.Goals as goal

pub loop-source-preserved : goal.loop-source-preserved
loop-source-preserved c =
    let content = c.args.database.now.content in
    let i = c.loop-source.source in
    let source = c.source.result.now in
    let inside : i < length content.sources = omega (arith, c.sources-source-end.ensures.count, c.loop-source-test.true) in
    let inv = c.loop-source.invariant in
    let before = texts_below (raw_at content) i in
    let raw = raw_text source.kind c.last_raw.result in
    let more = codes " " ++ raw in
    let begun = time_text (pos content.last) ++ codes ":" in
    let here : raw_at content i ≡ more =
    at_place (λ (s : DsDef). codes " " ++ raw_text s.kind (get_or content.raws i Unknown)) content.sources i source inside c.source.ensures
    ∙ ap (λ raw. codes " " ++ raw_text source.kind raw) (sym c.last_raw.ensures) in (
      c.push_raw.ensures.text
          ∙ (append_assoc c.loop-source.line.bytes (codes " ") raw
          ∙ (ap (λ l. l ++ more) inv.0
          ∙ (append_assoc begun before more
          ∙ ap (λ l. begun ++ l) (ap (λ l. before ++ l) (sym here) ∙ sym (below_more (raw_at content) i))))),
      omega (arith, inv.1, c.push_raw.ensures.room),
    )
