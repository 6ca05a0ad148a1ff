use Rattle.rrd_tool.proofs.Common.{◌≡◌, ◌∙◌, ◌<◌, ℕ, List, ap, arith, get_or, length, err_from_is_err_and, Appends, Raw, Unknown, AppendsFront, DsDef, Content, source_at, source_text, at_place, one_more, one_stops}
use Rattle.rrd_tool.proofs.commands.info.write_sources.Goals as goal

-- the lines of the source of this number
source_here : (content : Content) (k : ℕ) (source : DsDef) (raw : Raw) (bytes : List ℕ) → k < length content.sources → source ≡ get_or content.sources k source → raw ≡ get_or content.raws k Unknown
    → bytes ≡ source_text k source raw → bytes ≡ source_at content k
source_here content k source raw bytes inside is got e =
    let text : Raw → List ℕ = source_text k source in
    rw (at_place (λ (s : DsDef). source_text k s (get_or content.raws k Unknown)) content.sources k source inside is) (e ∙ ap text got)

pub returns-in_err-write_bytes : goal.returns-in_err-write_bytes
returns-in_err-write_bytes g c =
    let p = err_from_is_err_and c.from_residual.result c.from_residual.ensures.1 in
    let content = c.args.database.now.content in
    let old = g.W.Write.contents c.args.out.now in
    let mid = g.W.Write.contents c.loop-number.out in
    let new = g.W.Write.contents c.write_bytes.new.out in
    let k = c.loop-number.number in
    let inside : k < length content.sources = omega (arith, c.sources-number-end.ensures.count, c.loop-number-test.true) in
    let lines = source_here content k c.source.result.now c.last_raw.result c.source_string-text.result.bytes inside c.source.ensures c.last_raw.ensures c.source_string-text.ensures in
    let text : c.as_bytes.result.now ≡ source_at content k = c.as_bytes.ensures.value ∙ (c.as_str.ensures.value ∙ lines) in
    let bad : AppendsFront mid new (source_at content k) = rw text at c.in_err-write_bytes.ensures in
    rw p.1 (one_stops old mid new (source_at content) k (length content.sources) inside c.loop-number.invariant bad)

pub loop-number-preserved : goal.loop-number-preserved
loop-number-preserved g c =
    let content = c.args.database.now.content in
    let old = g.W.Write.contents c.args.out.now in
    let mid = g.W.Write.contents c.loop-number.out in
    let new = g.W.Write.contents c.write_bytes.new.out in
    let k = c.loop-number.number in
    let inside : k < length content.sources = omega (arith, c.sources-number-end.ensures.count, c.loop-number-test.true) in
    let lines = source_here content k c.source.result.now c.last_raw.result c.source_string-text.result.bytes inside c.source.ensures c.last_raw.ensures c.source_string-text.ensures in
    let text : c.as_bytes.result.now ≡ source_at content k = c.as_bytes.ensures.value ∙ (c.as_str.ensures.value ∙ lines) in
    let good : Appends mid new (source_at content k) = rw text at c.in_ok-write_bytes.ensures in
    one_more old mid new (source_at content) k c.loop-number.invariant good
