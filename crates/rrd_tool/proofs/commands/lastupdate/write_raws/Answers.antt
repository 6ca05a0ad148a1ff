use Rattle.rrd_tool.proofs.Common.{◌≡◌, ◌∙◌, err_from_is_err_and, Appends, AppendsFront, Writes, writes_stop, writes_then, header_text, raws_text}
use Rattle.rrd_tool.proofs.commands.lastupdate.write_raws.Goals as goal

pub returns-in_err-write_bytes : goal.returns-in_err-write_bytes
returns-in_err-write_bytes g c =
    let content = c.args.database.now.content in
    let old = g.W.Write.contents c.args.out.now in
    let new = g.W.Write.contents c.write_bytes.new.out in
    let header : c.as_bytes.result.now ≡ header_text content.sources = c.as_bytes.ensures.value ∙ (c.as_str.ensures.value ∙ c.header_string.ensures) in
    let bad : AppendsFront old new (header_text content.sources) = rw header at c.in_err-write_bytes.ensures in
    rw (err_from_is_err_and c.from_residual.result c.from_residual.ensures.1).1 (writes_stop old new (header_text content.sources) (raws_text content) bad)

pub returns : goal.returns
returns g c =
    let content = c.args.database.now.content in
    let old = g.W.Write.contents c.args.out.now in
    let mid = g.W.Write.contents c.write_bytes.new.out in
    let new = g.W.Write.contents c.write_bytes-2.new.out in
    let header : c.as_bytes.result.now ≡ header_text content.sources = c.as_bytes.ensures.value ∙ (c.as_str.ensures.value ∙ c.header_string.ensures) in
    let raws : c.as_bytes-2.result.now ≡ raws_text content = c.as_bytes-2.ensures.value ∙ (c.as_str-2.ensures.value ∙ c.raws_string.ensures) in
    let good : Appends old mid (header_text content.sources) = rw header at c.in_ok-write_bytes.ensures in
    let next : Writes mid new (raws_text content) c.write_bytes-2.result = rw raws at c.write_bytes-2.ensures in
    writes_then {T = Unit {0}} old mid new (header_text content.sources) (raws_text content) c.write_bytes-2.result good next
