use Rattle.rrd_tool.proofs.Common.{◌≡◌, ◌∙◌, err_from_is_err_and, Appends, header_text, rows_text, AppendsFront, writes_stop, writes_then, chosen_readable}
use Rattle.rrd_tool.proofs.commands.fetch.write_fetch.Goals as goal

pub returns-in_err-write_bytes : goal.returns-in_err-write_bytes
returns-in_err-write_bytes g c =
    let p = err_from_is_err_and c.from_residual.result c.from_residual.ensures.1 in
    let old = g.W.Write.contents c.args.out.now in
    let new = g.W.Write.contents c.write_bytes.new.out in
    let header : c.as_bytes.result.now ≡ header_text c.args.database.now.content.sources = c.as_bytes.ensures.value ∙ (c.as_str.ensures.value ∙ c.header_string.ensures) in
    let bad : AppendsFront old new (header_text c.args.database.now.content.sources) = rw header at c.in_err-write_bytes.ensures in
    rw p.1 (writes_stop old new (header_text c.args.database.now.content.sources) (rows_text c.args.database.now.content c.args.chosen) bad)

pub returns : goal.returns
returns g c =
    let old = g.W.Write.contents c.args.out.now in
    let mid = g.W.Write.contents c.write_bytes.new.out in
    let new = g.W.Write.contents c.write_rows.new.out in
    let header : c.as_bytes.result.now ≡ header_text c.args.database.now.content.sources = c.as_bytes.ensures.value ∙ (c.as_str.ensures.value ∙ c.header_string.ensures) in
    let good : Appends old mid (header_text c.args.database.now.content.sources) = rw header at c.in_ok-write_bytes.ensures in
    writes_then {T = Unit {0}} old mid new (header_text c.args.database.now.content.sources) (rows_text c.args.database.now.content c.args.chosen) c.write_rows.result good c.write_rows.ensures

pub write_rows-requires : goal.write_rows-requires
write_rows-requires g c =
    let asked = c.requires in
    chosen_readable c.args.database.now.content asked.0 asked.1 asked.2 asked.3 c.args.chosen c.database_is_valid.ensures.content_is asked.4
