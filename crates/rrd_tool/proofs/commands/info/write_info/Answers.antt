use Rattle.rrd_tool.proofs.Common.{◌≡◌, ◌∙◌, ◌++◌, Err, Ok, length, err_from_is_err_and, Appends, AppendsFront, writes_stop, writes_then, texts_below, archive_at, head_text, source_at}
use Rattle.rrd_tool.proofs.commands.info.write_info.Goals as goal

pub returns-in_err-write_bytes : goal.returns-in_err-write_bytes
returns-in_err-write_bytes g c =
    let p = err_from_is_err_and c.from_residual.result c.from_residual.ensures.1 in
    let kept = c.args.database.now in
    let sources = texts_below (source_at kept.content) (length kept.content.sources) in
    let archives = texts_below (archive_at kept.content) (length kept.content.archives) in
    let old = g.W.Write.contents c.args.out.now in
    let new = g.W.Write.contents c.write_bytes.new.out in
    let head : c.as_bytes.result.now ≡ head_text kept = c.as_bytes.ensures.value ∙ (c.as_str.ensures.value ∙ c.head_string.ensures) in
    let bad : AppendsFront old new (head_text kept) = rw head at c.in_err-write_bytes.ensures in
    rw p.1 (writes_stop old new (head_text kept ++ sources) archives (writes_stop old new (head_text kept) sources bad))

pub returns-in_err-write_sources : goal.returns-in_err-write_sources
returns-in_err-write_sources g c =
    let p = err_from_is_err_and c.from_residual-in_err-write_sources.result c.from_residual-in_err-write_sources.ensures.1 in
    let kept = c.args.database.now in
    let sources = texts_below (source_at kept.content) (length kept.content.sources) in
    let old = g.W.Write.contents c.args.out.now in
    let mid = g.W.Write.contents c.write_bytes.new.out in
    let new = g.W.Write.contents c.write_sources.new.out in
    let head : c.as_bytes.result.now ≡ head_text kept = c.as_bytes.ensures.value ∙ (c.as_str.ensures.value ∙ c.head_string.ensures) in
    let good : Appends old mid (head_text kept) = rw head at c.in_ok-write_bytes.ensures in
    let bad = writes_then {T = Unit {0}} old mid new (head_text kept) sources (Err c.in_err-write_sources.field-0.0) good c.in_err-write_sources.ensures in
    rw p.1 (writes_stop old new (head_text kept ++ sources) (texts_below (archive_at kept.content) (length kept.content.archives)) bad)

pub returns : goal.returns
returns g c =
    let kept = c.args.database.now in
    let sources = texts_below (source_at kept.content) (length kept.content.sources) in
    let archives = texts_below (archive_at kept.content) (length kept.content.archives) in
    let old = g.W.Write.contents c.args.out.now in
    let mid = g.W.Write.contents c.write_bytes.new.out in
    let next = g.W.Write.contents c.write_sources.new.out in
    let new = g.W.Write.contents c.write_archives.new.out in
    let head : c.as_bytes.result.now ≡ head_text kept = c.as_bytes.ensures.value ∙ (c.as_str.ensures.value ∙ c.head_string.ensures) in
    let good : Appends old mid (head_text kept) = rw head at c.in_ok-write_bytes.ensures in
    let both = writes_then {T = Unit {0}} old mid next (head_text kept) sources (Ok (tt {0})) good c.in_ok-write_sources.ensures in
    writes_then {T = Unit {0}} old next new (head_text kept ++ sources) archives c.write_archives.result both c.write_archives.ensures
