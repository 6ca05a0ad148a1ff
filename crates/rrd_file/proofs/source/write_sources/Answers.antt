use Rattle.rrd_file.proofs.Common.{map, arith, sources_of, OfSource, spell, source_there, length_sources, lengths, err_from_is_err_and, all_added, item_added, item_broken, mapped_at}
use Rattle.rrd_file.proofs.source.write_sources.Goals as goal

pub returns-in_err-write_source : goal.returns-in_err-write_source
returns-in_err-write_source g c =
    let p = err_from_is_err_and c.from_residual.result c.from_residual.ensures.1 in
    let d = c.args.database.now.content in
    let valid = c.database_is_valid.ensures.content_is in
    let found = source_there d.sources d.raws d.parts c.loop-number.number (lengths d valid) (omega (arith, c.sources-number-end.ensures.count, c.loop-number-test.true)) in
    rw p.1 (item_broken (spell) (map OfSource (sources_of d.sources d.raws d.parts)) c.loop-number.number (OfSource found.0) (mapped_at OfSource (sources_of d.sources d.raws d.parts) c.loop-number.number found.0 found.1) (c.loop-number.invariant) (c.in_err-write_source.ensures found.0 found.1))

pub loop-number-preserved : goal.loop-number-preserved
loop-number-preserved g c =
    let d = c.args.database.now.content in
    let valid = c.database_is_valid.ensures.content_is in
    let found = source_there d.sources d.raws d.parts c.loop-number.number (lengths d valid) (omega (arith, c.sources-number-end.ensures.count, c.loop-number-test.true)) in
    item_added (spell) (map OfSource (sources_of d.sources d.raws d.parts)) c.loop-number.number (OfSource found.0) (mapped_at OfSource (sources_of d.sources d.raws d.parts) c.loop-number.number found.0 found.1) (c.loop-number.invariant) (c.in_ok-write_source.ensures found.0 found.1)

pub returns : goal.returns
returns g c =
    let d = c.args.database.now.content in
    all_added (spell) (map OfSource (sources_of d.sources d.raws d.parts)) c.loop-number.number (omega (arith, c.sources-number-end.ensures.count, c.loop-number-test.false, length_sources d (c.database_is_valid.ensures.content_is))) (c.loop-number.invariant)
