use Rattle.rrd_file.proofs.Common.{◌≡◌, ◌+◌, ◌*◌, ◌/◌, length, arith, front_has, heads_have, sources_have}
use Rattle.rrd_file.proofs.length.front_length.Goals as goal

pub returns-clause-count : goal.returns-clause-count
returns-clause-count c =
    let d = c.args.database.now.content in
    let valid = c.database_is_valid.ensures.content_is in
    let heads : c.archives.result * (13 + 20 * c.sources-sources.result) ≡ length d.archives * (13 + 20 * length d.sources) = λ i. c.archives.ensures.count i * (13 + 20 * c.sources-sources.ensures.count i) in
    omega (arith, front_has c.args.database.now, sources_have d.sources d.raws d.parts valid.sources_are valid.raws_are valid.parts_are.one_each, heads_have (length d.sources) (d.last / d.step) d.archives valid.archives_are, heads, c.sources-sources.ensures.count)
