use Rattle.rrd_base.proofs.Common.{◌≡◌, ap, ◌*◌, ◌<◌, length, get_or, arith, mul-le, SavedArchive, cells_wide, one_more, wide_at}
use Rattle.rrd_base.proofs.journal.count_cells.Goals as goal

pub loop-archive-preserved : goal.loop-archive-preserved
loop-archive-preserved c =
    let i = c.loop-archive.archive-index in
    let saved = c.args.archives.now in
    let n = c.args.sources in
    let d = c.archive-item.result in
    let within : i < length saved = omega (arith, c.loop-archive-test.true, c.loop-archive.auto.archive-index-end) in
    let this = ap (λ (s : SavedArchive). length s.rows) c.archive-item.is in
    let count : c.len.result ≡ length (get_or saved i d).rows = omega (arith, c.len.ensures.count, (ap length c.rows.ensures), this) in
    let cells = ap (λ m. m * n) count in
    let wide = cells_wide n (get_or saved i d).rows (wide_at n saved i d within c.requires.one_each) in
    record {
      counted = omega (arith, one_more saved i d within, wide, cells, c.loop-archive.invariant.counted);
      few = omega (arith, (mul-le c.len.result n 1000000 64 c.len.ensures.few c.requires.few_sources), c.loop-archive.invariant.few);
    }
