use Rattle.rrd_file.proofs.Common.{◌≡◌, ◌∙◌, List, ap, length, subst, sym, arith, AllByRecursion, flat_map, SavedArchive, update_of, saved_pieces, spelled, IsWide, saved_wide, update_has, rules}
use Rattle.rrd_file.proofs.length.update_length.Goals as goal

pub all_saved_length-requires : goal.all_saved_length-requires
all_saved_length-requires c =
    let now = c.requires.now in
    let old = c.args.before.now in
    let are = saved_wide now.step (length now.sources) old.last now.last now.archives old.archives.items c.requires.fits.archives_fit in
    let sources : length now.sources ≡ c.len-sources.result = omega (arith, c.len-sources.ensures, c.requires.fits.one_raw_each) in
    let wide = subst (λ n. AllByRecursion (IsWide n) old.archives.items) sources are.wide in
    record {
      few_archives = omega (arith, ap length c.deref.ensures.value, are.many, c.requires.valid.few_archives);
      wide = subst (λ (olds : List SavedArchive). AllByRecursion (IsWide c.len-sources.result) olds) (sym c.deref.ensures.value) wide;
      few_sources = search rules;
    }

pub returns-clause-count : goal.returns-clause-count
returns-clause-count c =
    let old = update_of c.args.before.now in
    let same : length old.raws ≡ length old.parts = c.requires.fits.one_raw_each ∙ sym c.requires.fits.one_part_each in
    let archives = ap (λ (olds : List SavedArchive). length (spelled (flat_map saved_pieces olds))) c.deref.ensures.value in
    omega (arith, update_has old same, archives, c.all_saved_length.ensures.count, c.len-sources.ensures)
