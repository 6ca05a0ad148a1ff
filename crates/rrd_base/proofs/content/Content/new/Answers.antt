use Rattle.rrd_base.proofs.Common.{length-map, arith, ℕ, List, [], ◌∷◌, map, ◌≡◌, sym, ap, subst, length, ◌<◌, ◌≤◌, ◌/◌, AllByRecursion, RraDef, created, new_archive, IsValidArchive}
use Rattle.rrd_base.proofs.content.Content.new.Goals as goal

-- new archives that are valid have a number of rows that can be
good_rows : (sources steps : ℕ) (defs : List RraDef) → AllByRecursion (IsValidArchive sources steps) (map (new_archive sources) defs) → AllByRecursion (λ (def : RraDef). (0 < def.rows) × (def.rows ≤ 1000000)) defs
good_rows sources steps [] is = tt
good_rows sources steps (def ∷ defs) is = ((is.0.some_rows, is.0.few_rows), good_rows sources steps defs is.1)

pub new_all-requires : goal.new_all-requires
new_all-requires c =
    let spec = c.args.spec in
    let is = c.created_is_valid.ensures spec c.requires in
    let same : length (map (new_archive (length spec.sources)) spec.archives) ≡ length spec.archives = length-map spec.archives (new_archive (length spec.sources)) in
    record {
      rows = subst (λ defs. AllByRecursion (λ (def : RraDef). (0 < def.rows) × (def.rows ≤ 1000000)) defs) (sym c.as_slice.ensures) (good_rows (length spec.sources) ((created spec).last / (created spec).step) spec.archives is.archives_are);
      some_sources = subst (λ n. 0 < n) (sym c.len-sources.ensures) (c.created_is_valid.ensures c.args.spec c.requires).some_source;
      few_sources = subst (λ n. n ≤ 64) (sym c.len-sources.ensures) (c.created_is_valid.ensures c.args.spec c.requires).few_sources;
      few = omega (arith, ap length c.as_slice.ensures, same, (c.created_is_valid.ensures spec c.requires).few_archives);
    }
