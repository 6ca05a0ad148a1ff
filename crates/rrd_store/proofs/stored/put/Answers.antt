use Rattle.rrd_store.proofs.Common.{◌≡◌, ℕ, List, subst, sym, newest, IsFile, layout}
use Rattle.rrd_store.proofs.stored.put.Goals as goal

pub replace-requires : goal.replace-requires
replace-requires g c =
    let d = c.args.database.now in
    let same : c.args.bytes.now ≡ layout d = c.requires in
    (d, subst (λ (bytes : List ℕ). IsFile bytes d) (sym same) (c.layout_is_file.ensures.read newest d c.database_is_valid.ensures))
