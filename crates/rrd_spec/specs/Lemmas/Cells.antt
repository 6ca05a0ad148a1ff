-- Law: the rows and parts that are shown of archive `number`.
use Rattle.std.specs.Prelude.{◌≡◌, ℕ, zero, suc, ◌<◌, ℤ, List, [], ◌∷◌, length}
use Rattle.rrd_spec.specs.Names.{refl, get_or, le_of_suc-le-suc, not-suc-le-zero, Unknown, Consolidating, nothing}
use Rattle.rrd_spec.specs.History.{Rra, Content}
use Rattle.rrd_spec.specs.History.Cells.{cell_in, prep_in, row_at}

pub cell_of_archive : (content : Content) (archives : List Rra) (k : ℕ) (d : Rra) (time : ℤ) (source : ℕ)
    → k < length archives
    → get_or (row_at content (get_or archives k d) time) source Unknown ≡ cell_in content archives k time source
cell_of_archive content [] k d time source h = absurd (not-suc-le-zero h)
cell_of_archive content (a ∷ rest) zero d time source h = refl
cell_of_archive content (a ∷ rest) (suc k) d time source h =
    cell_of_archive content rest k d time source (le_of_suc-le-suc h)

pub prep_of_archive : (archives : List Rra) (k : ℕ) (d : Rra) (source : ℕ) → k < length archives
    → (let a : Rra = get_or archives k d in
    let p : Consolidating = record { function = a.def.function; part = get_or a.parts source nothing } in p)
    ≡ prep_in archives k source
prep_of_archive [] k d source h = absurd (not-suc-le-zero h)
prep_of_archive (a ∷ rest) zero d source h = refl
prep_of_archive (a ∷ rest) (suc k) d source h = prep_of_archive rest k d source (le_of_suc-le-suc h)
