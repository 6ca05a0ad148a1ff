use Rattle.rrd_base.proofs.Common.{rules, ◌≡◌, ℕ, sym, ◌∙◌, ap, subst, FitsSigned, ◌*◌, ◌/◌, ◌<◌, pos, ◌-ℤ◌, length, replicate, get_or, arith, ◌-◌, ℤ, negsuc, nat_lt, Option, Some, None, List, cond_both, ltb-true, AllByRecursion, IfNone, Cell, get_or-replicate, length-replicate, IfSome_then, int_div_euclid, w64, w128, Content, content_of, row_at, row_of_age, cell_at, IsRow, IsValidArchive, cell_of_archive, All-at}
use Rattle.std.proofs.lemmas.Int.{to_z-of_z}
use Rattle.rrd_fixed.specs.declared.cell.Cell.TheVariants.{Unknown}
use Rattle.rrd_base.proofs.content.Content.row.Goals as goal

-- rows of one width, and an unknown one as wide
row_of_age_wide : (n : ℕ) (rows : List (List Cell)) (unknown : List Cell) (age : ℤ) → AllByRecursion (IsRow n) rows → length unknown ≡ n → length (row_of_age rows unknown age) ≡ n
row_of_age_wide n rows unknown (negsuc ahead) wide e = e
row_of_age_wide n rows unknown (pos age) wide e =
    cond_both (nat_lt age (length rows)) (get_or rows (length rows - 1 - age) unknown) unknown (λ row. length row ≡ n)
    (λ less. let here = All-at (IsRow n) rows (length rows - 1 - age) unknown wide (omega (arith, ltb-true age (length rows) less)) in here.one_each)
    (λ more. e)

-- what follows where there is no value
none_then : {A : Type 0} (o : Option A) {P Q : Type 0} → IfNone o P → (P → Q) → IfNone o Q
none_then None h f = f h
none_then (Some x) h f = tt

pub returns : goal.returns
returns c =
    let d = c.self.inside in
    let X : Content = content_of d in
    let rra = c.get-rra.result.now in
    let there : c.args.archive < length d.archives = subst (λ (x : Content). c.args.archive < length x.archives) (sym c.self.view_is) c.requires in
    let fits : FitsSigned w64 c.args.time = search rules in
    let age : c.age.result ≡ (pos (d.last / (d.step * rra.def.steps)) -ℤ int_div_euclid c.args.time (pos (d.step * rra.def.steps))) = cc (simp to_z-of_z at c.age.ensures, c.resolution-resolution.ensures.value, c.def.ensures) in
    let fits_age : FitsSigned w128 c.age.result = search rules in
    let n = length d.sources.items in
    let valid = subst (IsValidArchive n (d.last / d.step)) (sym c.get-rra.ensures) (All-at (IsValidArchive n (d.last / d.step)) d.archives c.args.archive rra c.self.invariant.archives_are there) in
    record {
      cells =
          let unknown = replicate (length d.sources.items) Unknown in
          IfSome_then c.row_of_age.result c.row_of_age.ensures.some (λ row e source.
          let same : row.now ≡ row_of_age rra.rows unknown c.age.result = sym (simp to_z-of_z at (e unknown)) in
          ap (λ cells. get_or cells source Unknown) (same ∙ ap (row_of_age rra.rows unknown) age)
          ∙ ap (λ a. get_or (row_at X a c.args.time) source Unknown) c.get-rra.ensures
          ∙ cell_of_archive X d.archives c.args.archive rra c.args.time source there
          ∙ ap (λ (x : Content). cell_at x c.args.archive c.args.time source) c.self.view_is);
      wide =
          let unknown = replicate n Unknown in
          IfSome_then c.row_of_age.result c.row_of_age.ensures.some (λ row e.
          ap length (sym (e unknown)) ∙ row_of_age_wide n rra.rows unknown _ valid.each_row (length-replicate n Unknown) ∙ ap (λ (x : Content). length x.sources) c.self.view_is);
      none =
          let unknown = replicate (length d.sources.items) Unknown in
          none_then c.row_of_age.result c.row_of_age.ensures.none (λ e source within.
          let same : row_of_age rra.rows unknown c.age.result ≡ unknown = simp to_z-of_z at (e unknown) in
          let inside : source < length d.sources.items = subst (λ (x : Content). source < length x.sources) (sym c.self.view_is) within in
          ap (λ (x : Content). cell_at x c.args.archive c.args.time source) (sym c.self.view_is)
          ∙ sym (cell_of_archive X d.archives c.args.archive rra c.args.time source there)
          ∙ ap (λ a. get_or (row_at X a c.args.time) source Unknown) (sym c.get-rra.ensures)
          ∙ ap (λ cells. get_or cells source Unknown) (ap (row_of_age rra.rows unknown) (sym age) ∙ same)
          ∙ get_or-replicate (length d.sources.items) source Unknown Unknown inside);
    }
