use Rattle.rrd_base.proofs.Common.{◌≡◌, sym, ◌∙◌, ap, subst, ◌<◌, length, set, Rra, Content, rows_at, with_rows_at, content_of, IsValid, rows_of_place, rows_set}
use Rattle.rrd_base.proofs.content.Content.resize.Goals as goal

pub invariant_of-self : goal.invariant_of-self
invariant_of-self c =
    let d = c.self.inside in
    let k = c.args.archive in
    let rows = c.args.rows in
    let there : k < length d.archives = subst (λ (x : Content). k < length x.archives) (sym c.self.view_is) c.requires.there in
    let archives : set d.archives k c.swap_rows.new.self ≡ with_rows_at d.archives k rows = cc (c.swap_rows.ensures.mine ∙ ap (λ (a : Rra). let b : Rra = record a { def = record a.def { rows = length rows }; rows = rows } in b) c.get_mut.ensures.value, rows_set d.archives k c.get_mut.result.now rows there) in
    subst (λ xs. IsValid (record (content_of d) { archives = xs })) (sym archives) (subst (λ (x : Content). IsValid (record x { archives = with_rows_at x.archives k rows })) (sym c.self.view_is) c.requires.valid)

pub returns : goal.returns
returns c =
    let d = c.self.inside in
    let k = c.args.archive in
    let rows = c.args.rows in
    let there : k < length d.archives = subst (λ (x : Content). k < length x.archives) (sym c.self.view_is) c.requires.there in
    let archives : set d.archives k c.swap_rows.new.self ≡ with_rows_at d.archives k rows = cc (c.swap_rows.ensures.mine ∙ ap (λ (a : Rra). let b : Rra = record a { def = record a.def { rows = length rows }; rows = rows } in b) c.get_mut.ensures.value, rows_set d.archives k c.get_mut.result.now rows there) in
    record {
      content = ap (λ xs. let x : Content = record (content_of d) { archives = xs } in x) archives ∙ ap (λ (x : Content). let y : Content = record x { archives = with_rows_at x.archives k rows } in y) c.self.view_is;
      old = c.swap_rows.ensures.others ∙ ap (λ (a : Rra). a.rows) c.get_mut.ensures.value ∙ rows_of_place d.archives k c.get_mut.result.now there ∙ ap (λ (x : Content). rows_at x.archives k) c.self.view_is;
    }
