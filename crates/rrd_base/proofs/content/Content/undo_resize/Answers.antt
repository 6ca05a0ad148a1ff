use Rattle.rrd_base.proofs.Common.{◌≡◌, sym, ◌∙◌, ap, subst, ◌<◌, length, set, Rra, Content, ResizeEntry, undone, with_rows_at, content_of, IsValid, rows_set}
use Rattle.rrd_base.proofs.content.Content.undo_resize.Goals as goal

pub invariant_of-self : goal.invariant_of-self
invariant_of-self c =
    let d = c.self.inside in
    let k = c.args.archive in
    let old = c.args.old in
    let there : k < length d.archives = subst (λ (x : Content). k < length x.archives) (sym c.self.view_is) c.requires.there in
    let archives : set d.archives k c.swap_rows.new.self ≡ with_rows_at d.archives k old = cc (c.swap_rows.ensures.mine ∙ ap (λ (a : Rra). let b : Rra = record a { def = record a.def { rows = length old }; rows = old } in b) c.get_mut.ensures.value, rows_set d.archives k c.get_mut.result.now old there) in
    subst (λ xs. IsValid (record (content_of d) { archives = xs })) (sym archives) (subst (λ (x : Content). IsValid (undone x (ResizeEntry k old))) (sym c.self.view_is) c.requires.valid)

pub returns : goal.returns
returns c =
    let d = c.self.inside in
    let k = c.args.archive in
    let old = c.args.old in
    let there : k < length d.archives = subst (λ (x : Content). k < length x.archives) (sym c.self.view_is) c.requires.there in
    let archives : set d.archives k c.swap_rows.new.self ≡ with_rows_at d.archives k old = cc (c.swap_rows.ensures.mine ∙ ap (λ (a : Rra). let b : Rra = record a { def = record a.def { rows = length old }; rows = old } in b) c.get_mut.ensures.value, rows_set d.archives k c.get_mut.result.now old there) in
    ap (λ xs. let x : Content = record (content_of d) { archives = xs } in x) archives ∙ ap (λ (x : Content). undone x (ResizeEntry k old)) c.self.view_is
