use Rattle.rrd_base.proofs.Common.{◌≡◌, sym, ◌∙◌, ap, subst, IfOk, None, get_or, Rra, Content, RraDef, Resizing, rows_changed, rows_of_archives, content_of, rows_at, verdict, newest_rows, rows_at_archive, rows_of_place}
use Rattle.rrd_base.proofs.content.Content.resized.Goals as goal

pub returns : goal.returns
returns c =
    let X = content_of c.self.inside in
    let k = c.args.archive in
    let accepted = subst (λ (x : Content). verdict x (Resizing k c.args.change c.args.rows) ≡ None) (sym c.self.view_is) c.requires in
    let there = (c.resize_changes_rows.ensures.fits X k c.args.change c.args.rows c.self.invariant accepted).there in
    let old : c.def.result.rows ≡ (get_or X.archives k c.get-rra.result.now).def.rows = ap (λ (d : RraDef). d.rows) c.def.ensures ∙ ap (λ (a : Rra). a.def.rows) c.get-rra.ensures in
    let new : c.rows_changed.result ≡ rows_changed c.args.change (get_or (rows_of_archives X.archives) k 0) c.args.rows = cc (c.rows_changed.ensures, old ∙ sym (rows_at_archive X.archives k c.get-rra.result.now there)) in
    let place : c.get-rra.result.now.rows ≡ rows_at X.archives k = ap (λ (a : Rra). a.rows) c.get-rra.ensures ∙ rows_of_place X.archives k c.get-rra.result.now there in
    subst (λ (x : Content). IfOk c.resized.result (λ new. new ≡ newest_rows (rows_changed c.args.change (get_or (rows_of_archives x.archives) k 0) c.args.rows) (rows_at x.archives k))) c.self.view_is
    (subst (λ n. IfOk c.resized.result (λ new. new ≡ newest_rows n (rows_at X.archives k))) new
    (subst (λ rs. IfOk c.resized.result (λ new. new ≡ newest_rows c.rows_changed.result rs)) place c.resized.ensures))
