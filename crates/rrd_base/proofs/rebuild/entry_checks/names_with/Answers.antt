use Rattle.rrd_base.proofs.Common.{◌∙◌, List, ap, refill, array_vec_len, Name, SavedSource, with_names, names_put, kept_refills}
use Rattle.rrd_base.proofs.rebuild.entry_checks.names_with.Goals as goal

pub returns : goal.returns
returns c =
    let all = c.names_of-all.result in
    let put = c.put_back.ensures ∙ ap (λ (ns : List Name). with_names ns c.args.olds.now) c.deref_mut.ensures.value in
    ap (refill (array_vec_len all) all.items) put ∙ (kept_refills (λ (old : SavedSource). old.source.name) all.items c.args.olds.now ∙ (ap (λ (ns : List Name). with_names ns c.args.olds.now) c.names_of-all.ensures ∙ names_put c.args.sources.now c.args.olds.now))
