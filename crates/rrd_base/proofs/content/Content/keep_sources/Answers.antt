use Rattle.rrd_base.proofs.Common.{◌≡◌, sym, ◌∙◌, ap, subst, length, ◌≤◌, None, max_tuned, length-accepted, Content, option_map_or, TuningBy, moved, Fits, content_of, TuneEntry, archive_entry, saved_sources, verdict}
use Rattle.rrd_base.proofs.content.Content.keep_sources.Goals as goal

pub keep_sources-requires : goal.keep_sources-requires
keep_sources-requires c =
    let d = c.self.inside in
    let t = c.args.tuning.now in
    let accepted : verdict (content_of d) (TuningBy t) ≡ None = subst (λ (x : Content). verdict x (TuningBy t) ≡ None) (sym c.self.view_is) c.requires.accepted in
    let this = c.entry_fits.ensures (content_of d) (TuningBy t) c.self.invariant accepted in
    let few = (subst (λ a. Fits (moved (content_of d) (TuningBy t)) (option_map_or (archive_entry (content_of d)) a (TuneEntry (saved_sources t 0 d.sources.items d.raws.items)))) c.requires.alone this).few in
    record {
      one_each = ap length c.deref-2.ensures.value ∙ length-accepted d.sources.items d.raws.items c.self.invariant.raws_are ∙ sym (ap length c.deref.ensures.value);
      few = subst (λ ss. length (saved_sources t 0 ss c.deref-2.result.now) ≤ max_tuned) (sym c.deref.ensures.value) (subst (λ rs. length (saved_sources t 0 d.sources.items rs) ≤ max_tuned) (sym c.deref-2.ensures.value) few);
    }
