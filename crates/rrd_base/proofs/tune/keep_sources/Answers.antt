use Rattle.rrd_base.proofs.Common.{◌≡◌, refl, sym, ◌∙◌, ap, suc, ◌+◌, ◌<◌, ◌≤◌, true, false, cond, [], ◌∷◌, ◌++◌, take, get_or, length, length-append, append-nil, arith, lit<, max_tuned, DsDef, SavedSource, before_more, before_few}
use Rattle.rrd_fixed.specs.declared.raw.Raw.TheVariants.{Unknown}
use Rattle.rrd_spec.specs.Journal.Entries as entries
use Rattle.rrd_base.proofs.tune.keep_sources.Goals as goal
use Rattle.rrd_base.proofs.tune.keep_sources.Goals.{then-is_named, else-is_named}

pub push-requires : goal.push-requires
push-requires c =
    let i = c.loop-number.number in
    let sources = c.args.sources.now in
    let raws = c.args.raws.now in
    let tuning = c.args.tuning.now in
    let d = c.index-sources-number.result in
    let within : i < length sources = omega arith in
    let h : SavedSource = record { number = i; source = get_or sources i d; raw = get_or raws i Unknown } in
    let more = before_more tuning 0 i i sources raws d Unknown within c.requires.one_each (omega arith) in
    let named : entries.is_named tuning (get_or sources i d) ≡ true = ap (entries.is_named tuning) (sym c.index-sources-number.is) ∙ sym c.is_named.ensures ∙ c.if-is_named.true in
    let grown : entries.saved_sources tuning 0 (take (suc i) sources) (take (suc i) raws) ≡ c.loop-number.kept.items ++ h ∷ [] = cc (more, named, c.loop-number.invariant) in
    let few = before_few tuning 0 (suc i) sources raws in
    let count : length (c.loop-number.kept.items ++ h ∷ []) ≡ length c.loop-number.kept.items + 1 = omega (arith, length-append c.loop-number.kept.items (h ∷ [])) in
    let whole : length (c.loop-number.kept.items ++ h ∷ []) ≤ max_tuned = omega (arith, ap length grown, few, c.requires.few) in
    (lit< tt, omega arith)

pub loop-number-preserved : goal.loop-number-preserved
loop-number-preserved c =
    let i = c.loop-number.number in
    let sources = c.args.sources.now in
    let raws = c.args.raws.now in
    let tuning = c.args.tuning.now in
    let d = c.index-sources-number.result in
    let within : i < length sources = omega arith in
    let h : SavedSource = record { number = i; source = get_or sources i d; raw = get_or raws i Unknown } in
    let more = before_more tuning 0 i i sources raws d Unknown within c.requires.one_each (omega arith) in
    let next : entries.saved_sources tuning 0 (take (suc i) sources) (take (suc i) raws) ≡ entries.saved_sources tuning 0 (take (i + 1) sources) (take (i + 1) raws) = ap (λ k. entries.saved_sources tuning 0 (take k sources) (take k raws)) {x = suc i} {y = i + 1} (omega arith) in
    let same = ap (entries.is_named tuning) (sym c.index-sources-number.is) ∙ sym c.is_named.ensures in
    elim c.if-is_named.branch [
      | then-is_named w ↦
          let named : entries.is_named tuning (get_or sources i d) ≡ true = same ∙ w.if-is_named.true in
          let pushed : c.if-is_named.kept.items ≡ c.loop-number.kept.items ++ h ∷ []
          = rw (w.kept-is, w.push.ensures.items) (ap (λ (s : DsDef). let x : SavedSource = record { number = i; source = s; raw = get_or raws i Unknown } in c.loop-number.kept.items ++ x ∷ []) (w.duplicate.ensures ∙ c.index-sources-number.is)) in
          pushed ∙ ap (λ zs. zs ++ h ∷ []) c.loop-number.invariant ∙ sym (ap (λ b. entries.saved_sources tuning 0 (take i sources) (take i raws) ++ cond b (h ∷ []) []) named) ∙ sym more ∙ next
      | else-is_named w ↦
          let other : entries.is_named tuning (get_or sources i d) ≡ false = same ∙ w.if-is_named.false in
          let kept : c.if-is_named.kept.items ≡ c.loop-number.kept.items = rw w.kept-is refl in
          kept ∙ c.loop-number.invariant ∙ sym (append-nil (entries.saved_sources tuning 0 (take i sources) (take i raws))) ∙ sym (ap (λ b. entries.saved_sources tuning 0 (take i sources) (take i raws) ++ cond b (h ∷ []) []) other) ∙ sym more ∙ next
    ]
