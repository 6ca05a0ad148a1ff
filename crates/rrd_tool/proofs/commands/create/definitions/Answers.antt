use Rattle.rrd_tool.proofs.Common.{◌≡◌, ◌∙◌, ◌+◌, ◌<◌, subst, ◌++◌, ◌∷◌, [], map, get_or, length, ap, sym, true, Ok, Err, arith, is_ok, append-nil, get_or-map, length-map, err_from_is_err_and, Meets, or_fault, read_fails, read_more}
use Rattle.rrd_tool.proofs.commands.create.definitions.Goals.{in-Source, in-Archive}
use Rattle.rrd_tool.specs.declared.commands.create.Definition.TheVariants as Definition
use Rattle.rrd_tool.specs.declared.faults.Part.TheVariants as part
use Rattle.rrd_tool.proofs.commands.create.definitions.Goals as goal

pub returns-in_err-definition : goal.returns-in_err-definition
returns-in_err-definition c =
    let p = err_from_is_err_and c.from_residual.result c.from_residual.ensures.1 in
    let ws = map (λ w. w.now) c.args.words.now in
    let inside : c.loop-index.index < length c.args.words.now = omega arith in
    let here : c.loop-index.index < length ws = simp length-map (omega arith) in
    let w = (get_or c.args.words.now c.loop-index.index (record { ref_ptr = (0, 0); now = [] })).now in
    let word : get_or ws c.loop-index.index [] ≡ w = get_or-map _ c.args.words.now c.loop-index.index _ [] inside in
    read_fails ws c.loop-index.index w c.loop-index.sources c.loop-index.archives c.from_residual.result c.in_err-definition.field-0.0
    c.loop-index.invariant here word (p.1 ∙ ap (λ e. Err e) p.2)
    (subst (λ o. Meets (or_fault part.Definition (c.loop-index.index + 1) o) (Err c.in_err-definition.field-0.0)) c.read.ensures c.in_err-definition.ensures)

pub loop-index-preserved : goal.loop-index-preserved
loop-index-preserved c =
    let ws = map (λ w. w.now) c.args.words.now in
    let inside : c.loop-index.index < length c.args.words.now = omega arith in
    let here : c.loop-index.index < length ws = simp length-map (omega arith) in
    let w = (get_or c.args.words.now c.loop-index.index (record { ref_ptr = (0, 0); now = [] })).now in
    let word : get_or ws c.loop-index.index [] ≡ w = get_or-map _ c.args.words.now c.loop-index.index _ [] inside in
    elim c.match-definition.branch [
      | in-Source b ↦
          let good : is_ok b.push-added.result ≡ true = ap is_ok (sym b.added-is ∙ c.in_ok-added.was) in
          let pushed : b.push-added.new.self ≡ c.loop-index.sources ++ b.in-Source.source ∷ [] = rw good at b.push-added.ensures in
          read_more ws c.loop-index.index w (Definition.Source b.in-Source.source) _ _ _ _ c.loop-index.invariant here word
          (ap (or_fault part.Definition (c.loop-index.index + 1)) (sym c.read.ensures) ∙ c.in_ok-definition.ensures ∙ ap (λ d. Ok d) b.in-Source.is) (b.sources-is ∙ pushed) (b.archives-is ∙ sym (append-nil _))
      | in-Archive b ↦
          let good : is_ok b.push-added-in-Archive.result ≡ true = ap is_ok (sym b.added-is ∙ c.in_ok-added.was) in
          let pushed : b.push-added-in-Archive.new.self ≡ c.loop-index.archives ++ b.in-Archive.archive ∷ [] = rw good at b.push-added-in-Archive.ensures in
          read_more ws c.loop-index.index w (Definition.Archive b.in-Archive.archive) _ _ _ _ c.loop-index.invariant here word
          (ap (or_fault part.Definition (c.loop-index.index + 1)) (sym c.read.ensures) ∙ c.in_ok-definition.ensures ∙ ap (λ d. Ok d) b.in-Archive.is) (b.sources-is ∙ sym (append-nil _)) (b.archives-is ∙ pushed)
    ]
