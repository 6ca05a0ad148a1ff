use Rattle.rrd_file.proofs.Common.{◌≡◌, ◌∙◌, ◌+◌, ◌-◌, ◌<◌, ◌++◌, ◌∷◌, [], List, sym, ap, subst, length, length-append, map, arith, rules, err_from_is_err_and, SavedSource, ATune, OfCount, OfSavedSource, OfTag, Piece, DueInEntry, named_due, Comes, more_map, named_less}
use Rattle.rrd_file.proofs.journal.tune.read_tune.Goals as goal

pub returns-in_err-count-clause-closes : goal.returns-in_err-count-clause-closes
returns-in_err-count-clause-closes g c = λ bytes st.
    let p = err_from_is_err_and c.from_residual.result c.from_residual.ensures.1 in
    rw (p.1, p.2) (c.in_err-count.ensures.brings bytes (OfTag ATune ∷ []) [] st)

pub returns-in_err-old-clause-closes : goal.returns-in_err-old-clause-closes
returns-in_err-old-clause-closes g c = λ bytes st.
    let p = err_from_is_err_and c.from_residual-in_err-old.result c.from_residual-in_err-old.ensures.1 in
    let n = c.in_ok-count.count in
    let i = c.loop.counter in
    let more : i < n = omega arith in
    let due = subst (λ (l : List DueInEntry). Comes bytes c.args.build.now (OfTag ATune ∷ OfCount c.in_ok-count.count ∷ map OfSavedSource c.loop.olds.items) l c.loop.input) (named_less c.loop.lowest n i more) (c.loop.invariant.2 bytes st) in
    rw (p.1, p.2) (c.in_err-old.ensures.brings bytes (OfTag ATune ∷ OfCount c.in_ok-count.count ∷ map OfSavedSource c.loop.olds.items) (n - (i + 1)) due)

pub loop-preserved : goal.loop-preserved
loop-preserved g c =
    let n = c.in_ok-count.count in
    let i = c.loop.counter in
    let more : i < n = omega arith in
    let old = c.in_ok-old.old in
    let items : c.push.new.self.items ≡ c.loop.olds.items ++ old ∷ [] = search rules in (
      omega (arith, ap length items, length-append c.loop.olds.items (old ∷ []), c.loop.invariant.0),
      omega (arith, c.in_ok-old.ensures.few),
      λ bytes st.
          let due = subst (λ (l : List DueInEntry). Comes bytes c.args.build.now (OfTag ATune ∷ OfCount c.in_ok-count.count ∷ map OfSavedSource c.loop.olds.items) l c.loop.input) (named_less c.loop.lowest n i more) (c.loop.invariant.2 bytes st) in
          subst (λ (l : List Piece). Comes bytes c.args.build.now l (named_due (old.number + 1) (n - (i + 1))) c.read_named_source.new.input) (more_map OfSavedSource (OfTag ATune ∷ OfCount n ∷ []) c.loop.olds.items old ∙ ap (λ (l : List SavedSource). OfTag ATune ∷ OfCount n ∷ map OfSavedSource l) (sym items))
          (c.in_ok-old.ensures.brings bytes (OfTag ATune ∷ OfCount c.in_ok-count.count ∷ map OfSavedSource c.loop.olds.items) (n - (i + 1)) due),
    )
