use Rattle.rrd_base.proofs.Common.{◌≡◌, sym, ◌∙◌, ap, ℕ, suc, ◌+◌, ◌-◌, ◌<◌, ◌||◌, Bool, true, false, List, [], ◌∷◌, map, length, take, drop, get_or, refl, drop-cons, length-drop, take_all, arith, list_any, Name, same_name, is_double}
use Rattle.rrd_base.proofs.named.has_double_name.Goals as goal

any_called : {A : Type 0} (called : A → Name) (name : Name) (named : List A) → list_any (same_name name) (map called named) ≡ list_any (λ other. same_name name (called other)) named
any_called called name [] = refl
any_called called name (one ∷ others) = ap (λ b. same_name name (called one) || b) (any_called called name others)

-- one name is looked for among those after it
double_at : {A : Type 0} (called : A → Name) (named : List A) (i : ℕ) (d : A) (name : Name) (found : Bool) → i < length named → name ≡ called (get_or named i d) → list_any (λ other. same_name name (called other)) (take (length named - (i + 1)) (drop (i + 1) named)) ≡ found → is_double (map called (drop i named)) ≡ (found || is_double (map called (drop (i + 1) named)))
double_at {A = A} called named i d name found h is e =
    let one = get_or named i d in
    let rest = drop (i + 1) named in
    let one_more : drop i named ≡ one ∷ rest = drop-cons named i d h ∙ ap (λ n. one ∷ drop n named) {x = suc i} {y = i + 1} (omega arith) in
    let whole : rest ≡ take (length named - (i + 1)) rest = sym (take_all (length named - (i + 1)) rest (omega (arith, length-drop (i + 1) named))) in
    cc (one_more, is, any_called called name rest ∙ ap (list_any (λ other. same_name name (called other))) whole ∙ e)

pub returns-then-is_among : goal.returns-then-is_among
returns-then-is_among g c = let called = g.T.Named.called in sym (double_at called c.args.named.now c.loop-index.index c.index-named-index.result c.name.result.now true c.loop-index-test.true (c.name.ensures ∙ ap called c.index-named-index.is) (sym c.is_among.ensures ∙ c.if-is_among.true)) ∙ c.loop-index.invariant

pub loop-index-preserved : goal.loop-index-preserved
loop-index-preserved g c = let called = g.T.Named.called in sym (double_at called c.args.named.now c.loop-index.index c.index-named-index.result c.name.result.now false c.loop-index-test.true (c.name.ensures ∙ ap called c.index-named-index.is) (sym c.is_among.ensures ∙ c.if-is_among.false)) ∙ c.loop-index.invariant
