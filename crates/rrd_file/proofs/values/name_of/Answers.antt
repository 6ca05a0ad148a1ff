use Rattle.rrd_file.proofs.Common.{◌≡◌, ◌∙◌, sym, refl, arith, ℕ, ◌==◌, false, true, list_all, fit_some, name_back, zeros_said}
use Rattle.rrd_file.proofs.values.name_of.Goals as goal

pub returns-then-not-all_zero-clause-none : goal.returns-then-not-all_zero-clause-none
returns-then-not-all_zero-clause-none c = λ r name f e.
    let said : list_all (λ (byte : ℕ). byte == 0) c.split_at-2.result.1.now ≡ true = zeros_said c.args.bytes.now c.split_at.result.0.now c.split_at.result.1.now c.split_at-2.result.1.now _ name e c.split_at.ensures.front c.split_at.ensures.back refl c.split_at-2.ensures.back in
    let bad : false ≡ true = sym c.if-not-all_zero.true ∙ c.all_zero.ensures ∙ said in
    absurd cc

pub returns-clause-some : goal.returns-clause-some
returns-clause-some c =
    fit_some c.split_at-2.result.0.now c.args.bytes.now c.fit.result c.fit.ensures
    (name_back c.args.bytes.now c.split_at.result.0.now c.split_at.result.1.now c.split_at-2.result.0.now c.split_at-2.result.1.now _ c.requires c.split_at.ensures.front c.split_at.ensures.back refl (omega (arith, c.if-size-ge-NAME_SIZE.false)) c.split_at-2.ensures.front c.split_at-2.ensures.back (sym c.all_zero.ensures ∙ c.if-not-all_zero.false))
