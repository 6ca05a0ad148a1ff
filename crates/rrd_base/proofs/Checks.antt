-- Checks one after another: what the first of them refuse, and where the later ones decide.
use Rattle.std.proofs.Common.{arith}
use Rattle.std.specs.Prelude.{◌≡◌, List, [], ◌∷◌, ◌++◌, Option, Some, None, Bool, cond}
use Rattle.rrd_base.proofs.Names.{refl, Refusal, Check, first_refusal}

by_case : (b : Bool) (refusal : Refusal) (first second : Option Refusal) (e : Option Refusal) → e ≡ cond b (Some refusal) first → (e ≡ first → e ≡ second) → e ≡ cond b (Some refusal) second
by_case b refusal first second e h k = grind arith

by_pass : (b : Bool) (refusal : Refusal) (first later : Option Refusal) (all : Option Refusal) → None ≡ cond b (Some refusal) first → (None ≡ first → later ≡ all) → later ≡ cond b (Some refusal) all
by_pass b refusal first later all h k = grind arith

-- what refuses the first checks refuses all of them
pub refused : (first later : List Check) (refusal : Refusal) → Some refusal ≡ first_refusal first → Some refusal ≡ first_refusal (first ++ later)
refused [] later refusal h = absurd cc
refused (check ∷ checks) later refusal h = by_case check.wrong check.refusal (first_refusal checks) (first_refusal (checks ++ later)) (Some refusal) h (λ k. refused checks later refusal k)

-- where the first checks pass the later ones decide
pub passed : (first later : List Check) → None ≡ first_refusal first → first_refusal later ≡ first_refusal (first ++ later)
passed [] later h = refl
passed (check ∷ checks) later h = by_pass check.wrong check.refusal (first_refusal checks) (first_refusal later) (first_refusal (checks ++ later)) h (λ k. passed checks later k)
