-- Definition: the result of a call, by the verdict.
use Rattle.std.specs.Prelude.{◌≡◌, ◌⊎◌, Option, Some, None, Result, Ok, Err}
use Rattle.rrd_spec.specs.declared.refusal.Refusal.{Refusal}
use Rattle.rrd_spec.specs.declared.refusal.Refusal.TheVariants.{OutOfMemory}

-- if no check fails, the call is accepted, unless memory runs out; otherwise the result is the refusal of the first
-- check that fails
abbrev pub IsAnswer : {T : Type 0} → Option Refusal → Result T Refusal → Type 0
IsAnswer verdict (Ok x) = verdict ≡ None
IsAnswer verdict (Err refusal) = (verdict ≡ Some refusal) ⊎ ((refusal ≡ OutOfMemory) × (verdict ≡ None))
