use Rattle.rrd_fixed.proofs.Common.{arith, ◌≡◌, ◌≤◌, length, List, ℕ, true, IsAscii, IsUtf8-from_ascii, All-from_ascii, list_all-from_AllPass, lt-ltb, common_steps, fits}
use Rattle.rrd_fixed.proofs.name.Name.fit.Goals as goal

fits_ascii : (bs : List ℕ) → IsAscii bs → length bs ≤ 19 → fits bs ≡ true
fits_ascii bs ascii short = grind (arith, common_steps, list_all-from_AllPass, lt-ltb, All-from_ascii)

pub returns-in_default : goal.returns-in_default
returns-in_default c = absurd (c.in_default.ensures.cases.0 (IsUtf8-from_ascii c.args.bytes.now c.if-not-is_ascii.ensures.cases))

pub returns : goal.returns
returns c = grind (arith, common_steps, fits_ascii)
