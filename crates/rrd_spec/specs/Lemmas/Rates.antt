-- Law: the rates of many data sources, one after another.
use Rattle.std.specs.Prelude.{◌≡◌, ℕ, zero, suc, ◌<◌, List, [], ◌∷◌, ◌++◌, length, take, drop}
use Rattle.rrd_spec.specs.Names.{ap, get_or, set, le_of_suc-le-suc, not-suc-le-zero, Cell, Raw, IsAccepted, rate}
use Rattle.rrd_spec.specs.declared.settings.DsDef.{DsDef}
use Rattle.rrd_spec.specs.History.{rates}
use Rattle.rrd_spec.specs.Validity.{AreAccepted}
use Rattle.rrd_spec.specs.Settings.{cells}

-- a raw value that its data source accepts
pub accepted_at : (sources : List DsDef) (raws : List Raw) (i : ℕ) (d : DsDef) (r : Raw) → AreAccepted sources raws
    → i < length sources → i < length raws → IsAccepted (get_or sources i d).kind (get_or raws i r)
accepted_at [] raws i d r is h k = absurd (not-suc-le-zero h)
accepted_at (source ∷ sources) [] i d r is h k = absurd (not-suc-le-zero k)
accepted_at (source ∷ sources) (raw ∷ raws) zero d r is h k = is.0
accepted_at (source ∷ sources) (raw ∷ raws) (suc i) d r is h k =
    accepted_at sources raws i d r is.1 (le_of_suc-le-suc h) (le_of_suc-le-suc k)

-- the rate of one data source
abbrev pub rate_of : ℕ → DsDef → Raw → Raw → Cell
rate_of interval source old new = rate source.kind old new interval source.heartbeat source.min source.max

-- one more rate
pub rates_more : (sources : List DsDef) (interval : ℕ) (olds news : List Raw) (cells : List Cell)
    (i : ℕ) (d : DsDef) (r s : Raw) (cell : Cell)
    → i < length sources → i < length olds → i < length news → i < length cells
    → cell ≡ rate_of interval (get_or sources i d) (get_or olds i r) (get_or news i s)
    → set (rates (take i sources) interval (take i olds) (take i news) ++ drop i cells) i cell
    ≡ rates (take (suc i) sources) interval (take (suc i) olds) (take (suc i) news) ++ drop (suc i) cells
rates_more [] interval olds news cells i d r s cell a b k m e = absurd (not-suc-le-zero a)
rates_more (source ∷ sources) interval [] news cells i d r s cell a b k m e = absurd (not-suc-le-zero b)
rates_more (source ∷ sources) interval (old ∷ olds) [] cells i d r s cell a b k m e = absurd (not-suc-le-zero k)
rates_more (source ∷ sources) interval (old ∷ olds) (new ∷ news) [] i d r s cell a b k m e = absurd (not-suc-le-zero m)
rates_more (source ∷ sources) interval (old ∷ olds) (new ∷ news) (y ∷ cells) zero d r s cell a b k m e =
    ap (λ z. z ∷ cells) e
rates_more (source ∷ sources) interval (old ∷ olds) (new ∷ news) (y ∷ cells) (suc i) d r s cell a b k m e =
    let rest = rates_more sources interval olds news cells i d r s cell
    (le_of_suc-le-suc a) (le_of_suc-le-suc b) (le_of_suc-le-suc k) (le_of_suc-le-suc m) e in
    ap (λ zs. rate_of interval source old new ∷ zs) rest
