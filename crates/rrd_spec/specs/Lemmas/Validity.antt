-- Law: the properties of a valid content that proofs use.
use Rattle.std.specs.Prelude.{◌≡◌, ℕ, suc, ◌/◌, List, [], ◌∷◌, length}
use Rattle.rrd_spec.specs.Names.{refl, ap, AllByRecursion, Cell, Raw}
use Rattle.rrd_spec.specs.declared.settings.DsDef.{DsDef}
use Rattle.rrd_spec.specs.Journal.Entries.{IsSound}
use Rattle.rrd_spec.specs.History.{Rra, Content, IsArchive, IsBase}
use Rattle.rrd_spec.specs.Lemmas.Lists.{All-weaker}
use Rattle.rrd_spec.specs.Validity.{AreAccepted, IsRow, IsValid, IsValidArchive}

-- there is one raw value for each data source
pub length-accepted : (sources : List DsDef) (raws : List Raw) → AreAccepted sources raws
    → length raws ≡ length sources
length-accepted [] [] h = refl
length-accepted [] (raw ∷ raws) h = absurd h
length-accepted (source ∷ sources) [] h = absurd h
length-accepted (source ∷ sources) (raw ∷ raws) h = ap suc (length-accepted sources raws h.1)

-- each row has one cell for each data source
pub rows_wide : (sources : ℕ) (rows : List (List Cell)) → AllByRecursion (IsRow sources) rows
    → AllByRecursion (λ (row : List Cell). length row ≡ sources) rows
rows_wide sources rows is =
    All-weaker (IsRow sources) (λ (row : List Cell). length row ≡ sources) rows (λ row of. of.one_each) is

-- each archive has its rows
pub is_archive : {sources steps : ℕ} (archive : Rra) → IsValidArchive sources steps archive → IsArchive archive
is_archive archive is = record { some_steps = is.some_steps; some_rows = is.some_rows; rows_are = is.rows_are }

pub are_archives : (sources steps : ℕ) (archives : List Rra)
    → AllByRecursion (IsValidArchive sources steps) archives → AllByRecursion IsArchive archives
are_archives sources steps [] is = tt
are_archives sources steps (archive ∷ archives) is =
    (is_archive archive is.0, are_archives sources steps archives is.1)

-- a valid content is a base for a history, and sound
pub base_of_valid : (base : Content) → IsValid base → IsBase base
base_of_valid base is = record {
  some_step = is.some_step;
  archives_are = are_archives (length base.sources) (base.last / base.step) base.archives is.archives_are;
}

pub sound : (base : Content) → IsValid base → IsSound base
sound base is =
    record { is_base = base_of_valid base is; one_raw_each = length-accepted base.sources base.raws is.raws_are }
