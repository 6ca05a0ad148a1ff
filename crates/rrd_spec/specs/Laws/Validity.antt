-- Law: results of valid values are valid.
use Rattle.std.specs.Prelude.{◌≡◌, ℕ, ◌+◌, List, length, None, ◌≤◌}
use Rattle.rrd_spec.specs.Names.{AllByRecursion, Cell, Function, Part, with_each}
use Rattle.rrd_spec.specs.Limits.{present}
use Rattle.rrd_spec.specs.History.{Content, Rra}
use Rattle.rrd_spec.specs.Commands.{DatabaseChange, moved}
use Rattle.rrd_spec.specs.Commands.Verdict.{verdict}
use Rattle.rrd_spec.specs.History.Rows.{row}
use Rattle.rrd_spec.specs.declared.requests.create.CreateSpec.{CreateSpec}
use Rattle.rrd_spec.specs.Validity.{IsValid, AreParts, IsRow, IsValidArchive}
use Rattle.rrd_spec.specs.Commands.Creating.{create_verdict, created}
use Rattle.rrd_spec.specs.Laws.Passing.{archive_passed, passed}

-- a new database that is not refused is valid
abbrev pub CreatedIsValid : CreateSpec → Type 0
CreatedIsValid spec = create_verdict spec ≡ None → IsValid (created spec)

-- an accepted command leaves a valid content valid
abbrev pub StaysValid : Content → DatabaseChange → Type 0
StaysValid base command = IsValid base → verdict base command ≡ None → IsValid (moved base command)

-- seconds leave a valid content valid, and steps leave a valid archive valid
abbrev pub StaysValidFor : Content → List (List Cell) → Type 0
StaysValidFor base seconds =
    IsValid base → AllByRecursion (IsRow (length base.sources)) seconds →
    base.last + length seconds ≤ present.max_time → IsValid (passed base seconds)

abbrev pub ArchiveStaysValid : ℕ → ℕ → List (List Cell) → Rra → Type 0
ArchiveStaysValid sources before steps archive =
    IsValidArchive sources before archive → AllByRecursion (IsRow sources) steps
    → IsValidArchive sources (before + length steps) (archive_passed sources before steps archive)

-- parts with one more cell each are within their bounds
abbrev pub PartsGrow : Function → ℕ → ℕ → List Part → List Cell → Type 0
PartsGrow function sources n parts row =
    AreParts function sources n parts → IsRow sources row
    → AreParts function sources (n + 1) (with_each function parts row)
