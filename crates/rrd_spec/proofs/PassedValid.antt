-- What seconds leave of a valid content is valid.
use Rattle.std.specs.Prelude.{◌≡◌, ℕ, ◌+◌, ◌/◌, List, [], ◌∷◌, length, map}
use Rattle.rrd_spec.proofs.Names.{common_steps, refl, ap, arith, length-append, AllByRecursion, Cell, Average, ArchiveStaysValid, StaysValidFor, rows_of_archives, finished, Rra, Content, archive_passed, passed, seconds_to_steps, steps_to_rows, AreParts, IsRow, IsValidArchive}
use Rattle.rrd_spec.proofs.Bounded.{rows_keep, steps_keep}
use Rattle.rrd_spec.proofs.GroupLemmas.{length-finished, reached_before}
use Rattle.rrd_spec.proofs.Kept.{kept}

pub archive_stays_valid : (sources before : ℕ) (steps : List (List Cell)) (archive : Rra) → ArchiveStaysValid sources before steps archive
unfolding archive_passed
archive_stays_valid sources before steps archive is rows =
    let def = archive.def in
    let rule = steps_to_rows def sources in
    let keeps = kept rule (IsRow sources) (AreParts def.function sources) (IsRow sources) (rows_keep def sources is.some_steps is.xff_low is.xff_high) before archive.parts steps is.parts_are rows in
    grind (arith, common_steps, length-append)

archives_stay_valid : (sources before after : ℕ) (steps : List (List Cell)) (archives : List Rra) → AllByRecursion (IsValidArchive sources before) archives → AllByRecursion (IsRow sources) steps → before + length steps ≡ after → AllByRecursion (IsValidArchive sources after) (map (archive_passed sources before steps) archives)
archives_stay_valid sources before after steps [] is rows e = tt
archives_stay_valid sources before after steps (archive ∷ archives) is rows e = grind (arith, archive_stays_valid, archives_stay_valid sources before after steps archives is.1 rows e)

same_rows : (sources before : ℕ) (steps : List (List Cell)) (archives : List Rra) → rows_of_archives (map (archive_passed sources before steps) archives) ≡ rows_of_archives archives
unfolding archive_passed
same_rows sources before steps [] = refl
same_rows sources before steps (archive ∷ archives) = ap (λ rest. archive.def.rows ∷ rest) (same_rows sources before steps archives)

pub stays_valid_for : (base : Content) (seconds : List (List Cell)) → StaysValidFor base seconds
unfolding passed
stays_valid_for base seconds is rows in_time =
    let n = length base.sources in
    let rule = seconds_to_steps base.step n in
    let keeps = kept rule (IsRow n) (AreParts Average n) (IsRow n) (steps_keep base.step n is.some_step) base.last base.parts seconds is.parts_are rows in
    let steps = finished rule base.last base.parts seconds in
    let before = base.last / base.step in
    let after : before + length steps ≡ (base.last + length seconds) / base.step = omega (arith, length-finished rule base.last base.parts seconds, reached_before base.last (length seconds) base.step is.some_step) in
    grind (arith, common_steps, same_rows, archives_stay_valid)
