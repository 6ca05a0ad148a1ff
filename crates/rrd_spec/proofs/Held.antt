-- What a history leaves of a valid content.
use Rattle.std.specs.Prelude.{ℕ, ◌+◌, ◌-◌, ◌*◌, ◌/◌, ◌%◌, ◌<◌, ◌≤◌, List, [], ◌∷◌, ◌++◌, length, map, replicate}
use Rattle.rrd_spec.proofs.Names.{arith, length-replicate, fold, enumerate_from, AllByRecursion, Cell, IsBounded, Average, Rra, Content, Event, moment_of, moment_at_end, seconds_of, rows_after, IsHistory, steps_of, parts_of, seconds_to_steps, rows_of, row_parts_of, steps_to_rows, rows_never_lost, keep_last, kept_rows, archive_of, AreParts, IsRow, IsValidArchive, IsValid, is_archive, All-append, All-drop, All-replicate}
use Rattle.rrd_spec.proofs.HistoryLemmas.{length-seconds_of, length-steps_of}
use Rattle.rrd_spec.proofs.ContentLemmas.{length-kept_rows}
use Rattle.rrd_spec.proofs.Kept.{Kept, kept}
use Rattle.rrd_spec.proofs.Bounded.{steps_keep, rows_keep}

steps_kept : (base : Content) (es : List Event) → IsValid base → AllByRecursion (IsRow (length base.sources)) (seconds_of base es) → Kept (seconds_to_steps base.step (length base.sources)) (AreParts Average (length base.sources)) (IsRow (length base.sources)) base.last base.parts (seconds_of base es)
steps_kept base es is rows =
    let n = length base.sources in
    kept (seconds_to_steps base.step n) (IsRow n) (AreParts Average n) (IsRow n) (steps_keep base.step n is.some_step) base.last base.parts (seconds_of base es) is.parts_are rows

pub parts_valid : (base : Content) (es : List Event) → IsValid base → IsHistory (moment_of base) es → AllByRecursion (IsRow (length base.sources)) (seconds_of base es) → AreParts Average (length base.sources) ((moment_at_end base es).last % base.step) (parts_of base es)
unfolding parts_of
parts_valid base es is h rows = grind (arith, length-seconds_of, steps_kept)

steps_valid : (base : Content) (es : List Event) → IsValid base → AllByRecursion (IsRow (length base.sources)) (seconds_of base es) → AllByRecursion (IsRow (length base.sources)) (steps_of base es)
unfolding steps_of
steps_valid base es is rows = (steps_kept base es is rows).given_are

rows_kept : (base : Content) (es : List Event) (archive : Rra) → IsValid base → IsValidArchive (length base.sources) (base.last / base.step) archive → AllByRecursion (IsRow (length base.sources)) (seconds_of base es) → Kept (steps_to_rows archive.def (length base.sources)) (AreParts archive.def.function (length base.sources)) (IsRow (length base.sources)) (base.last / base.step) archive.parts (steps_of base es)
rows_kept base es archive is of rows =
    let n = length base.sources in
    kept (steps_to_rows archive.def n) (IsRow n) (AreParts archive.def.function n) (IsRow n) (rows_keep archive.def n of.some_steps of.xff_low of.xff_high) (base.last / base.step) archive.parts (steps_of base es) of.parts_are (steps_valid base es is rows)

row_parts_valid : (base : Content) (es : List Event) (archive : Rra) → IsValid base → IsHistory (moment_of base) es → IsValidArchive (length base.sources) (base.last / base.step) archive → AllByRecursion (IsRow (length base.sources)) (seconds_of base es) → AreParts archive.def.function (length base.sources) ((moment_at_end base es).last / base.step % archive.def.steps) (row_parts_of base archive es)
unfolding row_parts_of
row_parts_valid base es archive is h of rows = grind (arith, length-steps_of, rows_kept)

rows_valid : (base : Content) (es : List Event) (index : ℕ) (archive : Rra) → IsValid base → IsValidArchive (length base.sources) (base.last / base.step) archive → AllByRecursion (IsRow (length base.sources)) (seconds_of base es) → AllByRecursion (IsRow (length base.sources)) (kept_rows base index archive es)
unfolding kept_rows rows_of
rows_valid base es index archive is of rows =
    let n = length base.sources in
    let nan = replicate n Cell.Unknown in
    let res = base.step * archive.def.steps in
    let since = λ (time : ℕ). (moment_at_end base es).last / res - time / res in
    let all = archive.rows ++ rows_of base archive es in
    let left = rows_never_lost index since archive.def.rows (moment_of base) es in
    let unknown : IsRow n nan = record { one_each = length-replicate n Cell.Unknown; each = All-replicate IsBounded n Cell.Unknown tt } in
    All-append (IsRow n) (replicate (fold (rows_after index) archive.def.rows es - length (keep_last left all)) nan) (keep_last left all)
    (All-replicate (IsRow n) (fold (rows_after index) archive.def.rows es - length (keep_last left all)) nan unknown)
    (All-drop (IsRow n) (length all - left) all (All-append (IsRow n) archive.rows (rows_of base archive es) of.each_row (rows_kept base es archive is of rows).given_are))

-- the numbers of rows that the events leave are good ones
abbrev pub LeavesGoodRows : List Event → Type 0
LeavesGoodRows es = (index rows : ℕ) → 0 < rows → rows ≤ 1000000 → (0 < fold (rows_after index) rows es) × (fold (rows_after index) rows es ≤ 1000000)

archive_valid : (base : Content) (es : List Event) (index : ℕ) (archive : Rra) → IsValid base → IsHistory (moment_of base) es → LeavesGoodRows es → AllByRecursion (IsRow (length base.sources)) (seconds_of base es) → IsValidArchive (length base.sources) (base.last / base.step) archive → IsValidArchive (length base.sources) ((moment_at_end base es).last / base.step) (archive_of base es (index, archive))
archive_valid base es index archive is h good rows of = grind (arith, row_parts_valid base es archive is h of rows, length-kept_rows base index archive es is.some_step (is_archive archive of) h, rows_valid base es index archive is of rows)

pub archives_valid : (base : Content) (es : List Event) (index : ℕ) (archives : List Rra) → IsValid base → IsHistory (moment_of base) es → LeavesGoodRows es → AllByRecursion (IsRow (length base.sources)) (seconds_of base es) → AllByRecursion (IsValidArchive (length base.sources) (base.last / base.step)) archives → AllByRecursion (IsValidArchive (length base.sources) ((moment_at_end base es).last / base.step)) (map (archive_of base es) (enumerate_from index archives))
archives_valid base es index [] is h good rows of = tt
archives_valid base es index (archive ∷ archives) is h good rows of = (archive_valid base es index archive is h good rows of.0, archives_valid base es (index + 1) archives is h good rows of.1)
