-- A step, for the archive of many sources.
use Rattle.std.specs.Prelude.{◌≡◌, ℕ, zero, suc, ◌+◌, ◌<◌, ◌≤◌, ℤ, List, [], ◌∷◌, length, map, replicate}
use Rattle.rrd_base.proofs.Names.{refl, sym, ◌∙◌, ap, subst, arith, length-replicate, AllByRecursion, fold, Cell, Function, Part, nothing, with_each, row_cell, Consolidating, width, RraDef, ArchiveStaysValid, Rra, archive_passed, IsRow, IsValidArchive, map_each, with_steps, anew, row_of, parts_in, AllOf, All-replicate, parts_in-with_steps, parts_in-anew}

-- an archive of these preparations
abbrev pub shown : RraDef → List Consolidating → List (List Cell) → Rra
shown def preps rows = record { def = def; parts = parts_in preps; rows = rows }

-- the cells of a row, off the preparations and off their parts
pub row_of_parts : (function : Function) (xff : ℤ) (steps : ℕ) (preps : List Consolidating) → AllOf function preps → map (row_of xff steps) preps ≡ map (row_cell function xff steps) (parts_in preps)
row_of_parts function xff steps [] of = refl
row_of_parts function xff steps (prep ∷ preps) of = grind (arith, row_of_parts function xff steps preps of.1)

-- steps that leave the row unfinished
pub goes_on : (def : RraDef) (preps : List Consolidating) (rows : List (List Cell)) (step : List Cell) (count : ℕ) → AllOf def.function preps → shown def (map_each (with_steps count) preps step) rows ≡ record (shown def preps rows) { parts = fold (with_each def.function) (parts_in preps) (replicate count step) }
goes_on def preps rows step count of = ap (λ ps. let a : Rra = record { def = def; parts = ps; rows = rows } in a) (parts_in-with_steps def.function count preps step of)

-- the next row's, once the row is closed
pub closes : (def : RraDef) (sources : ℕ) (preps : List Consolidating) (rows : List (List Cell)) → length preps ≡ sources → shown def (map anew preps) rows ≡ record (shown def preps rows) { parts = replicate sources nothing }
closes def sources preps rows as_many =
    ap (λ ps. let a : Rra = record { def = def; parts = ps; rows = rows } in a) (parts_in-anew preps ∙ ap (λ n. replicate n nothing) as_many)

-- ---- what fits

-- known steps of preparations, and of their parts
pub preps_fit : (count most limit : ℕ) (preps : List Consolidating) → most ≤ limit → AllByRecursion (λ (part : Part). part.known + count ≤ most) (parts_in preps) → AllByRecursion (λ (prep : Consolidating). prep.part.known + count ≤ limit) preps
preps_fit count most limit [] h is = tt
preps_fit count most limit (prep ∷ preps) h is = (omega (arith, is.0), preps_fit count most limit preps h is.1)

pub parts_fit : (limit : ℕ) (preps : List Consolidating) → AllByRecursion (λ (part : Part). part.known ≤ limit) (parts_in preps) → AllByRecursion (λ (prep : Consolidating). prep.part.known ≤ limit) preps
parts_fit limit [] is = tt
parts_fit limit (prep ∷ preps) is = (is.0, parts_fit limit preps is.1)

pub width_is : (sources : ℕ) (rows : List (List Cell)) → 0 < length rows → AllByRecursion (IsRow sources) rows → width rows ≡ sources
width_is sources rows some is = grind arith

-- ---- what is valid stays valid

-- after a step and many of another, by the law of steps
pub taken_valid : (archive_stays : (sources before : ℕ) (steps : List (List Cell)) (archive : Rra) → ArchiveStaysValid sources before steps archive) (first then : List Cell) (before count : ℕ) (archive new : Rra) → IsValidArchive (length first) before archive → IsRow (length first) first → IsRow (length first) then → new ≡ archive_passed (length first) before (first ∷ replicate count then) archive → IsValidArchive (length first) (before + (1 + count)) new
taken_valid archive_stays first then before count archive new is one many e =
    let n = length first in
    let steps = first ∷ replicate count then in
    subst (IsValidArchive n (before + (1 + count))) (sym e)
    (subst (λ (k : ℕ). IsValidArchive n k (archive_passed n before steps archive)) {x = before + length steps} {y = before + (1 + count)} (omega (arith, length-replicate count then))
    (archive_stays n before steps archive is (one, All-replicate (IsRow n) count then many)))

-- ---- new preparations

pub parts_in-new : (function : Function) (n : ℕ) → parts_in (replicate n (record { function = function; part = nothing })) ≡ replicate n nothing
parts_in-new function zero = refl
parts_in-new function (suc n) = ap (λ parts. nothing ∷ parts) (parts_in-new function n)
