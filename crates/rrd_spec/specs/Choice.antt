-- Definition: which archive a fetch reads, and which rows of it (rrdfetch; the order of the archives is this project's
-- rule).
use Rattle.std.specs.Prelude.{ℕ, ◌+◌, ◌-◌, ◌*◌, ◌/◌, pos, int_lt, int_le, nat_lt, Bool, true, false, not, ◌&&◌, ◌||◌, if◌then◌else◌, Option, Some, None, Result, Ok, Err, List, [], ◌∷◌, map}
use Rattle.rrd_spec.specs.Names.{abs_diff, find, filter, list_any, enumerate_from, option_or, Function, Average, Min, Max, Last}
use Rattle.rrd_spec.specs.declared.settings.RraDef.{RraDef}
use Rattle.rrd_spec.specs.declared.requests.fetch.Candidate.{Candidate}
use Rattle.rrd_spec.specs.declared.requests.fetch.Chosen.{Chosen}
use Rattle.rrd_spec.specs.declared.requests.fetch.FetchRequest.{FetchRequest}
use Rattle.rrd_spec.specs.declared.refusal.Refusal.{Refusal}
use Rattle.rrd_spec.specs.declared.refusal.Refusal.TheVariants.{BadTime, BadSpan, NoArchiveForFunction, SpanTooLong}
use Rattle.rrd_spec.specs.Limits.{Limits, present}
use Rattle.rrd_spec.specs.History.{Content, definitions}
use Rattle.rrd_spec.specs.Settings.{resolution}
use Rattle.rrd_spec.specs.History.Cells.{reach}
use Rattle.rrd_spec.specs.Commands.Verdict.{Check, ◌refuses◌, first_refusal}
use Rattle.rrd_spec.specs.History.Steps.{step}

-- ---- the archives that a fetch may read

abbrev pub same_function : Function → Function → Bool
same_function Average Average = true
same_function Min Min = true
same_function Max Max = true
same_function Last Last = true
same_function _ _ = false

-- an archive with its number, its resolution, and the time after which all its rows end
abbrev pub candidate : ℕ → ℕ → ℕ × RraDef → Candidate
candidate step last (number, def) =
    record { archive = number; resolution = resolution step def; reach = reach (resolution step def) def.rows last }

-- the archives with this consolidation function, in the order of their numbers
abbrev pub candidates : ℕ → ℕ → Function → List RraDef → List Candidate
candidates step last function defs =
    map (candidate step last)
    (filter (λ ((number, def) : ℕ × RraDef). same_function def.function function) (enumerate_from 0 defs))

-- ---- the archive that a fetch reads

-- the first item such that no other item is better
abbrev pub best : {A : Type 0} → (A → A → Bool) → List A → Option A
best is_better items = find (λ one. not (list_any (λ other. is_better other one) items)) items

-- the archive has all rows from the start on
abbrev pub covers : ℕ → Candidate → Bool
covers start one = int_le one.reach (pos start)

-- the resolution is nearer to the requested one
abbrev pub is_nearer : ℕ → Candidate → Candidate → Bool
is_nearer asked one other = nat_lt (abs_diff one.resolution asked) (abs_diff other.resolution asked)

-- the archive reaches back farther; or as far, with a nearer resolution
abbrev pub is_farther : ℕ → Candidate → Candidate → Bool
is_farther asked one other =
    int_lt one.reach other.reach || (int_le one.reach other.reach && is_nearer asked one other)

-- of the archives that cover the start, the archive with the nearest resolution; if no archive covers the start, the
-- archive that reaches back farthest. Of equal archives, the archive with the lowest number
abbrev pub taken : ℕ → ℕ → List Candidate → Option Candidate
taken asked start list = option_or (best (is_nearer asked) (filter (covers start) list)) (best (is_farther asked) list)

-- ---- the rows that a fetch reads

-- the checks of a fetch that do not depend on the database
abbrev pub span_checks : Limits → FetchRequest → List Check
span_checks limits request =
    ◌refuses◌ (nat_lt limits.max_time request.start) BadTime
    ∷ ◌refuses◌ (nat_lt limits.max_time request.end) BadTime
    ∷ ◌refuses◌ (nat_lt request.end request.start) BadSpan
    ∷ []

-- the rows at the multiples of the resolution after `lo`, up to `hi`: `lo` is the start rounded down, and `hi` is the
-- first multiple after the end
abbrev pub span : FetchRequest → Candidate → Chosen
span request one = record {
  archive = one.archive;
  res = one.resolution;
  lo = request.start / one.resolution * one.resolution;
  hi = (request.end / one.resolution + 1) * one.resolution;
}

-- the number of these rows
abbrev pub span_rows : Chosen → ℕ
span_rows chosen = (chosen.hi - chosen.lo) / chosen.res

abbrev pub span_of : Limits → FetchRequest → Option Candidate → Result Chosen Refusal
span_of limits request None = Err NoArchiveForFunction
span_of limits request (Some one) =
    if nat_lt limits.max_span (span_rows (span request one)) then Err SpanTooLong else Ok (span request one)

abbrev pub unless_refused : Option Refusal → Result Chosen Refusal → Result Chosen Refusal
unless_refused None answer = answer
unless_refused (Some refusal) answer = Err refusal

abbrev pub choice_of : Limits → ℕ → ℕ → List RraDef → FetchRequest → Result Chosen Refusal
choice_of limits step last defs request =
    unless_refused (first_refusal (span_checks limits request))
    (span_of limits request (taken request.asked request.start (candidates step last request.function defs)))

-- the rows that a fetch reads, or its refusal
unfoldable pub choice_within : Limits → Content → Function → ℕ → ℕ → ℕ → Result Chosen Refusal
choice_within limits content function asked start end =
    choice_of limits content.step content.last (definitions content.archives)
    (record { function = function; asked = asked; start = start; end = end })

abbrev pub choice : Content → Function → ℕ → ℕ → ℕ → Result Chosen Refusal
choice = choice_within present
