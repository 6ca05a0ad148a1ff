-- Glue: the search for the archive that a fetch reads, archive by archive.
use Rattle.std.specs.Prelude.{ℕ, ◌^◌, ◌<◌, ◌≤◌, IfSome, Bool, true, false, if◌then◌else◌, Option, List}
use Rattle.rrd_base.specs.Names.{Candidate, FetchRequest, RraDef, candidates, covers, is_farther, is_nearer, taken, present}

-- the request, and the best archive so far
pub record Searched : Type 0 where
  pub step : ℕ
  pub last : ℕ
  pub request : FetchRequest
  pub best : Option Candidate

abbrev pub searched : ℕ → ℕ → FetchRequest → List RraDef → Searched
searched step last request defs = record {
  step = step;
  last = last;
  request = request;
  best = taken request.asked request.start (candidates step last request.function defs);
}

-- the limits that keep all sums within 64 bits
pub record IsSearch (step last : ℕ) (request : FetchRequest) (best : Option Candidate) : Type 0 where
  pub some_step : 0 < step
  pub small_step : step ≤ present.max_step_seconds
  pub good_last : last ≤ present.max_time
  pub in_order : request.start ≤ request.end
  pub good_end : request.end ≤ present.max_time
  pub usable : IfSome best (λ (one : Candidate). (0 < one.resolution) × (one.resolution ≤ 10 ^ 12))

-- whether an archive is preferred to one with a lower number
abbrev pub is_preferred : ℕ → ℕ → Candidate → Candidate → Bool
is_preferred asked start one other =
    if covers start one then (if covers start other then is_nearer asked one other else true)
    else (if covers start other then false else is_farther asked one other)
