-- Law: the content after seconds have passed: steps and rows, one after another.
use Rattle.std.specs.Prelude.{◌≡◌, ◌++◌, ℕ, ◌+◌, ◌-◌, ◌/◌, List, length, map, [], ◌∷◌, ◌<◌, replicate, ◌*◌}
use Rattle.rrd_spec.specs.Names.{fold, Cell, Average, with_each}
use Rattle.rrd_spec.specs.History.{Content, Rra, IsBase, Reading, Sampled, rates}
use Rattle.rrd_spec.specs.History.Steps.{seconds_to_steps}
use Rattle.rrd_spec.specs.History.Rows.{steps_to_rows}
use Rattle.rrd_spec.specs.Laws.ListedContent.{content_listed, keep_last}
use Rattle.rrd_spec.specs.History.Groups.{finished, unfinished}

-- an archive after these steps, if `before` steps ended earlier
unfoldable pub archive_passed : ℕ → ℕ → List (List Cell) → Rra → Rra
archive_passed sources before steps archive = record archive {
  parts = unfinished (steps_to_rows archive.def sources) before archive.parts steps;
  rows =
      keep_last (length archive.rows) (archive.rows
      ++ finished (steps_to_rows archive.def sources) before archive.parts steps);
}

-- a content after these seconds
unfoldable pub passed : Content → List (List Cell) → Content
passed base seconds =
    let rule = seconds_to_steps base.step (length base.sources) in
    record base {
      last = base.last + length seconds;
      parts = unfinished rule base.last base.parts seconds;
      archives =
          map (archive_passed (length base.sources) (base.last / base.step)
          (finished rule base.last base.parts seconds)) base.archives;
    }

-- seconds that pass in two parts
abbrev pub PassesInPieces : Content → List (List Cell) → List (List Cell) → Type 0
PassesInPieces base xs ys = IsBase base → passed base (xs ++ ys) ≡ passed (passed base xs) ys

-- seconds that do not finish their step change only its parts and the last time
abbrev pub PassesWithin : Content → List (List Cell) → Type 0
PassesWithin base seconds =
    let last = base.last + length seconds in
    IsBase base → last < (base.last / base.step + 1) * base.step → passed base seconds
    ≡ record base { last = last; parts = fold (with_each Average) base.parts seconds }

-- a sample has the effect of its rates in each second of its interval
abbrev pub SampledPasses : Content → Reading → Type 0
SampledPasses base sample =
    IsBase base → base.last < sample.time
    → content_listed base (Sampled sample ∷ [])
    ≡ record (passed base
    (replicate (sample.time - base.last)
    (rates base.sources (sample.time - base.last) base.raws sample.raws))) { raws = sample.raws }
