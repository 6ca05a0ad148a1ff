-- Example: worked examples of new databases, and of the refusals of a create.
use Rattle.std.specs.Prelude.{◌≡◌, ℕ, pos, Some, None, List, [], ◌∷◌, replicate}
use Rattle.rrd_spec.specs.Names.{Last}
use Rattle.rrd_spec.specs.declared.requests.create.CreateSpec.{CreateSpec}
use Rattle.rrd_spec.specs.declared.settings.DsDef.{DsDef}
use Rattle.rrd_spec.specs.declared.settings.RraDef.{RraDef}
use Rattle.rrd_spec.specs.declared.refusal.Refusal.TheVariants.{BadStep, NoSource, NoArchive, BadXff, BadRows, BadDepth, TooLarge}
use Rattle.rrd_spec.specs.Commands.Creating.{create_verdict, created as made}
use Rattle.rrd_spec.specs.Examples.{created, gauge, archive}
use Rattle.rrd_spec.specs.History.Steps.{step}

abbrev pub asked : ℕ → List DsDef → List RraDef → CreateSpec
asked step sources archives = record { step = step; start = 0; depth = 16; sources = sources; archives = archives }

-- a database with a journal of this depth
abbrev pub deep : ℕ → CreateSpec
deep depth = record { step = 10; start = 0; depth = depth; sources = gauge 100 ∷ []; archives = archive Last 1 4 ∷ [] }

-- a step of 0; no data source; no archive; a share of 1; an archive of 1,000,001 rows; nine archives of 1,000,000 rows,
-- and eight; 129 archives; a depth of 100,000, and one more; one archive of 1,000,000 rows; the content of a new
-- database
abbrev pub Created : Type 0
Created =
    (create_verdict (asked 0 (gauge 100 ∷ []) (archive Last 1 4 ∷ [])) ≡ Some BadStep)
    × (create_verdict (asked 300 [] []) ≡ Some NoSource)
    × (create_verdict (asked 300 (gauge 100 ∷ []) []) ≡ Some NoArchive)
    × (create_verdict (asked 300 (gauge 100 ∷ [])
    (record { function = Last; xff = pos 1000000; steps = 1; rows = 4 } ∷ []))
    ≡ Some BadXff)
    × (create_verdict (asked 300 (gauge 100 ∷ []) (archive Last 1 4 ∷ archive Last 1 1000001 ∷ [])) ≡ Some BadRows)
    × (create_verdict (asked 300 (gauge 100 ∷ []) (replicate 9 (archive Last 1 1000000))) ≡ Some TooLarge)
    × (create_verdict (asked 300 (gauge 100 ∷ []) (replicate 8 (archive Last 1 1000000))) ≡ None)
    × (create_verdict (asked 300 (gauge 100 ∷ []) (replicate 129 (archive Last 1 1))) ≡ Some TooLarge)
    × (create_verdict (deep 100000) ≡ None)
    × (create_verdict (deep 100001) ≡ Some BadDepth)
    × (create_verdict (asked 300 (gauge 100 ∷ []) (archive Last 1 1000000 ∷ [])) ≡ None)
    × (made (asked 10 (gauge 100 ∷ []) (archive Last 1 4 ∷ [])) ≡ created 10 0 (gauge 100) (archive Last 1 4 ∷ []))
