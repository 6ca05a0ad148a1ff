-- Example: the rows, by their times, of an archive that was resized.
use Rattle.std.specs.Prelude.{◌≡◌, pos, negsuc, List, [], ◌∷◌, map}
use Rattle.rrd_spec.specs.Names.{Last}
use Rattle.rrd_spec.specs.History.{Content, Event, Resized}
use Rattle.rrd_spec.specs.History.Lives.{lives}
use Rattle.rrd_spec.specs.History.Cells.{horizon, row_by_time}
use Rattle.rrd_spec.specs.Examples.{created, gauge, archive, at, known, nan}

-- an archive of six rows that shrinks to two and grows to six again
abbrev pub shrunk : List Event
shrunk = at 10 1 ∷ at 20 2 ∷ at 30 3 ∷ at 40 4 ∷ at 50 5 ∷ at 60 6 ∷ Resized 0 2 ∷ Resized 0 6 ∷ []

abbrev pub six_rows : Content
six_rows = created 10 0 (gauge 100) (archive Last 1 6 ∷ [])

-- the horizon is the time after which the two rows ended, and the end of the archive is its last time
abbrev pub Resizing : Type 0
Resizing =
    (map (horizon 10) (lives six_rows shrunk) ≡ pos 40 ∷ [])
    × (map (λ t. map (λ life. row_by_time six_rows life shrunk t) (lives six_rows shrunk))
    (negsuc 9 ∷ pos 0 ∷ pos 30 ∷ pos 40 ∷ pos 50 ∷ pos 60 ∷ pos 70 ∷ [])
    ≡ (nan ∷ []) ∷ (nan ∷ []) ∷ (nan ∷ []) ∷ (nan ∷ [])
    ∷ (known 5000000 ∷ []) ∷ (known 6000000 ∷ []) ∷ (nan ∷ []) ∷ [])
