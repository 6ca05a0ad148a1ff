-- Example: worked histories.
use Rattle.std.specs.Prelude.{◌≡◌, pos, negsuc, [], ◌∷◌, map, drop}
use Rattle.rrd_spec.specs.Names.{Average, Last}
use Rattle.rrd_spec.specs.History.Cells.{row_at}
use Rattle.rrd_spec.specs.History.{Resized}
use Rattle.rrd_spec.specs.Laws.ListedContent.{content_listed}
use Rattle.rrd_spec.specs.Examples.{created, gauge, counter, archive, at, count_at, rows, known, nan}

-- two samples, one for each step
abbrev pub TwoSamples : Type 0
TwoSamples =
    rows (content_listed (created 10 0 (gauge 100) (archive Average 1 4 ∷ []))
    (at 10 1 ∷ at 20 2 ∷ []))
    ≡ (nan ∷ nan ∷ known 1000000 ∷ known 2000000 ∷ []) ∷ []

-- an interval as long as the heartbeat, and one that is a second longer
abbrev pub Heartbeat : Type 0
Heartbeat =
    rows (content_listed (created 100 1000 (gauge 200) (archive Average 1 10 ∷ []))
    (at 1200 5 ∷ at 1401 7 ∷ []))
    ≡ (nan ∷ nan ∷ nan ∷ nan ∷ nan ∷ nan ∷ known 5000000 ∷ known 5000000 ∷ nan ∷ nan ∷ []) ∷ []

-- a step of two samples, and one sample over two steps
abbrev pub Shared : Type 0
Shared =
    rows (content_listed (created 10 0 (gauge 100) (archive Average 1 4 ∷ []))
    (at 5 2 ∷ at 35 4 ∷ []))
    ≡ (nan ∷ known 3000000 ∷ known 4000000 ∷ known 4000000 ∷ []) ∷ []

-- the counter of the manual page, with a long history
abbrev pub Manual : Type 0
Manual =
    map (drop 9)
    (rows (content_listed (created 300 920804400 (counter 600) (archive Average 1 24 ∷ archive Average 6 10 ∷ []))
    (count_at 920804700 12345 ∷ count_at 920805000 12357 ∷ count_at 920805300 12363
    ∷ count_at 920805600 12363 ∷ count_at 920805900 12363
    ∷ count_at 920806200 12373 ∷ count_at 920806500 12383 ∷ count_at 920806800 12393
    ∷ count_at 920807100 12399 ∷ count_at 920807400 12405
    ∷ count_at 920807700 12411 ∷ count_at 920808000 12415 ∷ count_at 920808300 12420
    ∷ count_at 920808600 12422 ∷ count_at 920808900 12423 ∷ [])))
    ≡ (nan ∷ known 40000 ∷ known 20000 ∷ known 0 ∷ known 0 ∷ known 33333 ∷ known 33333 ∷ known 33333
    ∷ known 20000 ∷ known 20000 ∷ known 20000 ∷ known 13333 ∷ known 16667 ∷ known 6667 ∷ known 3333 ∷ [])
    ∷ (known 23333 ∷ []) ∷ []

-- an archive that shrank shows no old row after it grows again
abbrev pub Shrunk : Type 0
Shrunk =
    rows (content_listed (created 10 0 (gauge 100) (archive Last 1 6 ∷ []))
    (at 10 1 ∷ at 20 2 ∷ at 30 3 ∷ at 40 4 ∷ at 50 5 ∷ at 60 6
    ∷ Resized 0 2 ∷ Resized 0 6 ∷ []))
    ≡ (nan ∷ nan ∷ nan ∷ nan ∷ known 5000000 ∷ known 6000000 ∷ []) ∷ []

-- rows by their times
abbrev pub ByTime : Type 0
ByTime =
    map (λ t. map
    (λ a. row_at (content_listed (created 10 0 (gauge 100) (archive Average 1 4 ∷ [])) (at 5 2 ∷ at 35 4 ∷ [])) a t)
    (content_listed (created 10 0 (gauge 100) (archive Average 1 4 ∷ [])) (at 5 2 ∷ at 35 4 ∷ [])).archives)
    (negsuc 9 ∷ pos 0 ∷ pos 10 ∷ pos 30 ∷ pos 40 ∷ [])
    ≡ (nan ∷ []) ∷ (nan ∷ []) ∷ (known 3000000 ∷ []) ∷ (known 4000000 ∷ []) ∷ (nan ∷ []) ∷ []
