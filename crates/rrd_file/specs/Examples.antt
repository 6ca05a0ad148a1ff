-- Example: two files, byte by byte: a new database of one gauge and one archive of four rows, and the same database
-- after a sample of 1 at 10.
use Rattle.std.specs.Prelude.{◌≡◌, ℕ, Bool, pos, None, List, [], ◌∷◌, ◌++◌, length, replicate}
use Rattle.rrd_file.specs.Names.{Gauge, Last, DsDef, Given, Update, Updating, Stored, changed, created, archive, Version, One, Two}
use Rattle.rrd_file.specs.Layout.{layout, layout_in}

-- ---- the databases

-- the gauge g
abbrev gauge : DsDef
gauge = record { name = 103 ∷ []; kind = Gauge; heartbeat = 100; min = None; max = None }

-- steps of 10 seconds from 0 on; four rows of one step each; depth 16
abbrev pub new_database : Stored
new_database = record { content = created 10 0 gauge (archive Last 1 4 ∷ []); journal = [] }

abbrev one : Given
one = Given.Number (record { millionths = pos 1000000; point = Bool.false })

abbrev pub one_sample : Update
one_sample = record { template = None; samples = record { time = 10; values = one ∷ [] } ∷ [] }

-- ---- runs of bytes

-- n zeros
abbrev zeros : ℕ → List ℕ
zeros n = replicate n 0

-- the byte 80 and fifteen bytes 00
abbrev absent : List ℕ
absent = 128 ∷ zeros 15

-- 1 in millionths: 0f 42 40
abbrev million : List ℕ
million = zeros 13 ++ 15 ∷ 66 ∷ 64 ∷ []

-- an empty partial step or row: no known cell, and the value 0
abbrev nothing : List ℕ
nothing = zeros 4 ++ zeros 16

-- ---- the files

-- the mark, the version, the step 10, the last time, the depth 16, one data source, one archive, and the number of
-- entries
abbrev head_of_file : Version → ℕ → ℕ → List ℕ
head_of_file One last entries =
    82 ∷ 82 ∷ 68 ∷ 73 ∷ 0 ∷ 1 ∷
    0 ∷ 0 ∷ 0 ∷ 10 ∷ zeros 7 ++ last ∷ 0 ∷ 16 ∷ 0 ∷ 1 ∷ 0 ∷ 1 ∷ 0 ∷ entries ∷ []
head_of_file Two last entries =
    82 ∷ 82 ∷ 68 ∷ 73 ∷ 0 ∷ 2 ∷
    0 ∷ 0 ∷ 0 ∷ 10 ∷ zeros 7 ++ last ∷ 0 ∷ 0 ∷ 0 ∷ 16 ∷ 0 ∷ 1 ∷ 0 ∷ 1 ∷ 0 ∷ 0 ∷ 0 ∷ entries ∷ []

-- the data source: its name, type, heartbeat and bounds, its last raw value, and an empty partial step
abbrev source_with : List ℕ → List ℕ
source_with raw = 1 ∷ 103 ∷ zeros 18 ++ 0 ∷ zeros 7 ++ 100 ∷ absent ++ absent ++ raw ++ nothing

-- the archive's header: its function, steps, xff and rows, and an empty partial row
abbrev head : List ℕ
head = 3 ∷ 0 ∷ 0 ∷ 0 ∷ 1 ∷ 0 ∷ 7 ∷ 161 ∷ 32 ∷ 0 ∷ 0 ∷ 0 ∷ 4 ∷ nothing

-- the update's entry: the last time, the raw value, the partial step and the partial row before the update, and the one
-- row that was dropped
abbrev entry : List ℕ
entry = 1 ∷ zeros 8 ++ absent ++ nothing ++ nothing ++ 0 ∷ 0 ∷ 0 ∷ 1 ∷ absent

abbrev pub new_bytes : Version → List ℕ
new_bytes version = head_of_file version 0 0 ++ source_with absent ++ head ++ absent ++ absent ++ absent ++ absent

-- the row at 10 is in slot 1
abbrev pub sampled_bytes : Version → List ℕ
sampled_bytes version =
    head_of_file version 10 1 ++ source_with million ++ head ++ absent ++ million ++ absent ++ absent ++ entry

-- ---- the results of the definitions

abbrev pub NewFile : Type 0
NewFile =
    (layout new_database ≡ new_bytes Two) × (length (new_bytes Two) ≡ 224)
    × (layout_in One new_database ≡ new_bytes One) × (length (new_bytes One) ≡ 220)

abbrev pub SampledFile : Type 0
SampledFile =
    let sampled = changed new_database (Updating one_sample) in
    (layout sampled ≡ sampled_bytes Two) × (length (sampled_bytes Two) ≡ 309)
    × (layout_in One sampled ≡ sampled_bytes One) × (length (sampled_bytes One) ≡ 305)
