-- Example: worked examples of commands.
use Rattle.std.specs.Prelude.{◌≡◌, pos, Some, None, [], ◌∷◌, map}
use Rattle.rrd_spec.specs.Names.{fold, Raw, Gauge, Last}
use Rattle.rrd_spec.specs.declared.settings.DsDef.{DsDef}
use Rattle.rrd_spec.specs.declared.requests.tune.Tuning.{Tuning}
use Rattle.rrd_spec.specs.declared.requests.resize.Change.TheVariants.{Grow, Shrink}
use Rattle.rrd_spec.specs.Commands.{DatabaseChange, TuningBy, Resizing}
use Rattle.rrd_spec.specs.declared.refusal.Refusal.TheVariants.{NotLater, NoSample, BadTime, WrongCount, ShrinkTooFar, NoSuchArchive, BadRows, NothingToTune, BadBounds, NoSuchSource}
use Rattle.rrd_spec.specs.Commands.Verdict.{verdict}
use Rattle.rrd_spec.specs.Journal.Survivors.{Changed, Reverted, Stored, stored_after}
use Rattle.rrd_spec.specs.Examples.{created, counter, archive, rows, known, nan, letter, whole, reading, update, no_tuning, small, run}

abbrev pub six : DatabaseChange
six = update (reading 10 1 ∷ reading 20 2 ∷ reading 30 3 ∷ reading 40 4 ∷ reading 50 5 ∷ reading 60 6 ∷ [])

abbrev pub shrunk : Stored
shrunk = run (small 6) (Changed six ∷ Changed (Resizing 0 Shrink 4) ∷ Changed (Resizing 0 Grow 4) ∷ [])

-- an archive that shrank shows no old row after it grows again; two reverts restore the rows
abbrev pub ShrinkAndGrow : Type 0
ShrinkAndGrow = (rows shrunk.content ≡ (nan ∷ nan ∷ nan ∷ nan ∷ known 5000000 ∷ known 6000000 ∷ []) ∷ [])
    × (rows (fold stored_after shrunk (Reverted ∷ Reverted ∷ [])).content
    ≡ (known 1000000 ∷ known 2000000 ∷ known 3000000 ∷ known 4000000 ∷ known 5000000 ∷ known 6000000 ∷ []) ∷ [])
    × (verdict shrunk.content (Resizing 0 Shrink 6) ≡ Some ShrinkTooFar)
    × (verdict shrunk.content (Resizing 1 Grow 1) ≡ Some NoSuchArchive)
    × (verdict shrunk.content (Resizing 0 Grow 1000000) ≡ Some BadRows)

-- a journal of depth 2: the third revert finds no entry
abbrev pub TwoPlaces : Type 0
TwoPlaces =
    let end = run (record (small 4) { depth = 2 })
    (Changed (update (reading 10 1 ∷ []))
    ∷ Changed (update (reading 20 2 ∷ []))
    ∷ Changed (update (reading 30 3 ∷ []))
    ∷ Reverted ∷ Reverted ∷ Reverted ∷ []) in
    (end.content.last ≡ 10) × (end.journal ≡ [])

-- an update with one wrong sample is refused as a whole
abbrev pub RefusedWhole : Type 0
RefusedWhole =
    (verdict (small 4) (update (reading 10 1 ∷ reading 20 2 ∷ reading 20 3 ∷ [])) ≡ Some (NotLater 20))
    × (verdict (small 4) (update []) ≡ Some NoSample)
    × (verdict (small 4) (update (reading 10000000000 1 ∷ [])) ≡ Some BadTime)
    × (verdict (small 4) (update (record { time = 10; values = whole 1 ∷ whole 2 ∷ [] } ∷ []))
    ≡ Some WrongCount)

abbrev pub to_gauge : Tuning
to_gauge = record no_tuning { kind = Some ((letter 99, Gauge)); rename = Some ((letter 99, letter 103)) }

-- another type makes the raw value unknown, and a revert restores name and value
abbrev pub Retyped : Type 0
Retyped = let base = created 10 0 (record (counter 100) { name = letter 99 }) (archive Last 1 4 ∷ []) in
    let tuned = run base (Changed (update (reading 10 7 ∷ [])) ∷ Changed (TuningBy to_gauge) ∷ []) in
    let back = stored_after tuned Reverted in
    (tuned.content.raws ≡ Raw.Unknown ∷ [])
    × (map (λ (s : DsDef). s.name) tuned.content.sources ≡ letter 103 ∷ [])
    × (back.content.raws ≡ Raw.Known (pos 7) ∷ [])
    × (map (λ (s : DsDef). s.name) back.content.sources ≡ letter 99 ∷ [])

abbrev pub with_maximum : Tuning
with_maximum = record no_tuning { maximum = Some ((letter 103, Some (pos 5000000))) }

-- new bounds do not change the interval before them; after two reverts, the same update gives a known row again
abbrev pub Bounded : Type 0
Bounded =
    let tuned = run (small 4)
    (Changed (update (reading 10 9 ∷ []))
    ∷ Changed (TuningBy with_maximum)
    ∷ Changed (update (reading 20 9 ∷ [])) ∷ []) in
    (rows tuned.content ≡ (nan ∷ nan ∷ known 9000000 ∷ nan ∷ []) ∷ [])
    × (rows (fold stored_after tuned (Reverted ∷ Reverted ∷ Changed (update (reading 20 9 ∷ [])) ∷ [])).content
    ≡ (nan ∷ nan ∷ known 9000000 ∷ known 9000000 ∷ []) ∷ [])
    × (verdict (small 4) (TuningBy no_tuning) ≡ Some NothingToTune)
    × (verdict (small 4) (TuningBy (record with_maximum { minimum = Some ((letter 103, Some (pos 6000000))) }))
    ≡ Some BadBounds)
    × (verdict (small 4) (TuningBy to_gauge) ≡ Some NoSuchSource)
    × (verdict (small 4) (TuningBy with_maximum) ≡ None)
