-- Example: worked examples of archives that are added and removed.
use Rattle.std.specs.Prelude.{◌≡◌, ℕ, pos, negsuc, Ok, Some, None, List, [], ◌∷◌, length, replicate, ◌++◌}
use Rattle.rrd_spec.specs.Names.{fold, Cell, Average, Max, Last}
use Rattle.rrd_spec.specs.declared.settings.RraDef.{RraDef}
use Rattle.rrd_spec.specs.declared.requests.tune.ArchiveTune.TheVariants.{Add, Remove}
use Rattle.rrd_spec.specs.declared.refusal.Refusal.TheVariants.{MixedTune, BadXff, NoArchive, NoSuchArchive, TooLarge}
use Rattle.rrd_spec.specs.History.{Content, Added, Removed}
use Rattle.rrd_spec.specs.History.Lives.{new_archive}
use Rattle.rrd_spec.specs.History.Cells.{content, oldest_time}
use Rattle.rrd_spec.specs.Commands.{DatabaseChange, TuningBy}
use Rattle.rrd_spec.specs.Commands.Verdict.{verdict}
use Rattle.rrd_spec.specs.Journal.Entries.{AddedEntry}
use Rattle.rrd_spec.specs.Limits.{limits_of}
use Rattle.rrd_spec.specs.Validity.{FitsWithin}
use Rattle.rrd_spec.specs.declared.version.Version.TheVariants.{One, Two}
use Rattle.rrd_spec.specs.Journal.Survivors.{Changed, Reverted, Stored, stored_after}
use Rattle.rrd_spec.specs.Examples.{archive, at, known, nan, no_tuning, reading, rows, run, small, update}
use Rattle.rrd_spec.specs.Examples.Commands.{with_maximum}

abbrev pub adding : RraDef → DatabaseChange
adding def = TuningBy (record no_tuning { archive = Some (Add def) })

abbrev pub removing : ℕ → DatabaseChange
removing number = TuningBy (record no_tuning { archive = Some (Remove number) })

abbrev pub averages : RraDef
averages = archive Average 2 3

abbrev pub greatest : RraDef
greatest = record (archive Max 2 3) { xff = pos 400000 }

-- the rows of the first archive and of two archives that were added in the middle of a step: the step that had ended
-- does not count for these, and the step in progress counts as a whole
abbrev pub rows_then : List (List (List Cell))
rows_then =
    (known 1000000 ∷ known 4000000 ∷ known 6000000 ∷ known 6000000 ∷ [])
    ∷ (nan ∷ known 4000000 ∷ known 6000000 ∷ [])
    ∷ (nan ∷ nan ∷ known 6000000 ∷ [])
    ∷ []

abbrev pub added : Stored
added = run (small 4)
    (Changed (update (reading 10 1 ∷ reading 15 2 ∷ []))
    ∷ Changed (adding averages)
    ∷ Changed (adding greatest)
    ∷ Changed (update (reading 40 6 ∷ [])) ∷ [])

abbrev pub taken_back : Stored
taken_back = fold stored_after added (Reverted ∷ Reverted ∷ Reverted ∷ [])

-- the rows by the whole history, and by one command after another; and the database after three reverts
abbrev pub TwoAdded : Type 0
TwoAdded =
    (rows (content (small 4) (at 10 1 ∷ at 15 2 ∷ Added averages ∷ Added greatest ∷ at 40 6 ∷ [])) ≡ rows_then)
    × (rows added.content ≡ rows_then)
    × (length taken_back.content.archives ≡ 1)
    × (taken_back.content.last ≡ 15)
    × (verdict (small 4) (TuningBy (record with_maximum { archive = Some (Add (archive Last 1 4)) })) ≡ Some MixedTune)
    × (verdict (small 4) (adding (record (archive Last 1 4) { xff = pos 1000000 })) ≡ Some BadXff)

abbrev pub removed : Stored
removed = run (small 4)
    (Changed (update (reading 10 1 ∷ []))
    ∷ Changed (adding (record (archive Max 1 2) { xff = pos 0 }))
    ∷ Changed (update (reading 20 2 ∷ []))
    ∷ Changed (removing 0)
    ∷ Changed (update (reading 30 3 ∷ [])) ∷ [])

abbrev pub put_back : Stored
put_back = fold stored_after removed (Reverted ∷ Reverted ∷ [])

-- an archive keeps its rows if one before it is removed, and the removed archive returns to its old number
abbrev pub OneRemoved : Type 0
OneRemoved =
    (rows (content (small 4)
    (at 10 1 ∷ Added (record (archive Max 1 2) { xff = pos 0 }) ∷ at 20 2 ∷ Removed 0 ∷ at 30 3 ∷ []))
    ≡ (known 2000000 ∷ known 3000000 ∷ []) ∷ [])
    × (rows removed.content ≡ (known 2000000 ∷ known 3000000 ∷ []) ∷ [])
    × (verdict removed.content (removing 0) ≡ Some NoArchive)
    × (verdict removed.content (removing 1) ≡ Some NoSuchArchive)
    × (rows put_back.content ≡ (nan ∷ nan ∷ known 1000000 ∷ known 2000000 ∷ []) ∷ (nan ∷ known 2000000 ∷ []) ∷ [])
    × (oldest_time put_back.content 0 ≡ Ok (negsuc 9))
    × (oldest_time put_back.content 1 ≡ Ok (pos 10))

-- ---- limits

-- `number` more archives, of one row each
abbrev pub with_more : ℕ → Content
with_more number =
    let base = small 4 in record base { archives = base.archives ++ replicate number (new_archive 1 (archive Last 1 1)) }

-- the 65th archive and the 128th, which are accepted; and one more, which is not
abbrev pub AtTheLimits : Type 0
AtTheLimits =
    (verdict (with_more 63) (adding (archive Last 1 1)) ≡ None)
    × (verdict (with_more 126) (adding (archive Last 1 1)) ≡ None)
    × (verdict (with_more 127) (adding (archive Last 1 1)) ≡ Some TooLarge)

-- only version 2 has an entry for an archive that was added
abbrev pub InVersions : Type 0
InVersions =
    FitsWithin (limits_of Two) (with_more 1) AddedEntry
    × (FitsWithin (limits_of One) (with_more 1) AddedEntry → ⊥)
    × (FitsWithin (limits_of Two) (with_more 0) AddedEntry → ⊥)
