-- Definition: the files that failures leave, and repairs bring to the database that they stand for.
use Rattle.std.specs.Prelude.{◌≡◌, ◌⊎◌, ℕ, ◌<◌, ◌≤◌, List, [], ◌∷◌, ◌++◌, length, slice_index}
use Rattle.rrd_change.specs.Bytes.{SameIn}
use Rattle.rrd_change.specs.Changes.{Change}
use Rattle.rrd_change.specs.Laws.{AreSaid, Fill, IsLogged, IsUnderCut, Leads, chain_end, first_of}
use Rattle.rrd_change.specs.Marks.{IsLogIn, IsMarkOf}
use Rattle.rrd_change.specs.States.{IsAtRest, IsDatabase, IsInPlace, Represents, RepresentsEither}
use Rattle.rrd_change.specs.Views.{World}
use Rattle.rrd_change.specs.declared.finding.Mark.{Mark}
use Rattle.rrd_change.specs.declared.log.Log.{Log}

-- a file that the disk may have when the file that programs read stands for `now` under a cut mark: from the seventeenth byte
-- on it has that database too, and it stands for it, or for the other one of the change
pub record IsLoose (other now file : List ℕ) : Type 0 where
  pub reaches : length now ≤ length file
  pub placed : IsInPlace now file
  pub stands : RepresentsEither other now file

-- a file that stands for a database under a cut mark, or is the database, and may yet be another one on the disk
pub record IsUncut (other now : List ℕ) (w : World) : Type 0 where
  pub is : IsDatabase now
  pub held : (w.held ≡ now) ⊎ IsUnderCut now w.held
  pub leave : (c : List ℕ) → w.may_leave c → IsLoose other now c
  pub keep : (c : List ℕ) → w.may_keep c → IsLoose other now c

-- such a file, which programs read with the cut mark
pub record IsCutLeft (other now : List ℕ) (w : World) : Type 0 where
  pub under : IsUnderCut now w.held
  pub uncut : IsUncut other now w

-- ---- a log

-- how a log may end on the disk: with its last change; or with any bytes, perhaps in place of that change
pub data LogEnd : Type 0 where
  Whole : LogEnd
  Torn : LogEnd

abbrev pub MayBeTorn : LogEnd → Type 0
MayBeTorn Whole = ⊥
MayBeTorn Torn = Unit {0}

-- a file that the disk may have when programs read a log: one of the two databases is under a cut mark, and the file has what
-- the log needs of the old one
pub record IsUnlogged (other now old : List ℕ) (tail : ℕ) (changes : List Change) (file : List ℕ) : Type 0 where
  pub base : List ℕ
  pub either : (base ≡ other) ⊎ (base ≡ now)
  pub below : length base ≤ tail
  pub under : IsUnderCut base file
  pub reaches : length old ≤ length file
  pub kept : (k : ℕ) → 16 ≤ k → k < length old → (slice_index file k ≡ slice_index old k) ⊎ AreSaid changes k

-- a file that begins like one with the sure changes of a log, and has any bytes behind them. They are all changes of the log,
-- or all but the last one, and then they lead to the other database
pub record IsTornLog (other old : List ℕ) (tail : ℕ) (changes : List Change) (file : List ℕ) : Type 0 where
  pub sure : List Change
  pub whole : List ℕ
  pub logged : IsLogged old tail sure whole
  pub same : SameIn 0 (chain_end tail (first_of old ∷ sure)) whole file
  pub reaches : chain_end tail (first_of old ∷ sure) ≤ length file
  pub last : (changes ≡ sure) ⊎ ((c : Change) × (changes ≡ sure ++ c ∷ []) × Leads old sure other × Fill (length old) sure)

-- what the disk may have when programs read a log
abbrev pub IsOnDisk : LogEnd → List ℕ → List ℕ → List ℕ → ℕ → List Change → List ℕ → Type 0
IsOnDisk end other now old tail changes file =
    IsLogged old tail changes file ⊎ (IsUnlogged other now old tail changes file ⊎ (MayBeTorn end × IsTornLog other old tail changes file))

-- programs read this log
pub record IsLogHeld (end : LogEnd) (other now old : List ℕ) (tail : ℕ) (changes : List Change) (w : World) : Type 0 where
  pub held : IsLogged old tail changes w.held
  pub leave : (c : List ℕ) → w.may_leave c → IsOnDisk end other now old tail changes c
  pub keep : (c : List ℕ) → w.may_keep c → IsOnDisk end other now old tail changes c

-- programs read a log that leads to `now`, and its pieces have each byte that came
pub record IsLogLeft (end : LogEnd) (other now : List ℕ) (w : World) : Type 0 where
  pub old : List ℕ
  pub tail : ℕ
  pub changes : List Change
  pub leads : Leads old changes now
  pub fill : Fill (length old) changes
  pub world : IsLogHeld end other now old tail changes w

-- this log was found in it
pub record IsLogFound (end : LogEnd) (other now : List ℕ) (log : Log) (w : World) : Type 0 where
  pub is : IsDatabase now
  pub left : IsLogLeft end other now w
  pub found : IsLogIn log left.tail w.held

-- ---- whatever is left

-- what kills and failed calls leave of a file: programs read that it stands for `now`, but the disk may yet have what stands for
-- the other database
abbrev pub IsLeft : LogEnd → List ℕ → List ℕ → World → Type 0
IsLeft end other now w = IsAtRest now w ⊎ (IsCutLeft other now w ⊎ IsLogLeft end other now w)

-- a change stopped: the file stands for the old database or for the new one
abbrev pub IsStopped : LogEnd → List ℕ → List ℕ → World → Type 0
IsStopped end old new w = IsLeft end new old w ⊎ IsLeft end old new w

-- such a file, in which this mark was found
pub record IsFound (end : LogEnd) (other now : List ℕ) (mark : Mark) (w : World) : Type 0 where
  pub is : IsDatabase now
  pub mark_is : IsMarkOf mark w.held
  pub left : IsLeft end other now w

-- ---- failures of the power

-- a file after a failure of the power, or one that is never synced: what is known of the disk is what programs read
pub record IsAlone (w : World) : Type 0 where
  pub leave : (c : List ℕ) → w.may_leave c → c ≡ w.held
  pub keep : (c : List ℕ) → w.may_keep c → c ≡ w.held

-- such a file stands for a database, and has this mark
pub record IsMarkedFor (now : List ℕ) (mark : Mark) (w : World) : Type 0 where
  pub is : IsDatabase now
  pub represents : Represents now w.held
  pub mark_is : IsMarkOf mark w.held
  pub alone : IsAlone w
