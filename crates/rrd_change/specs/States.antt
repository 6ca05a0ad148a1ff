-- Definition: the states of a file while it is changed; and, as glue, what its spans are while they are brought into place.
use Rattle.std.specs.Prelude.{◌≡◌, ◌⊎◌, ℕ, ◌+◌, ◌<◌, ◌≤◌, List, ◌∷◌, ◌++◌, length, take, drop, slice_index, max, replicate, true, ◌-◌, Option, Some, None}
use Rattle.rrd_change.specs.Bytes.{StandsAt}
use Rattle.rrd_change.specs.Changes.{Change, are_within, change_bytes, changes_in}
use Rattle.rrd_change.specs.Laws.{Fill, IsLogged, IsPrepared, IsUnderCut, Leads, TouchByte, chain_end, first_of}
use Rattle.rrd_change.specs.Settled.{cut_mark, database_mark, mark_of}
use Rattle.rrd_change.specs.Settled as settled
use Rattle.rrd_change.specs.Spans.{IsIn}
use Rattle.rrd_change.specs.Views.{All, IsHeld, World}
use Rattle.rrd_change.specs.declared.log.Base.{Base}
use Rattle.rrd_change.specs.declared.log.Log.{Log}
use Rattle.rrd_change.specs.declared.span.Span.{Span}

-- a database, as far as the first bytes show
pub record IsDatabase (bytes : List ℕ) : Type 0 where
  pub enough : 16 ≤ length bytes
  pub begins : StandsAt bytes 0 database_mark

-- a database began like this
pub record Began (base : Base) (old : List ℕ) : Type 0 where
  pub is : IsDatabase old
  pub length : base.length ≡ length old
  pub first : base.first ≡ take 16 old

-- ---- what a file stands for, as it is written

-- the bytes of a database under a cut mark
abbrev pub cut_of : List ℕ → List ℕ
cut_of bytes = cut_mark ++ drop 4 bytes

-- a log leads to this database, and its pieces have each byte that came
pub record IsLogFor (now file : List ℕ) : Type 0 where
  pub old : List ℕ
  pub tail : ℕ
  pub changes : List Change
  pub logged : IsLogged old tail changes file
  pub leads : Leads old changes now
  pub fill : Fill (length old) changes

-- the file stands for this database: it is the database, or has it under a cut mark, or by a log
abbrev pub Represents : List ℕ → List ℕ → Type 0
Represents now file = (file ≡ now) ⊎ (IsUnderCut now file ⊎ IsLogFor now file)

abbrev pub RepresentsEither : List ℕ → List ℕ → List ℕ → Type 0
RepresentsEither old new file = Represents old file ⊎ Represents new file

-- ---- no change

-- what the disk may have of a file that is a database: the database, perhaps with a cut mark still
abbrev pub IsPlain : List ℕ → List ℕ → Type 0
IsPlain bytes file = (file ≡ bytes) ⊎ (file ≡ cut_of bytes)

-- the file is a database
pub record IsAtRest (bytes : List ℕ) (w : World) : Type 0 where
  pub is : IsDatabase bytes
  pub world : IsHeld bytes (IsPlain bytes) w

-- the file is a database under a cut mark, and so is what the disk may have
pub record IsMarked (bytes : List ℕ) (w : World) : Type 0 where
  pub is : IsDatabase bytes
  pub world : All (λ c. c ≡ cut_of bytes) w

-- ---- a log

-- a log was written behind a database under a cut mark, and the file ends with the log
pub record IsReady (old : List ℕ) (tail : ℕ) (changes : List Change) (file : List ℕ) : Type 0 where
  pub prepared : IsPrepared old tail changes file
  pub ends : length file ≡ chain_end tail (first_of old ∷ changes)

-- the bytes with which a log begins, from the end of a database on: zeros, how the database began, and one change
pub record IsFirst (old : List ℕ) (tail : ℕ) (c : Change) (at : ℕ) (bytes : List ℕ) : Type 0 where
  pub is : IsDatabase old
  pub behind : at ≡ length old
  pub below : length old ≤ tail
  pub enough : 16 ≤ c.size
  pub within : c.size ≤ tail
  pub pieces : are_within c.size c.pieces ≡ true
  pub spelled : bytes ≡ replicate (tail - length old) 0 ++ (change_bytes tail tail (first_of old) ++ change_bytes tail (tail + 80) c)

-- a file with a log, which ends with the log
pub record IsOpen (old : List ℕ) (tail : ℕ) (changes : List Change) (file : List ℕ) : Type 0 where
  pub logged : IsLogged old tail changes file
  pub ends : length file ≡ chain_end tail (first_of old ∷ changes)

-- the changes of a log, from the old database to the one that the file stands for now; and what is known of them in memory
pub record Follows (old now : List ℕ) (changes : List Change) (log : Log) : Type 0 where
  pub is : IsDatabase now
  pub leads : Leads old changes now
  pub fill : Fill (length old) changes
  pub below : length now ≤ log.tail
  pub ends : log.end ≡ chain_end log.tail (first_of old ∷ changes)
  pub count : log.changes ≡ length changes
  pub each : (k : ℕ) → TouchByte k changes → IsIn k log.spans.items
  pub only : (k : ℕ) → 16 ≤ k → IsIn k log.spans.items → TouchByte k changes

-- the file has this log, and stands for this database
pub record IsLogOf (now : List ℕ) (log : Log) (w : World) : Type 0 where
  pub old : List ℕ
  pub changes : List Change
  pub follows : Follows old now changes log
  pub world : All (IsOpen old log.tail changes) w

-- a file that stays open has a log, or a cut mark alone
abbrev pub IsKept : List ℕ → Option Log → World → Type 0
IsKept now None w = IsMarked now w
IsKept now (Some log) w = IsLogOf now log w

-- ---- bringing into place

-- bytes of the spans were written, from the first sixteen on: these and no others
pub record ArePutIn (spans : List Span) (new old file : List ℕ) : Type 0 where
  pub longer : length old ≤ length file
  pub bound : length file ≤ max (length old) (length new)
  pub put : (k : ℕ) → 16 ≤ k → k < length new → IsIn k spans → slice_index file k ≡ slice_index new k
  pub same : (k : ℕ) → (slice_index file k ≡ slice_index old k) ⊎ ((16 ≤ k) × (k < length new) × IsIn k spans)

-- bytes of the spans may be any bytes now, from the first sixteen on
pub record AreAnyIn (spans : List Span) (new old file : List ℕ) : Type 0 where
  pub longer : length old ≤ length file
  pub bound : length file ≤ max (length old) (length new)
  pub same : (k : ℕ) → (slice_index file k ≡ slice_index old k) ⊎ ((16 ≤ k) × (k < length new) × IsIn k spans)

-- the file has the bytes of a database, but for the first sixteen
abbrev pub IsInPlace : List ℕ → List ℕ → Type 0
IsInPlace new file = (k : ℕ) → 16 ≤ k → k < length new → slice_index file k ≡ slice_index new k

-- ---- a change that failed

-- the changes that are read from what the disk has are the first of those that are read from the file: no part of a change has a
-- right checksum. That is a premise about the checksum, for failures of the power alone
abbrev pub Tells : List ℕ → List ℕ → Type 0
Tells file c = (tail : ℕ) → mark_of c ≡ Some (settled.Log tail) → (n : ℕ) × (changes_in tail c ≡ take n (changes_in tail file))

-- a change of a log failed: the file stands for the database before or after it, and so does what the disk may have
pub record IsBroken (now new : List ℕ) (w : World) : Type 0 where
  pub held : RepresentsEither now new w.held
  pub leave : (c : List ℕ) → w.may_leave c → Tells w.held c → RepresentsEither now new c
  pub keep : (c : List ℕ) → w.may_keep c → Tells w.held c → RepresentsEither now new c
