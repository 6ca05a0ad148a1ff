-- Law: the rows that an update leaves in the archives, and what it adds to the journal.
use Rattle.std.specs.Prelude.{◌≡◌, ℕ, ◌-◌, ◌<◌, min, List, [], ◌∷◌, ◌++◌, length, take, None}
use Rattle.rrd_spec.specs.declared.requests.update.Update.{Update}
use Rattle.rrd_spec.specs.History.{Rra, Content}
use Rattle.rrd_spec.specs.Commands.{Updating, moved}
use Rattle.rrd_spec.specs.Commands.Verdict.{verdict}
use Rattle.rrd_spec.specs.Journal.Entries.{Entry, rows_between}
use Rattle.rrd_spec.specs.Journal.Survivors.{Stored}
use Rattle.rrd_spec.specs.Validity.{IsValid}

-- the number of rows that an archive drops between two times: as many as end in between, at most all
abbrev pub dropped : ℕ → ℕ → ℕ → Rra → ℕ
dropped step from to archive = min (rows_between step archive.def from to) (length archive.rows)

-- an archive dropped its oldest rows for as many newer ones: the rows that it kept are now its oldest
pub record MovesOn (step from to : ℕ) (old new : Rra) : Type 0 where
  pub def_is : new.def ≡ old.def
  pub as_many : length new.rows ≡ length old.rows
  pub rows_are :
      let n = dropped step from to old in old.rows ≡ take n old.rows ++ take (length new.rows - n) new.rows

abbrev pub MoveOn : ℕ → ℕ → ℕ → List Rra → List Rra → Type 0
MoveOn step from to [] [] = Unit {0}
MoveOn step from to [] (new ∷ news) = ⊥
MoveOn step from to (old ∷ olds) [] = ⊥
MoveOn step from to (old ∷ olds) (new ∷ news) = MovesOn step from to old new × MoveOn step from to olds news

-- the same settings at a later time, when each archive dropped the rows that it had to
pub record IsLater (old new : Content) : Type 0 where
  pub step_is : new.step ≡ old.step
  pub sources_are : new.sources ≡ old.sources
  pub later : old.last < new.last
  pub archives_are : MoveOn old.step old.last new.last old.archives new.archives

-- the journal got as many entries as this since, and has room for `depth` of all
pub record AddsEntries (count : ℕ) (old new : Stored) : Type 0 where
  pub added : List Entry
  pub as_many : length added ≡ count
  pub depth_is : new.content.depth ≡ old.content.depth
  pub journal_is : new.journal ≡ take old.content.depth (added ++ old.journal)

-- an accepted update leads to a later time
abbrev pub UpdateIsLater : Content → Update → Type 0
UpdateIsLater base update =
    IsValid base → verdict base (Updating update) ≡ None → IsLater base (moved base (Updating update))
