-- Glue: what the commands of a batch made of the database from before them.
use Rattle.std.specs.Prelude.{◌≡◌, ◌+◌, ◌^◌, ℕ, Bool, Option, Some, true, false, if◌then◌else◌, nat_lt}
use Rattle.rrd_tool.specs.Names.{Stored}
use Rattle.rrd_spec.specs.Commands.{Updating}
use Rattle.rrd_spec.specs.Laws.Updates.{AddsEntries, IsLater}
use Rattle.rrd_spec.specs.Validity.{IsValid}
use Rattle.rrd_spec.specs.declared.requests.update.Update.{Update}
use Rattle.rrd_tool.specs.Effects.{Effect, Changes}
use Rattle.rrd_tool.specs.declared.changed_by.ChangedBy.{ChangedBy}
use Rattle.rrd_tool.specs.declared.changed_by.ChangedBy.TheVariants.{Nothing, Updates, Anything}

-- an update
abbrev pub IsUpdate : Effect → Type 0
IsUpdate effect = (update : Update) × (effect ≡ Changes (Updating update))

-- as many updates, if the number fits its bytes
abbrev pub counted : ℕ → ChangedBy
counted count = if nat_lt count (2 ^ 64) then Updates count else Anything

abbrev pub with_change : ChangedBy → Bool → ChangedBy
with_change Nothing true = Updates 1
with_change (Updates count) true = counted (count + 1)
with_change Anything true = Anything
with_change Nothing false = Anything
with_change (Updates count) false = Anything
with_change Anything false = Anything

-- as many updates led from one database to the other
pub record IsUpdated (count : ℕ) (old new : Option Stored) : Type 0 where
  pub before : Stored
  pub now : Stored
  pub old_is : old ≡ Some before
  pub new_is : new ≡ Some now
  pub valid : IsValid before.content
  pub later : IsLater before.content now.content
  pub adds : AddsEntries count before now

-- one database became the other
abbrev pub IsChangedBy : ChangedBy → Option Stored → Option Stored → Type 0
IsChangedBy Nothing old new = new ≡ old
IsChangedBy (Updates count) old new = IsUpdated count old new
IsChangedBy Anything old new = Unit {0}

-- what changed the database of any earlier time is still known after more commands
abbrev pub GoesOnBy : ChangedBy → ChangedBy → Option Stored → Option Stored → Type 0
GoesOnBy by0 by1 b0 b1 = (start : Option Stored) → IsChangedBy by0 start b0 → IsChangedBy by1 start b1
