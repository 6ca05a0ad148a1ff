-- Definition: the database that a file represents. Glue: the same by the record of its calls, as `rrd_store` asks.
use Rattle.std.specs.Prelude.{ℕ, IsSome, IsTrue, List, Option, Some, None}
use Rattle.rrd_disk.specs.Asked.{world_in}
use Rattle.rrd_disk.specs.Events.{Event}
use Rattle.rrd_disk.specs.Replayed.{held_after, is_honest_after}
use Rattle.rrd_store.specs.Storages.{Held, Missing, Bytes, IsAnyFile}
use Rattle.rrd_change.specs.Settled.{mark_of, settled}
use Rattle.rrd_change.specs.States.{Represents}
use Rattle.rrd_file.specs.End.{file_end}

-- a file represents the bytes to which it is settled, if a change was interrupted
abbrev pub represented : Held → Held
represented Missing = Missing
represented (Bytes bytes) = Bytes (settled file_end bytes)

-- these bytes are what a change of a database has left: they stand for this database
pub record StandFor (now bytes : List ℕ) : Type 0 where
  pub is : IsAnyFile now
  pub represents : Represents now bytes

-- a file that begins with a mark is an interrupted change of a database. This is a premise about the first file alone: what
-- was so stays so. Without it a file of another program may begin with such a mark
abbrev pub IsSound : Held → Type 0
IsSound Missing = Unit {0}
IsSound (Bytes bytes) = IsSome (mark_of bytes) → (now : List ℕ) × StandFor now bytes

-- the same for what is assumed of the file; nothing is known if nothing is assumed
abbrev pub contents_after : Option Held → List Event → Option Held
contents_after None events = None
contents_after (Some code) events = Some (represented (held_after (world_in code) events))

abbrev pub is_honest_by : Option Held → List Event → Type 0
is_honest_by None events = Unit {0}
is_honest_by (Some code) events = IsTrue (is_honest_after (world_in code) events)
