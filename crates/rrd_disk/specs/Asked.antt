-- Glue: what `rrd_change` and `rrd_store` are asked of a file. Their clauses are for each list of numbers, or for each
-- `Held`, and do not look into it.
use Rattle.std.specs.Prelude.{ℕ, zero, suc, Bool, true, not, ◌&&◌, List, [], ◌∷◌, ◌++◌, length, take, drop, IsTrue}
use Rattle.rrd_disk.specs.Events.{Event}
use Rattle.rrd_disk.specs.Replayed.{World, bytes_after, held_after, is_honest_after, is_there}
use Rattle.rrd_store.specs.Storages.{Held, Missing, Bytes}
use Rattle.rrd_change.specs.Views as views
use Rattle.rrd_disk.specs.Power.{world_after}

-- ---- what is assumed of the file, as a list: what is asked, the number of parts, the parts, and the bytes of the file

abbrev pub start_by : ℕ → List ℕ → Held
start_by zero bytes = Bytes bytes
start_by (suc more) bytes = Missing

abbrev pub world_of : List ℕ → World
world_of [] = record { start = Missing; parts = [] }
world_of (asked ∷ []) = record { start = Missing; parts = [] }
world_of (asked ∷ count ∷ rest) = record { start = start_by asked (drop count rest); parts = take count rest }

abbrev pub kind_of : Held → ℕ
kind_of Missing = 1
kind_of (Bytes bytes) = 0

abbrev pub content_of : Held → List ℕ
content_of Missing = []
content_of (Bytes bytes) = bytes

-- the list of a world, if this is asked
abbrev pub code_by : ℕ → World → List ℕ
code_by asked w = asked ∷ length w.parts ∷ w.parts ++ content_of w.start

abbrev pub code_of : World → List ℕ
code_of w = code_by (kind_of w.start) w

-- some lists also ask whether there is a file after the calls: 2 is answered if there is none, and 3 if there is one.
-- What is so after some calls was so before them
abbrev pub is_answered : ℕ → Bool → Bool
is_answered zero is_there = true
is_answered (suc zero) is_there = true
is_answered (suc (suc zero)) is_there = not is_there
is_answered (suc (suc (suc more))) is_there = is_there

abbrev pub is_asked : List ℕ → Bool → Bool
is_asked [] is_there = true
is_asked (asked ∷ rest) is_there = is_answered asked is_there

abbrev pub bytes_in : List ℕ → List Event → List ℕ
bytes_in s events = bytes_after (world_of s) events

abbrev pub is_honest_in : List ℕ → List Event → Bool
is_honest_in s events = is_honest_after (world_of s) events && is_asked s (is_there (held_after (world_of s) events))

-- ---- the same with what `rrd_change` is asked of the file: the first number says whether its disk is asked for

abbrev pub file_of : List ℕ → List ℕ
file_of [] = []
file_of (asked ∷ rest) = rest

-- without its disk nothing is said of what the disk may have
abbrev pub world_for : ℕ → views.World → views.World
world_for zero w = record { held = w.held; may_leave = λ c. ⊥; may_keep = λ c. ⊥ }
world_for (suc more) w = w

abbrev pub world_asked : List ℕ → views.World → views.World
world_asked [] w = world_for 0 w
world_asked (asked ∷ rest) w = world_for asked w

-- what is known of a file after these calls
abbrev pub view_of : List Event → views.View
view_of events = record {
  is_honest = λ s. is_honest_in (file_of s) events;
  world = λ d s. world_asked s (world_after d (world_of (file_of s)) events);
}

-- whatever is asked, a record that is honest after some calls was honest before them
abbrev pub FallsAsked : List Event → List Event → Type 0
FallsAsked old new = (s : List ℕ) → IsTrue (is_honest_in s new) → IsTrue (is_honest_in s old)

-- ---- the same as a `Held`

abbrev pub world_in : Held → World
world_in Missing = world_of []
world_in (Bytes code) = world_of code

abbrev pub held_of : World → Held
held_of w = Bytes (code_of w)
