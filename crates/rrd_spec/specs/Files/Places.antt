-- Law: the index of the row in a slot, computed from the numbers alone. `StandsInPlace` in Laws/Slots says that the row
-- that the definition finds in the slot is the one at this index.
use Rattle.std.specs.Prelude.{ℕ, ◌+◌, ◌-◌, ◌/◌, ◌%◌}

-- rows have `resolution` seconds, and the newest row is the last to end by the last time; the oldest row has index 0
abbrev pub place_in : ℕ → ℕ → ℕ → ℕ → ℕ
place_in resolution last rows slot = (slot + rows - (last / resolution + 1) % rows) % rows
