-- Law: histories in which archives are added and removed.
use Rattle.std.specs.Prelude.{◌≡◌, ℕ, ◌<◌, ℤ, List, [], ◌∷◌, ◌++◌, length, replicate}
use Rattle.rrd_spec.specs.Names.{remove, Cell}
use Rattle.rrd_spec.specs.declared.settings.RraDef.{RraDef}
use Rattle.rrd_spec.specs.History.{Content, Event, Added, Removed, moment_of, moment_at_end, IsBase, IsHistory}
use Rattle.rrd_spec.specs.History.Cells.{content, row_then}
use Rattle.rrd_spec.specs.History.Lives.{new_archive}
use Rattle.rrd_spec.specs.Laws.ListedLives.{content_lived}

-- a history in which archives are added and removed may be cut anywhere
abbrev pub CutsLives : Content → List Event → Type 0
CutsLives base es =
    IsBase base → IsHistory (moment_of base) es → (fs : List Event) → IsHistory (moment_at_end base es) fs
    → content_lived base (es ++ fs) ≡ content_lived (content_lived base es) fs

-- an archive that is added follows the others, and is a new one; all else stays unchanged
abbrev pub AddChanges : Content → RraDef → Type 0
AddChanges base def =
    IsBase base → 0 < def.steps → 0 < def.rows → content base (Added def ∷ [])
    ≡ record base { archives = base.archives ++ new_archive (length base.sources) def ∷ [] }

-- an archive that is removed is gone; all else stays unchanged
abbrev pub RemoveChanges : Content → ℕ → Type 0
RemoveChanges base number =
    IsBase base → content base (Removed number ∷ []) ≡ record base { archives = remove base.archives number }

-- a new archive shows no known cell at any time up to its birth. So its horizon may as well be at least its end at its
-- birth
abbrev pub BlankAtFirst : ℕ → ℕ → ℕ → RraDef → ℤ → Type 0
BlankAtFirst sources step last def time =
    row_then sources step last (new_archive sources def) time ≡ replicate sources Cell.Unknown
