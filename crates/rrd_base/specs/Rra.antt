-- Glue: an archive of a database, and the values that can be put back into one.
use Rattle.std.specs.Prelude.{◌≡◌, ◌<◌, ◌≤◌, List, [], ◌∷◌, length}
use Rattle.rrd_base.specs.Names.{HasWidth, width, present, Rra, SavedArchive}

-- the steps in a row, and so the resolution, are within the limits
pub record IsStepped (archive : Rra) : Type 0 where
  pub some_steps : 0 < archive.def.steps
  pub few_steps : archive.def.steps ≤ present.max_steps_per_row

-- saved values that can be put back: they have the archive's function, as many partial rows as the archive, at most as
-- many rows, and as many cells in each row
pub record CanPutBack (archive : Rra) (old : SavedArchive) : Type 0 where
  pub same_function : old.function ≡ archive.def.function
  pub as_many_parts : length old.parts ≡ length archive.parts
  pub few : length old.rows ≤ length archive.rows
  pub one_width : HasWidth (width archive.rows) old.rows

abbrev pub CanPutBackEach : List Rra → List SavedArchive → Type 0
CanPutBackEach [] [] = Unit {0}
CanPutBackEach [] (old ∷ olds) = ⊥
CanPutBackEach (archive ∷ archives) [] = ⊥
CanPutBackEach (archive ∷ archives) (old ∷ olds) = CanPutBack archive old × CanPutBackEach archives olds
