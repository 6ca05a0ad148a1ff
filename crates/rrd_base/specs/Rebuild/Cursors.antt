-- Glue: a cursor over the cells of a file.
use Rattle.std.specs.Prelude.{◌≡◌, ℕ, ◌+◌, ◌*◌, ◌%◌, ◌<◌, List, [], ◌∷◌}
use Rattle.rrd_base.specs.Names.{place_in, Rra, resolution}
use Rattle.rrd_base.specs.declared.rebuild.cursor.Cursor.{Cursor}

-- the number of cells of its archive that the cursor has passed, if there are `sources` data sources
abbrev pub filled_by : ℕ → Cursor → ℕ
filled_by sources cursor = cursor.slot * sources + cursor.source

-- the cursor knows the index of its row after the first cell of the archive
abbrev pub KnowsPlace : ℕ → ℕ → ℕ → Cursor → Type 0
KnowsPlace resolution last rows cursor =
    0 < cursor.slot + cursor.source → cursor.place ≡ place_in resolution last rows cursor.slot

-- the cursor knows its index in the first of these archives, if there is one
abbrev pub KnowsPlaceIn : ℕ → ℕ → List Rra → Cursor → Type 0
KnowsPlaceIn step last [] cursor = Unit {0}
KnowsPlaceIn step last (archive ∷ archives) cursor =
    KnowsPlace (resolution step archive.def) last archive.def.rows cursor

-- `filled` is less than the number of cells of the first of these archives, and 0 if there is no archive
abbrev pub AreFewer : ℕ → List Rra → ℕ → Type 0
AreFewer sources [] filled = filled ≡ 0
AreFewer sources (archive ∷ archives) filled = filled < sources * archive.def.rows

-- the cursor passes `count` rows from the first cell of the row at index `place`
pub record Passes (rows place count : ℕ) (old new : Cursor) : Type 0 where
  pub within :
      old.slot + count < rows
      → new ≡ record old { slot = old.slot + count; place = (place + count) % rows; source = 0 }
  pub over :
      old.slot + count ≡ rows
      → new ≡ record { archive = old.archive + 1; slot = 0; place = (place + count) % rows; source = 0 }

-- the cursor advances from a cell in the row at index `place` to the next cell
pub record Advances (sources rows place : ℕ) (old new : Cursor) : Type 0 where
  pub next_source : old.source + 1 < sources → new ≡ record old { place = place; source = old.source + 1 }
  pub next_slot :
      old.source + 1 ≡ sources → old.slot + 1 < rows
      → new ≡ record old { slot = old.slot + 1; place = (place + 1) % rows; source = 0 }
  pub next_archive :
      old.source + 1 ≡ sources → old.slot + 1 ≡ rows
      → new ≡ record { archive = old.archive + 1; slot = 0; place = (place + 1) % rows; source = 0 }
