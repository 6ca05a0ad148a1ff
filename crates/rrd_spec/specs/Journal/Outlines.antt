-- Definition: the outline of a database, which decides whether a journal entry fits, and the outline after the entry is
-- undone (this project's rule).
use Rattle.std.specs.Prelude.{ℕ, zero, suc, List, [], ◌∷◌, ◌-◌, length, map, slice_set, take}
use Rattle.rrd_spec.specs.Names.{fold, insert}
use Rattle.rrd_spec.specs.declared.entry.SavedSource.{SavedSource}
use Rattle.rrd_spec.specs.declared.outline.Outline.{Outline}
use Rattle.rrd_spec.specs.declared.settings.DsDef.{DsDef}
use Rattle.rrd_spec.specs.declared.settings.RraDef.{RraDef}
use Rattle.rrd_spec.specs.History.{Content, definitions}
use Rattle.rrd_spec.specs.Journal.Entries.{Entry, UpdateEntry, TuneEntry, ResizeEntry, AddedEntry, RemovedEntry}

-- the outline of a content
abbrev pub outline_of : Content → Outline
outline_of content =
    record { last = content.last; sources = content.sources; archives = definitions content.archives }

-- the settings of the data sources after the entry of a tune is undone
abbrev pub with_sources : List DsDef → List SavedSource → List DsDef
with_sources sources olds = fold (λ ss (old : SavedSource). slice_set ss old.number old.source) sources olds

-- the settings of the archives with another number of rows of one archive
abbrev pub with_row_number : List RraDef → ℕ → ℕ → List RraDef
with_row_number [] index rows = []
with_row_number (def ∷ defs) zero rows = record def { rows = rows } ∷ defs
with_row_number (def ∷ defs) (suc index) rows = def ∷ with_row_number defs index rows

-- the outline after an entry is undone
abbrev pub outline_undone : Outline → Entry → Outline
outline_undone now (UpdateEntry old) = record now { last = old.last }
outline_undone now (TuneEntry olds) = record now { sources = with_sources now.sources olds }
outline_undone now (ResizeEntry archive rows) =
    record now { archives = with_row_number now.archives archive (length rows) }
outline_undone now AddedEntry = record now { archives = take (length now.archives - 1) now.archives }
outline_undone now (RemovedEntry number archive) =
    record now { archives = insert now.archives number archive.def }

abbrev pub rows_of : List RraDef → List ℕ
rows_of defs = map (λ (def : RraDef). def.rows) defs
