-- Glue: what a tune's entry restores of data sources, and the archives that a tune leaves.
use Rattle.std.specs.Prelude.{◌<◌, List, [], ◌∷◌, ◌++◌, length, slice_set}
use Rattle.rrd_base.specs.Names.{fold, remove, Raw, SavedSource, ArchiveTune, Add, Remove, Content, new_archive}

-- what is kept of each data source, after that of the entry is restored
abbrev pub with_kept : {A : Type 0} → (SavedSource → A) → List A → List SavedSource → List A
with_kept kept items olds = fold (λ xs (old : SavedSource). slice_set xs old.number (kept old)) items olds

-- the raw values after those of the entry are restored
abbrev pub with_raws : List Raw → List SavedSource → List Raw
with_raws raws olds = with_kept (λ (old : SavedSource). old.raw) raws olds

-- the archive to remove exists
abbrev pub IsThere : Content → ArchiveTune → Type 0
IsThere now (Add def) = Unit {0}
IsThere now (Remove number) = number < length now.archives

-- the content after an archive was added or removed
abbrev pub with_archive_tuned : Content → ArchiveTune → Content
with_archive_tuned now (Add def) =
    record now { archives = now.archives ++ new_archive (length now.sources) def ∷ [] }
with_archive_tuned now (Remove number) = record now { archives = remove now.archives number }
