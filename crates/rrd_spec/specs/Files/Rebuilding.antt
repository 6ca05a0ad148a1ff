-- Definition: which record of a database is due if a file is read record by record, which record may come, and what it
-- adds (this project's rule).
use Rattle.std.specs.Prelude.{◌≡◌, ℕ, ◌+◌, ◌*◌, ◌/◌, ◌%◌, ◌<◌, ◌≤◌, false, nat_lt, if◌then◌else◌, Option, Some, None, List, [], ◌∷◌, ◌++◌, length, map, sum}
use Rattle.rrd_spec.specs.Names.{fold, Cell, IsAccepted, IsBounded, Average, Part}
use Rattle.rrd_spec.specs.declared.due.Due.{Due}
use Rattle.rrd_spec.specs.declared.due.Due.TheVariants.{SourceDue, HeadDue, PrepDue, CellDue, EntryDue, NothingDue}
use Rattle.rrd_spec.specs.declared.outline.Outline.{Outline}
use Rattle.rrd_spec.specs.declared.settings.RraDef.{RraDef}
use Rattle.rrd_spec.specs.Limits.{Limits, limits_of}
use Rattle.rrd_spec.specs.Settings.{has_source}
use Rattle.rrd_spec.specs.Journal.Entries.{Entry}
use Rattle.rrd_spec.specs.Files.Filed.{Filed, Header, Head, Source}
use Rattle.rrd_spec.specs.Journal.Outlines.{outline_undone}
pub use Rattle.rrd_spec.specs.Journal.Fitting.{IsArchiveDef}
use Rattle.rrd_spec.specs.Journal.Fitting.{MayUndo}
use Rattle.rrd_spec.specs.Validity.{IsPart, IsSourceWithin}

-- the limits of a database in a file of this version
abbrev pub limits : Filed → Limits
limits f = limits_of f.header.version

-- ---- which record is due

-- the archive that does not have a partial row for each data source yet, if there is one: the last archive, because
-- archives are read one by one
abbrev pub unprepared : ℕ → List Head → Option RraDef
unprepared sources [] = None
unprepared sources (head ∷ heads) =
    if nat_lt (length head.parts) sources then Some head.def else unprepared sources heads

-- the number of rows in all archives
abbrev pub rows_in_all : List Head → ℕ
rows_in_all heads = sum (map (λ (head : Head). head.def.rows) heads)

abbrev pub after_heads : Filed → Due
after_heads f =
    if nat_lt (length f.heads) f.header.archives then HeadDue
    else (if nat_lt (length f.cells) (f.header.sources * rows_in_all f.heads) then CellDue
    else (if nat_lt (length f.entries) f.header.entries then EntryDue else NothingDue))

abbrev pub prep_or : Option RraDef → Due → Due
prep_or None due = due
prep_or (Some def) due = PrepDue def

-- the order: data sources, then the settings of each archive with its partial rows, then cells, then entries
unfoldable pub due : Filed → Due
due f =
    if nat_lt (length f.sources) f.header.sources then SourceDue
    else prep_or (unprepared f.header.sources f.heads) (after_heads f)

-- ---- the rules of each record, by the records before it

pub record IsHeader (h : Header) : Type 0 where
  pub some_step : 0 < h.step
  pub small_step : h.step ≤ (limits_of h.version).max_step_seconds
  pub good_time : h.last ≤ (limits_of h.version).max_time
  pub some_depth : 0 < h.depth
  pub small_depth : h.depth ≤ (limits_of h.version).max_journal_depth
  pub some_source : 0 < h.sources
  pub few_sources : h.sources ≤ (limits_of h.version).max_sources
  pub some_archive : 0 < h.archives
  pub few_archives : h.archives ≤ (limits_of h.version).max_archives
  pub few_entries : h.entries ≤ h.depth

pub record MaySource (f : Filed) (s : Source) : Type 0 where
  pub is_due : due f ≡ SourceDue
  pub source_is : IsSourceWithin (limits f) s.def
  pub raw_is : IsAccepted s.def.kind s.raw
  pub part_is : IsPart Average (f.header.last % f.header.step) s.part
  pub name_differs : has_source (map (λ (source : Source). source.def) f.sources) s.def.name ≡ false

pub record MayHead (f : Filed) (def : RraDef) : Type 0 where
  pub is_due : due f ≡ HeadDue
  pub def_is : IsArchiveDef (limits f) def
  pub few_cells : f.header.sources * (rows_in_all f.heads + def.rows) ≤ (limits f).max_cells

abbrev pub IsRowPart : ℕ → ℕ → RraDef → Part → Type 0
IsRowPart step last def part = IsPart def.function (last / step % def.steps) part

pub record MayPrep (f : Filed) (part : Part) : Type 0 where
  pub def : RraDef
  pub is_due : due f ≡ PrepDue def
  pub part_is : IsRowPart f.header.step f.header.last def part

pub record MayCell (f : Filed) (cell : Cell) : Type 0 where
  pub is_due : due f ≡ CellDue
  pub bounded : IsBounded cell

-- the outline of the header, the data sources and the settings of the archives
abbrev pub outline_filed : Filed → Outline
outline_filed f = record {
  last = f.header.last;
  sources = map (λ (source : Source). source.def) f.sources;
  archives = map (λ (head : Head). head.def) f.heads;
}

-- the outline after all entries that were read have been undone
abbrev pub outline_left : Filed → Outline
outline_left f = fold outline_undone (outline_filed f) f.entries

pub record MayEntry (f : Filed) (entry : Entry) : Type 0 where
  pub is_due : due f ≡ EntryDue
  pub fits : MayUndo (limits f) f.header.step (outline_left f) entry

-- ---- what a record adds

abbrev pub begun : Header → Filed
begun h = record { header = h; sources = []; heads = []; cells = []; entries = [] }

abbrev pub with_source : Filed → Source → Filed
with_source f s = record f { sources = f.sources ++ s ∷ [] }

abbrev pub with_head : Filed → RraDef → Filed
with_head f def = record f { heads = f.heads ++ record { def = def; parts = [] } ∷ [] }

-- one more part for the newest archive
abbrev pub heads_with_part : List Head → Part → List Head
heads_with_part [] part = []
heads_with_part (head ∷ []) part = record head { parts = head.parts ++ part ∷ [] } ∷ []
heads_with_part (head ∷ next ∷ heads) part = head ∷ heads_with_part (next ∷ heads) part

abbrev pub with_prep : Filed → Part → Filed
with_prep f part = record f { heads = heads_with_part f.heads part }

abbrev pub with_cell : Filed → Cell → Filed
with_cell f cell = record f { cells = f.cells ++ cell ∷ [] }

abbrev pub with_entry : Filed → Entry → Filed
with_entry f entry = record f { entries = f.entries ++ entry ∷ [] }
