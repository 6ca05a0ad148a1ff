-- Glue: the values of the fields while a database is read record by record.
use Rattle.std.specs.Prelude.{◌≡◌, ℕ, ◌+◌, ◌*◌, ◌%◌, ◌<◌, ◌≤◌, List, [], ◌∷◌, ◌++◌, length, map, take, drop, sum, false, None}
use Rattle.rrd_base.specs.Names.{AllByRecursion, flat_map, Cell, Raw, Part, Average, DsDef, rows_of_archives, Filed, head_of, sources_of, Rra, Content, limits_of, present, Version, IsArchiveDef, IsHeader, IsRowPart, unprepared, is_double, names, cells_by_slot, AreAccepted, IsPart, IsRow, IsSourceWithin, IsValidJournalWithin}
use Rattle.rrd_base.specs.Rebuild.Cursors.{AreFewer, KnowsPlaceIn, filled_by}
use Rattle.rrd_base.specs.Rebuild.Validators.{EntryValidator, validator}
use Rattle.rrd_base.specs.Journal.{journal_of}
use Rattle.rrd_base.specs.declared.journal.Entry.{Entry}
use Rattle.rrd_base.specs.declared.rebuild.Rebuild.TheInside.{Inside}
use Rattle.rrd_base.specs.declared.rebuild.cursor.Cursor.{Cursor}
pub mod Begins
pub mod Cursors
pub mod Validators
pub mod Runs
pub mod CellRun
pub mod EntryChecks

-- the cells of the archives before `archive`, and the first `filled` cells of this archive, in the order of a file
abbrev pub cells_before : ℕ → ℕ → List Rra → ℕ → ℕ → List Cell
cells_before step last archives archive filled =
    flat_map (cells_by_slot step last) (take archive archives)
    ++ take filled (flat_map (cells_by_slot step last) (drop archive archives))

-- the records that were read, as the fields have them: the cells of the archives before `archive`, and `filled` cells
-- of it
pub record Coming : Type 0 where
  pub version : Version
  pub step : ℕ
  pub last : ℕ
  pub depth : ℕ
  pub sources_due : ℕ
  pub archives_due : ℕ
  pub entries_due : ℕ
  pub sources : List DsDef
  pub raws : List Raw
  pub preps : List Part
  pub archives : List Rra
  pub archive : ℕ
  pub filled : ℕ
  pub places : ℕ
  pub journal : List Entry
  pub validator : EntryValidator

abbrev pub coming : Inside → Coming
coming d = record {
  version = d.header.version;
  step = d.header.step;
  last = d.header.last;
  depth = d.header.depth;
  sources_due = d.header.sources;
  archives_due = d.header.archives;
  entries_due = d.header.entries;
  sources = d.sources.items;
  raws = d.raws.items;
  preps = d.preps.items;
  archives = d.archives;
  archive = d.cursor.archive;
  filled = filled_by d.header.sources d.cursor;
  places = d.journal.capacity;
  journal = d.journal.items;
  validator = d.validator;
}

-- the records that were read
abbrev pub filed_in : Coming → Filed
filed_in d = record {
  header =
      record {
        version = d.version;
        step = d.step;
        last = d.last;
        depth = d.depth;
        sources = d.sources_due;
        archives = d.archives_due;
        entries = d.entries_due;
      };
  sources = sources_of d.sources d.raws d.preps;
  heads = map head_of d.archives;
  cells = cells_before d.step d.last d.archives d.archive d.filled;
  entries = journal_of d.journal;
}

-- the content that these records make; rows that were not read are unknown
abbrev pub content_so_far : Coming → Content
content_so_far d = record {
  step = d.step;
  depth = d.depth;
  sources = d.sources;
  last = d.last;
  raws = d.raws;
  parts = d.preps;
  archives = d.archives;
}

-- an archive whose partial rows may still come; the rule of its settings is the same in each version
pub record IsArchiveSoFar (sources step last : ℕ) (archive : Rra) : Type 0 where
  pub def_is : IsArchiveDef present archive.def
  pub few_parts : length archive.parts ≤ sources
  pub each_part : AllByRecursion (IsRowPart step last archive.def) archive.parts
  pub rows_are : length archive.rows ≡ archive.def.rows
  pub each_row : AllByRecursion (IsRow sources) archive.rows

-- all archives except the last have a partial row for each data source
abbrev pub ArePrepared : ℕ → List Rra → Type 0
ArePrepared sources [] = Unit {0}
ArePrepared sources (archive ∷ []) = Unit {0}
ArePrepared sources (archive ∷ next ∷ archives) =
    (length archive.parts ≡ sources) × ArePrepared sources (next ∷ archives)

-- all archive headers were read, with all partial rows
pub record HeadsCame (d : Coming) : Type 0 where
  pub all : length d.archives ≡ d.archives_due
  pub prepared : unprepared d.sources_due (map head_of d.archives) ≡ None

-- all cells were read: the archive of the next cell is the one after the last
pub record CellsCame (d : Coming) : Type 0 where
  pub some : 0 < d.archive
  pub all : d.archive ≡ length d.archives

pub record IsRebuilding (d : Coming) : Type 0 where
  pub header_is : IsHeader (filed_in d).header
  pub few_sources : length d.sources ≤ d.sources_due
  pub sources_are : AllByRecursion (IsSourceWithin (limits_of d.version)) d.sources
  pub names_differ : is_double (names d.sources) ≡ false
  pub raws_are : AreAccepted d.sources d.raws
  pub one_part_each : length d.preps ≡ length d.sources
  pub parts_are : AllByRecursion (IsPart Average (d.last % d.step)) d.preps
  pub few_archives : length d.archives ≤ d.archives_due
  pub archives_are : AllByRecursion (IsArchiveSoFar d.sources_due d.step d.last) d.archives
  pub few_cells : d.sources_due * sum (rows_of_archives d.archives) ≤ (limits_of d.version).max_cells
  pub places : d.places ≡ d.depth
  pub few_entries : length d.journal ≤ d.entries_due
  pub validator_is : d.validator ≡ validator (filed_in d)
  pub journal_is : IsValidJournalWithin (limits_of d.version) (content_so_far d) (journal_of d.journal)
  pub sources_first : 0 < length d.archives → length d.sources ≡ d.sources_due
  pub archives_prepared : ArePrepared d.sources_due d.archives
  pub heads_first : 0 < d.archive + d.filled → HeadsCame d
  pub archive_there : d.archive ≤ length d.archives
  pub filled_few : AreFewer d.sources_due (drop d.archive d.archives) d.filled
  pub cells_first : 0 < length d.journal → CellsCame d

pub record IsCursor (d : Coming) (cursor : Cursor) : Type 0 where
  pub source_there : cursor.source < d.sources_due
  pub knows_place : KnowsPlaceIn d.step d.last (drop d.archive d.archives) cursor

abbrev pub filed_of : Inside → Filed
filed_of d = filed_in (coming d)

pub record AreRebuilding (d : Inside) : Type 0 where
  pub came : IsRebuilding (coming d)
  pub cursor_is : IsCursor (coming d) d.cursor
