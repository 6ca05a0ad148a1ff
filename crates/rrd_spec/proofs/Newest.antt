-- What is within the limits of a version is within those of every database.
use Rattle.std.specs.Prelude.{ℕ, ◌/◌, ◌≤◌, List, [], ◌∷◌, length}
use Rattle.rrd_spec.proofs.Names.{refl, arith, Rra, Content, AddedEntry, Entry, RemovedEntry, undone, ContentIsWithin, DatabaseIsWithin, EntryIsWithin, FirstTellsNoArchive, JournalIsWithin, Filed, All-weaker, max_journal_depth_of, limits_of, max_archives_of, max_cells_of, present, IsSource, IsSourceWithin, IsValidArchive, IsValidArchiveWithin, DsDef, Version}

small_depth : (version : Version) (n : ℕ) → n ≤ max_journal_depth_of version → n ≤ present.max_journal_depth
small_depth version n h = grind arith

few_archives : (version : Version) (n : ℕ) → n ≤ max_archives_of version → n ≤ present.max_archives
few_archives version n h = grind arith

few_cells : (version : Version) (n : ℕ) → n ≤ max_cells_of version → n ≤ present.max_cells
few_cells version n h = grind arith

source_within : (version : Version) (source : DsDef) → IsSourceWithin (limits_of version) source → IsSource source
source_within version source h = grind arith

archive_within : (version : Version) (sources steps : ℕ) (archive : Rra) → IsValidArchiveWithin (limits_of version) sources steps archive → IsValidArchive sources steps archive
archive_within version sources steps archive h = assumption (h)

pub content_is_within : (version : Version) (content : Content) → ContentIsWithin version content
content_is_within version content h = record {
  some_step = h.some_step;
  small_step = h.small_step;
  good_time = h.good_time;
  some_depth = h.some_depth;
  small_depth = small_depth version content.depth h.small_depth;
  some_source = h.some_source;
  few_sources = h.few_sources;
  some_archive = h.some_archive;
  few_archives = few_archives version (length content.archives) h.few_archives;
  few_cells = few_cells version _ h.few_cells;
  sources_are = All-weaker (IsSourceWithin (limits_of version)) IsSource content.sources (source_within version) h.sources_are;
  names_differ = h.names_differ;
  raws_are = h.raws_are;
  parts_are = h.parts_are;
  archives_are = All-weaker (IsValidArchiveWithin (limits_of version) (length content.sources) (content.last / content.step)) (IsValidArchive (length content.sources) (content.last / content.step)) content.archives (archive_within version (length content.sources) (content.last / content.step)) h.archives_are;
}

pub entry_is_within : (version : Version) (now : Content) (entry : Entry) → EntryIsWithin version now entry
entry_is_within version now AddedEntry h = (refl, h.1)
entry_is_within version now (RemovedEntry number archive) h = (refl, h.1)
entry_is_within version now x h = h

pub journal_is_within : (version : Version) (now : Content) (journal : List Entry) → JournalIsWithin version now journal
journal_is_within version now [] h = tt
journal_is_within version now (entry ∷ journal) h = grind (arith, entry_is_within version now entry h.0, content_is_within version (undone now entry) h.1, journal_is_within version (undone now entry) journal h.2)

pub database_is_within : (version : Version) (now : Content) (journal : List Entry) → DatabaseIsWithin version now journal
database_is_within version now journal h = assumption (content_is_within version now h.content_is, journal_is_within version now journal h.journal_is, h)

-- ---- archives that came or went

pub first_tells_none : (f : Filed) → FirstTellsNoArchive f
first_tells_none f e = grind arith
