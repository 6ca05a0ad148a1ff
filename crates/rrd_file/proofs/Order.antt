-- What came before the piece that is due.
use Rattle.std.proofs.Common.{arith}
use Rattle.std.specs.Prelude.{◌≡◌, ◌*◌, ◌<◌, ◌≤◌, Bool, length, nat_lt, true, if◌then◌else◌, Option, Some, None}
use Rattle.rrd_file.proofs.Names.{ltb-true, RraDef, Filed, Due, SourceDue, HeadDue, PrepDue, CellDue, EntryDue, NothingDue, due, prep_or, rows_in_all, unprepared}

-- the due piece, by what is there
abbrev pub in_order : Bool → Option RraDef → Bool → Bool → Bool → Due
in_order a u b c d = if a then SourceDue else prep_or u (if b then HeadDue else (if c then CellDue else (if d then EntryDue else NothingDue)))

source_order : (a : Bool) (u : Option RraDef) (b c d : Bool) → in_order a u b c d ≡ SourceDue → a ≡ true
source_order a u b c d e = grind arith

pub saved_source : (f : Filed) → due f ≡ SourceDue → length f.sources < f.header.sources
unfolding due
saved_source f e = ltb-true (length f.sources) f.header.sources (source_order (nat_lt (length f.sources) f.header.sources) (unprepared f.header.sources f.heads) (nat_lt (length f.heads) f.header.archives) (nat_lt (length f.cells) (f.header.sources * rows_in_all f.heads)) (nat_lt (length f.entries) f.header.entries) e)

-- where a head is due
pub record BeforeHead (f : Filed) : Type 0 where
  pub sources : f.header.sources ≤ length f.sources
  pub prepared : unprepared f.header.sources f.heads ≡ None
  pub more : length f.heads < f.header.archives

pub before_head : (f : Filed) → due f ≡ HeadDue → BeforeHead f
unfolding due
before_head f e = grind arith

pub prep_before : (f : Filed) (def : RraDef) → due f ≡ PrepDue def → (f.header.sources ≤ length f.sources) × (unprepared f.header.sources f.heads ≡ Some def)
unfolding due
prep_before f def e = grind arith

-- where a cell is due
pub record BeforeCell (f : Filed) : Type 0 where
  pub sources : f.header.sources ≤ length f.sources
  pub prepared : unprepared f.header.sources f.heads ≡ None
  pub heads : f.header.archives ≤ length f.heads
  pub more : length f.cells < f.header.sources * rows_in_all f.heads

pub before_cell : (f : Filed) → due f ≡ CellDue → BeforeCell f
unfolding due
before_cell f e = grind arith

-- where an entry is due
pub record BeforeEntry (f : Filed) : Type 0 where
  pub sources : f.header.sources ≤ length f.sources
  pub prepared : unprepared f.header.sources f.heads ≡ None
  pub heads : f.header.archives ≤ length f.heads
  pub cells : f.header.sources * rows_in_all f.heads ≤ length f.cells
  pub more : length f.entries < f.header.entries

pub before_entry : (f : Filed) → due f ≡ EntryDue → BeforeEntry f
unfolding due
before_entry f e = grind arith
