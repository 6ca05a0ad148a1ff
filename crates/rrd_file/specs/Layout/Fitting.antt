-- Definition: the values that the bytes of a record can represent; a law says that no two of them have the same bytes.
use Rattle.std.specs.Prelude.{◌≡◌, ◌^◌, ◌<◌, ◌≤ℤ◌, ℕ, ℤ, pos, unsigned_abs, true, Option, Some, None}
use Rattle.rrd_file.specs.Names.{w128, FitsSigned, Raw, fits, Part, DsDef, RraDef, SavedSource, Header, Source, Version, One, Two}
pub use Rattle.rrd_fixed.specs.Stored.{FitsCell, FitsNumber}

abbrev pub FitsRaw : Raw → Type 0
FitsRaw Raw.Unknown = Unit {0}
FitsRaw (Raw.Known value) = FitsNumber value

abbrev pub FitsBound : Option ℤ → Type 0
FitsBound None = Unit {0}
FitsBound (Some millionths) = FitsNumber millionths

pub record FitsPart (part : Part) : Type 0 where
  pub known : part.known < 2 ^ 32
  pub value : FitsSigned w128 part.value

pub record FitsDef (def : DsDef) : Type 0 where
  pub name : fits def.name ≡ true
  pub heartbeat : def.heartbeat < 2 ^ 64
  pub min : FitsBound def.min
  pub max : FitsBound def.max

pub record FitsSource (source : Source) : Type 0 where
  pub def : FitsDef source.def
  pub raw : FitsRaw source.raw
  pub part : FitsPart source.part

pub record FitsArchive (def : RraDef) : Type 0 where
  pub steps : def.steps < 2 ^ 32
  pub xff_low : pos 0 ≤ℤ def.xff
  pub xff_high : unsigned_abs def.xff < 2 ^ 32
  pub rows : def.rows < 2 ^ 32

-- the number of different values of a count's bytes
abbrev pub counts : Version → ℕ
counts One = 2 ^ 16
counts Two = 2 ^ 32

pub record FitsHeader (h : Header) : Type 0 where
  pub step : h.step < 2 ^ 32
  pub last : h.last < 2 ^ 64
  pub depth : h.depth < counts h.version
  pub sources : h.sources < 2 ^ 16
  pub archives : h.archives < 2 ^ 16
  pub entries : h.entries < counts h.version

pub record FitsSavedSource (old : SavedSource) : Type 0 where
  pub number : old.number < 2 ^ 16
  pub source : FitsDef old.source
  pub raw : FitsRaw old.raw
