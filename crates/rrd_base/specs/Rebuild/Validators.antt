-- Definition: the validator of the entries of a journal.
use Rattle.std.specs.Prelude.{ℕ}
use Rattle.rrd_base.specs.Names.{Outline, Version, Filed, outline_left}

-- the version whose limits hold, the seconds in a step, and the outline
pub record EntryValidator : Type 0 where
  pub version : Version
  pub step : ℕ
  pub outline : Outline

-- the validator after some records of a file were read
abbrev pub validator : Filed → EntryValidator
validator f = record { version = f.header.version; step = f.header.step; outline = outline_left f }
