-- Definition: the database that was found in the bytes of a file.
use Rattle.std.specs.Prelude.{ℕ, List, take}
use Rattle.rrd_change.specs.declared.finding.FoundDatabase.{FoundDatabase}

-- the database that a file stands for, as it was found
abbrev pub database_of : FoundDatabase → List ℕ
database_of s = take s.size s.bytes.items
