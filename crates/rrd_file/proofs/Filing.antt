-- A whole file is that of the database that its pieces say.
use Rattle.std.proofs.Common.{arith}
use Rattle.std.specs.Prelude.{◌≡◌, ℕ, List}
use Rattle.rrd_file.proofs.Names.{Filed, filed, limits, Stored, IsValidDatabaseWithin, IsFile, IsWhole}

pub file_of : (bytes : List ℕ) (f : Filed) (d : Stored) → IsWhole bytes f → filed f.header.version d ≡ f → IsValidDatabaseWithin (limits f) d.content d.journal → IsFile bytes d
file_of bytes f d whole same valid = grind arith
