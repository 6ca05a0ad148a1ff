-- How many bytes the values of a piece have.
use Rattle.std.specs.Prelude.{◌≡◌, ◌++◌, ◌+◌, ◌-◌, ◌≤◌, ℕ, List, length, replicate, nat_lt, true}
use Rattle.rrd_file.proofs.Names.{arith, length-append, list_all, leb-true, length-replicate, Name, is_good, is_letter, Part, DsDef, Version, Header, name_bytes, part_bytes, source_bytes, header_bytes, header_size}
use Rattle.rrd_file.proofs.SignedBytes.{signed_length}
use Rattle.rrd_file.proofs.Tests.{and_left, and_right}

-- a good name is at most 19 characters long
pub short_name : (name : Name) → is_good name ≡ true → length name ≤ 19
short_name name good = leb-true (length name) 19 (and_right (nat_lt 0 (length name)) _ (and_left _ (list_all is_letter name) good))

pub name_length : (name : Name) → length name ≤ 19 → length (name_bytes name) ≡ 20
name_length name short = omega (arith, length-append name (replicate (19 - length name) 0), length-replicate {A = ℕ} (19 - length name) 0)

pub source_length : (def : DsDef) → length def.name ≤ 19 → length (source_bytes def) ≡ 61
source_length def short = grind (arith, name_length, length-append, signed_length)

pub part_length : (part : Part) → length (part_bytes part) ≡ 20
part_length part = omega (arith, signed_length part.value)

pub header_length : (version : Version) (h : Header) → length (header_bytes version h) ≡ header_size version
header_length version h = grind arith

pub length_source : (def : DsDef) (a b : List ℕ) → length def.name ≤ 19 → length (source_bytes def ++ a ++ b) ≡ 61 + length a + length b
length_source def a b short = omega (arith, source_length def short, length-append (source_bytes def ++ a) b, length-append (source_bytes def) a)
