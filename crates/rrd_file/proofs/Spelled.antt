-- A value that its bytes can stand for has bytes that no other such value has.
use Rattle.std.specs.Prelude.{◌≡◌, ◌++◌, ◌∷◌, ◌^◌, ◌<◌, ◌≤◌, ℕ, List, [], drop, length, ℤ, nat_lt, true, Option}
use Rattle.rrd_file.proofs.Names.{◌∙◌, sym, ap, refl, get_or, arith, length-append, list_all, w16, w32, w64, w128, from_be_bytes, leb-true, ints, from_be_bytes-to_be_bytes_2, from_be_bytes-to_be_bytes_4, from_be_bytes-to_be_bytes_8, SFits, Cell, Raw, Kind, Name, fits, Part, DsDef, RraDef, SavedSource, Header, Source, header_bytes, archive_bytes, bound_bytes, cell_bytes, eight_bytes, four_bytes, kind_byte, least, name_bytes, part_bytes, raw_bytes, raw_number, signed_bytes, source_bytes, two_bytes, FitsArchive, FitsBound, FitsCell, FitsDef, FitsHeader, FitsSavedSource, FitsNumber, FitsPart, FitsRaw, FitsSource}
use Rattle.rrd_file.proofs.SignedBytes.{signed_length, signed_one}
use Rattle.rrd_file.proofs.Lengths.{name_length, source_length}
use Rattle.rrd_file.proofs.Tests.{and_left}

-- ---- lists

pub append_same : {A : Type 0} (a b c d : List A) → length a ≡ length c → a ++ b ≡ c ++ d → (a ≡ c) × (b ≡ d)
append_same [] b [] d l e = (refl, e)
append_same (x ∷ a) b (y ∷ c) d l e =
    let later : a ++ b ≡ c ++ d = cc in
    grind (arith, append_same a b c d (omega (arith, l)) later)
append_same x b y d l e = absurd (omega (arith, l))

pub head_same : (x y : ℕ) (a b : List ℕ) → x ∷ a ≡ y ∷ b → (x ≡ y) × (a ≡ b)
head_same x y a b e = (ap (λ l. get_or l 0 0) e, ap (drop 1) e)

-- ---- numbers

pub two_one : (a b : ℕ) → a < 2 ^ 16 → b < 2 ^ 16 → two_bytes a ≡ two_bytes b → a ≡ b
two_one a b fa fb e = sym (from_be_bytes-to_be_bytes_2 a fa) ∙ ap (from_be_bytes w16) e ∙ from_be_bytes-to_be_bytes_2 b fb

pub four_one : (a b : ℕ) → a < 2 ^ 32 → b < 2 ^ 32 → four_bytes a ≡ four_bytes b → a ≡ b
four_one a b fa fb e = sym (from_be_bytes-to_be_bytes_4 a fa) ∙ ap (from_be_bytes w32) e ∙ from_be_bytes-to_be_bytes_4 b fb

pub eight_one : (a b : ℕ) → a < 2 ^ 64 → b < 2 ^ 64 → eight_bytes a ≡ eight_bytes b → a ≡ b
eight_one a b fa fb e = sym (from_be_bytes-to_be_bytes_8 a fa) ∙ ap (from_be_bytes w64) e ∙ from_be_bytes-to_be_bytes_8 b fb

number_fits : (z : ℤ) → FitsNumber z → SFits w128 z
number_fits z h = omega (arith, ints, h)

least_fits : SFits w128 least
least_fits = omega (arith, ints)

no_least : (z : ℤ) → FitsNumber z → signed_bytes least ≡ signed_bytes z → ⊥
no_least z h e = grind (arith, signed_one, least_fits, number_fits)

pub cell_one : (c d : Cell) → FitsCell c → FitsCell d → cell_bytes c ≡ cell_bytes d → c ≡ d
cell_one c d a b e = grind (arith, signed_one, number_fits, no_least)

pub raw_one : (c d : Raw) → FitsRaw c → FitsRaw d → raw_bytes c ≡ raw_bytes d → c ≡ d
raw_one c d a b e = grind (arith, signed_one, number_fits, no_least)

pub bound_one : (c d : Option ℤ) → FitsBound c → FitsBound d → bound_bytes c ≡ bound_bytes d → c ≡ d
bound_one c d a b e = grind (arith, signed_one, number_fits, no_least)

same_length : (x y : ℤ) → length (signed_bytes x) ≡ length (signed_bytes y)
same_length x y = signed_length x ∙ sym (signed_length y)

pub part_one : (c d : Part) → FitsPart c → FitsPart d → part_bytes c ≡ part_bytes d → c ≡ d
part_one c d fc fd e = grind (arith, append_same, four_one, signed_one)

-- ---- settings

pub short_fit : (name : Name) → fits name ≡ true → length name ≤ 19
short_fit name f = leb-true (length name) 19 (and_left _ (list_all (λ (c : ℕ). nat_lt c 128) name) f)

pub name_one : (a b : Name) → name_bytes a ≡ name_bytes b → a ≡ b
name_one a b e = grind (arith, head_same, append_same)

pub kind_one : (a b : Kind) → kind_byte a ≡ kind_byte b → a ≡ b
kind_one a b e = grind arith

pub def_one : (a b : DsDef) → FitsDef a → FitsDef b → source_bytes a ≡ source_bytes b → a ≡ b
def_one a b fa fb e =
    let la = name_length a.name (short_fit a.name fa.name) in
    let lb = name_length b.name (short_fit b.name fb.name) in
    let ka = kind_byte a.kind ∷ eight_bytes a.heartbeat in
    let kb = kind_byte b.kind ∷ eight_bytes b.heartbeat in
    let one : length (name_bytes a.name ++ ka) ≡ length (name_bytes b.name ++ kb) = omega (arith, la, lb, length-append (name_bytes a.name) ka, length-append (name_bytes b.name) kb) in
    let two : length (name_bytes a.name ++ ka ++ bound_bytes a.min) ≡ length (name_bytes b.name ++ kb ++ bound_bytes b.min) = grind (arith, length-append, same_length) in
    let s = append_same (name_bytes a.name ++ ka ++ bound_bytes a.min) (bound_bytes a.max) (name_bytes b.name ++ kb ++ bound_bytes b.min) (bound_bytes b.max) two e in
    let t = append_same (name_bytes a.name ++ ka) (bound_bytes a.min) (name_bytes b.name ++ kb) (bound_bytes b.min) one s.0 in
    let u = append_same (name_bytes a.name) ka (name_bytes b.name) kb (la ∙ sym lb) t.0 in
    let v = head_same (kind_byte a.kind) (kind_byte b.kind) (eight_bytes a.heartbeat) (eight_bytes b.heartbeat) u.1 in
    grind (arith, name_one a.name b.name u.0, kind_one a.kind b.kind v.0, eight_one a.heartbeat b.heartbeat fa.heartbeat fb.heartbeat v.1, bound_one a.min b.min fa.min fb.min t.1, bound_one a.max b.max fa.max fb.max s.1)

pub source_one : (a b : Source) → FitsSource a → FitsSource b → source_bytes a.def ++ raw_bytes a.raw ++ part_bytes a.part ≡ source_bytes b.def ++ raw_bytes b.raw ++ part_bytes b.part → a ≡ b
source_one a b fa fb e =
    let la = source_length a.def (short_fit a.def.name fa.def.name) in
    let lb = source_length b.def (short_fit b.def.name fb.def.name) in
    let one : length (source_bytes a.def ++ raw_bytes a.raw) ≡ length (source_bytes b.def ++ raw_bytes b.raw) = grind (arith, length-append, same_length) in
    let s = append_same (source_bytes a.def ++ raw_bytes a.raw) (part_bytes a.part) (source_bytes b.def ++ raw_bytes b.raw) (part_bytes b.part) one e in
    let t = append_same (source_bytes a.def) (raw_bytes a.raw) (source_bytes b.def) (raw_bytes b.raw) (la ∙ sym lb) s.0 in
    grind (arith, def_one a.def b.def fa.def fb.def t.0, raw_one a.raw b.raw fa.raw fb.raw t.1, part_one a.part b.part fa.part fb.part s.1)

pub raw_and_part_one : (r s : Raw) (c d : Part) → FitsRaw r → FitsRaw s → FitsPart c → FitsPart d → raw_bytes r ++ part_bytes c ≡ raw_bytes s ++ part_bytes d → (r ≡ s) × (c ≡ d)
raw_and_part_one r s c d fr fs fc fd e =
    let t = append_same (raw_bytes r) (part_bytes c) (raw_bytes s) (part_bytes d) (same_length (raw_number r) (raw_number s)) e in
    (raw_one r s fr fs t.0, part_one c d fc fd t.1)

pub saved_source_one : (a b : SavedSource) → FitsSavedSource a → FitsSavedSource b → two_bytes a.number ++ source_bytes a.source ++ raw_bytes a.raw ≡ two_bytes b.number ++ source_bytes b.source ++ raw_bytes b.raw → a ≡ b
saved_source_one a b fa fb e =
    let la = source_length a.source (short_fit a.source.name fa.source.name) in
    let lb = source_length b.source (short_fit b.source.name fb.source.name) in
    let s = append_same (two_bytes a.number) (source_bytes a.source ++ raw_bytes a.raw) (two_bytes b.number) (source_bytes b.source ++ raw_bytes b.raw) refl e in
    let t = append_same (source_bytes a.source) (raw_bytes a.raw) (source_bytes b.source) (raw_bytes b.raw) (la ∙ sym lb) s.1 in
    grind (arith, two_one a.number b.number fa.number fb.number s.0, def_one a.source b.source fa.source fb.source t.0, raw_one a.raw b.raw fa.raw fb.raw t.1)

pub archive_one : (a b : RraDef) → FitsArchive a → FitsArchive b → archive_bytes a ≡ archive_bytes b → a ≡ b
archive_one a b fa fb e = grind arith

-- all of a header but its version
record IsSame (a b : Header) : Type 0 where
  step : a.step ≡ b.step
  last : a.last ≡ b.last
  depth : a.depth ≡ b.depth
  sources : a.sources ≡ b.sources
  archives : a.archives ≡ b.archives
  entries : a.entries ≡ b.entries

pub header_one : (a b : Header) → a.version ≡ b.version → FitsHeader a → FitsHeader b → header_bytes a.version a ≡ header_bytes b.version b → a ≡ b
header_one a b same fa fb e = grind arith
