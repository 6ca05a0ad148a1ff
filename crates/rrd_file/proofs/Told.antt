-- What a database's readers tell, as items of its lists.
use Rattle.std.specs.Prelude.{◌≡◌, ◌<◌, ◌^◌, ℕ, zero, suc, List, [], ◌∷◌, Some, length, map, ◌/◌, slice_get, slice_index_or, unsigned_abs}
use Rattle.rrd_file.proofs.Names.{◌∙◌, sym, ap, refl, subst, get_or, arith, AllByRecursion, Raw, Part, nothing, DsDef, RraDef, Source, sources_of, Rra, Content, length-map, prep_in, AreAccepted, IsValid, IsValidArchive, raws_and_parts, OfSource, OfRawAndPart}

pub some_is : {A : Type 0} (x y : A) → Some x ≡ Some y → x ≡ y
some_is x y e = cc

-- what holds of all holds of each
pub all_of : {A : Type 0} (P : A → Type 0) (xs : List A) (i : ℕ) (x : A) → AllByRecursion P xs → slice_get xs i ≡ Some x → P x
all_of P [] i x all e = absurd cc
all_of P (y ∷ xs) zero x all e = subst P (some_is y x e) all.0
all_of P (y ∷ xs) (suc i) x all e = all_of P xs i x all.1 e

pub archive_at : (d : Content) (n : ℕ) (a : Rra) → IsValid d → slice_get d.archives n ≡ Some a → IsValidArchive (length d.sources) (d.last / d.step) a
archive_at d n a v e = all_of (IsValidArchive (length d.sources) (d.last / d.step)) d.archives n a v.archives_are e

-- a source by its place
pub source_at : (defs : List DsDef) (raws : List Raw) (parts : List Part) (i : ℕ) (s : Source) (d : DsDef) → slice_get (sources_of defs raws parts) i ≡ Some s
    → s ≡ record { def = slice_index_or defs i d; raw = slice_index_or raws i Raw.Unknown; part = slice_index_or parts i nothing }
source_at (def ∷ defs) (raw ∷ raws) (part ∷ parts) zero s d e = sym (some_is _ s e)
source_at (def ∷ defs) (raw ∷ raws) (part ∷ parts) (suc i) s d e = source_at defs raws parts i s d e
source_at x raws parts i s d e = absurd cc

-- an archive's settings are small numbers
pub record HasSmallNumbers (def : RraDef) : Type 0 where
  pub steps : def.steps < 2 ^ 32
  pub xff : unsigned_abs def.xff < 2 ^ 32
  pub rows : def.rows < 2 ^ 32

pub small_numbers : (sources passed : ℕ) (archives : List Rra) (i : ℕ) (def : RraDef) → AllByRecursion (IsValidArchive sources passed) archives → Some def ≡ slice_get (map (λ (archive : Rra). archive.def) archives) i → HasSmallNumbers def
small_numbers sources passed [] i def all e = absurd cc
small_numbers sources passed (a ∷ archives) zero def all e = grind arith
small_numbers sources passed (a ∷ archives) (suc i) def all e = small_numbers sources passed archives i def all.1 e

-- ---- lengths

pub accepted_length : (defs : List DsDef) (raws : List Raw) → AreAccepted defs raws → length raws ≡ length defs
accepted_length [] [] h = refl
accepted_length (def ∷ defs) (raw ∷ raws) h = ap suc (accepted_length defs raws h.1)
accepted_length x y h = absurd h

pub record SameLengths (defs : List DsDef) (raws : List Raw) (parts : List Part) : Type 0 where
  pub raws_are : length raws ≡ length defs
  pub parts_are : length parts ≡ length defs

pub lengths : (d : Content) → IsValid d → SameLengths d.sources d.raws d.parts
lengths d v = record { raws_are = accepted_length d.sources d.raws v.raws_are; parts_are = v.parts_are.one_each }

pub source_there : (defs : List DsDef) (raws : List Raw) (parts : List Part) (i : ℕ) → SameLengths defs raws parts → i < length defs → (s : Source) × (slice_get (sources_of defs raws parts) i ≡ Some s)
source_there [] raws parts i same h = absurd (omega arith)
source_there (def ∷ defs) [] parts i same h = absurd (omega (arith, same.raws_are))
source_there (def ∷ defs) (raw ∷ raws) [] i same h = absurd (omega (arith, same.parts_are))
source_there (def ∷ defs) (raw ∷ raws) (part ∷ parts) zero same h = (record { def = def; raw = raw; part = part }, refl)
source_there (def ∷ defs) (raw ∷ raws) (part ∷ parts) (suc i) same h = source_there defs raws parts i (record { raws_are = omega (arith, same.raws_are); parts_are = omega (arith, same.parts_are) }) (omega arith)

sources_length : (defs : List DsDef) (raws : List Raw) (parts : List Part) → SameLengths defs raws parts → length (sources_of defs raws parts) ≡ length defs
sources_length [] raws parts same = refl
sources_length (def ∷ defs) [] parts same = absurd (omega (arith, same.raws_are))
sources_length (def ∷ defs) (raw ∷ raws) [] same = absurd (omega (arith, same.parts_are))
sources_length (def ∷ defs) (raw ∷ raws) (part ∷ parts) same = ap suc (sources_length defs raws parts (record { raws_are = omega (arith, same.raws_are); parts_are = omega (arith, same.parts_are) }))

pub length_sources : (d : Content) → IsValid d → length (map OfSource (sources_of d.sources d.raws d.parts)) ≡ length d.sources
length_sources d v = length-map (sources_of d.sources d.raws d.parts) OfSource ∙ sources_length d.sources d.raws d.parts (lengths d v)

pub there : {A : Type 0} (xs : List A) (i : ℕ) → i < length xs → (x : A) × (slice_get xs i ≡ Some x)
there [] i h = absurd (omega arith)
there (x ∷ xs) zero h = (x, refl)
there (x ∷ xs) (suc i) h = there xs i (omega arith)

-- ---- before an update

pub before_at : (raws : List Raw) (parts : List Part) (i : ℕ) (r : Raw) (p : Part) → length raws ≡ length parts → i < length raws → slice_get (raws_and_parts raws parts) i ≡ Some (OfRawAndPart (get_or raws i r) (get_or parts i p))
before_at [] parts i r p same h = absurd (omega arith)
before_at (raw ∷ raws) [] i r p same h = absurd (omega (arith, same))
before_at (raw ∷ raws) (part ∷ parts) zero r p same h = refl
before_at (raw ∷ raws) (part ∷ parts) (suc i) r p same h = before_at raws parts i r p (omega (arith, same)) (omega arith)

pub length_before : (raws : List Raw) (parts : List Part) → length raws ≡ length parts → length (raws_and_parts raws parts) ≡ length raws
length_before [] parts same = refl
length_before (raw ∷ raws) [] same = absurd (omega (arith, same))
length_before (raw ∷ raws) (part ∷ parts) same = ap suc (length_before raws parts (omega (arith, same)))

-- ---- preparations

pub prep_is : (archives : List Rra) (number source : ℕ) (a : Rra) → slice_get archives number ≡ Some a → prep_in archives number source ≡ record { function = a.def.function; part = slice_index_or a.parts source nothing }
prep_is [] number source a e = absurd cc
prep_is (b ∷ archives) zero source a e = grind arith
prep_is (b ∷ archives) (suc number) source a e = prep_is archives number source a e

pub parts_length : (d : Content) (number : ℕ) (a : Rra) → IsValid d → slice_get d.archives number ≡ Some a → length a.parts ≡ length d.sources
parts_length d number a v e = (archive_at d number a v e).parts_are.one_each
