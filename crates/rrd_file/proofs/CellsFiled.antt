-- Cells in the order of a file, as a database shows them.
use Rattle.std.specs.Prelude.{◌≡◌, ◌<◌, ◌≤◌, ◌++◌, ℕ, zero, suc, List, [], ◌∷◌, Some, length, map, slice_get}
use Rattle.rrd_file.proofs.Names.{◌∙◌, sym, ap, arith, refl, flat_map, flat_map-append, flat_map-cons, Cell, RraDef, resolution, Rra, Content, IsValid, spelled, OfCell, spell}
use Rattle.rrd_file.proofs.Told.{archive_at, some_is}
use Rattle.rrd_spec.proofs.ContentLemmas.{mul_positive}

pub some_size : (d : Content) (n : ℕ) (a : Rra) → IsValid d → slice_get d.archives n ≡ Some a → 0 < resolution d.step a.def
some_size d n a v e = mul_positive d.step a.def.steps v.some_step (archive_at d n a v e).some_steps

-- ---- cells, list by list

map_append : (xs ys : List Cell) → map OfCell (xs ++ ys) ≡ map OfCell xs ++ map OfCell ys
map_append [] ys = refl
map_append (x ∷ xs) ys = ap (λ l. OfCell x ∷ l) (map_append xs ys)

pub cells_spelled : {A : Type 0} (f : A → List Cell) (xs : List A) → spelled (map OfCell (flat_map f xs)) ≡ flat_map (λ x. spelled (map OfCell (f x))) xs
cells_spelled f [] = refl
cells_spelled f (x ∷ xs) = cc (flat_map-cons f x xs, map_append (f x) (flat_map f xs), flat_map-append spell (map OfCell (f x)) (map OfCell (flat_map f xs)), cells_spelled f xs, flat_map-cons (λ y. spelled (map OfCell (f y))) x xs)

-- the archive whose settings these are
pub record IsDefOf (d : Content) (n : ℕ) (def : RraDef) : Type 0 where
  pub archive : Rra
  pub there : slice_get d.archives n ≡ Some archive
  pub def_is : archive.def ≡ def

found_def : (archives : List Rra) (n : ℕ) (def : RraDef) → Some def ≡ slice_get (map (λ (archive : Rra). archive.def) archives) n → (a : Rra) × (slice_get archives n ≡ Some a) × (a.def ≡ def)
found_def [] n def e = absurd cc
found_def (a ∷ archives) zero def e = (a, refl, let same : def ≡ a.def = cc in sym same)
found_def (a ∷ archives) (suc n) def e = found_def archives n def e

pub def_of : (d : Content) (n : ℕ) (def : RraDef) → Some def ≡ slice_get (map (λ (archive : Rra). archive.def) d.archives) n → IsDefOf d n def
def_of d n def e = let f = found_def d.archives n def e in record { archive = f.0; there = f.1; def_is = f.2 }

pub same_def : (d : Content) (n : ℕ) (def : RraDef) (a : Rra) → IsDefOf d n def → slice_get d.archives n ≡ Some a → a.def ≡ def
same_def d n def a f e = let same : a ≡ f.archive = some_is a f.archive (sym e ∙ f.there) in ap (λ (x : Rra). x.def) same ∙ f.def_is

-- the settings are small
pub record IsSmallDef (def : RraDef) : Type 0 where
  pub some_steps : 0 < def.steps
  pub few_steps : def.steps ≤ 1000000
  pub some_rows : 0 < def.rows
  pub few_rows : def.rows ≤ 1000000

pub small_def : (d : Content) (n : ℕ) (def : RraDef) → IsValid d → IsDefOf d n def → IsSmallDef def
small_def d n def v f = grind (arith, archive_at d n f.archive v f.there)

pub rows_are : (d : Content) (n : ℕ) (def : RraDef) (a : Rra) → IsValid d → IsDefOf d n def → slice_get d.archives n ≡ Some a → length a.rows ≡ def.rows
rows_are d n def a v f e = (archive_at d n a v e).rows_are ∙ ap (λ (x : RraDef). x.rows) (same_def d n def a f e)
