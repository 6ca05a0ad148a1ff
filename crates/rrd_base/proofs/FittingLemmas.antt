-- What tests of an entry find out, item by item.
use Rattle.std.specs.Prelude.{◌≡◌, ◌+◌, ◌<◌, ◌≤◌, ℕ, zero, suc, List, [], ◌∷◌, length, ◌-◌, ◌^◌, min, sum, slice_index_or, slice_set}
use Rattle.rrd_base.proofs.Names.{◌∙◌, sym, ap, subst, arith, refl, get_or, set, take_all, length-set, append-nil, AllByRecursion, refill, drop_all, map-set, Name, Consolidating, Part, parts_in, SavedSource, DsDef, RraDef, present, rows_of, with_row_number, with_sources, names, Rise, with_names, with_kept}
use Rattle.rrd_base.proofs.Rebuilt.{fold_sum}

-- ---- of each item

-- of the part of each preparation
pub All_here_part : (P : Part → Type 0) (preps : List Consolidating) (i : ℕ) (prep : Consolidating) → i < length preps → prep ≡ get_or preps i prep → AllByRecursion P (parts_in preps) → P prep.part
All_here_part P [] i prep h e all = absurd (omega arith)
All_here_part P (x ∷ preps) zero prep h e all = subst (λ (c : Consolidating). P c.part) (sym e) all.0
All_here_part P (x ∷ preps) (suc i) prep h e all = All_here_part P preps i prep (omega arith) e all.1

-- ---- numbers that rise

-- those that are left rise from a number if all do from another, and back
pub record RiseLeft (from limit to : ℕ) (all left : List SavedSource) : Type 0 where
  pub back : Rise to limit left → Rise from limit all
  pub forth : Rise from limit all → Rise to limit left

-- ---- names

pub names_put : (sources : List DsDef) (olds : List SavedSource) → with_names (names sources) olds ≡ names (with_sources sources olds)
names_put sources [] = refl
names_put sources (old ∷ olds) =
    ap (λ (ns : List Name). with_names ns olds) (sym (map-set (λ (source : DsDef). source.name) sources old.number old.source)) ∙ names_put (slice_set sources old.number old.source) olds

kept_length : {A : Type 0} (kept : SavedSource → A) (items : List A) (olds : List SavedSource) → length (with_kept kept items olds) ≡ length items
kept_length kept items [] = refl
kept_length kept items (old ∷ olds) = kept_length kept (slice_set items old.number (kept old)) olds ∙ length-set items old.number (kept old)

pub kept_refills : {A : Type 0} (kept : SavedSource → A) (items : List A) (olds : List SavedSource) → refill (length items) items (with_kept kept items olds) ≡ with_kept kept items olds
kept_refills kept items olds = grind (arith, drop_all, kept_length, append-nil, take_all)

-- ---- numbers of rows

rows_at_is : (defs : List RraDef) (i : ℕ) (d : RraDef) → i < length defs → (get_or defs i d).rows ≡ slice_index_or (rows_of defs) i 0
rows_at_is [] i d h = absurd (omega arith)
rows_at_is (x ∷ defs) zero d h = refl
rows_at_is (x ∷ defs) (suc i) d h = rows_at_is defs i d (omega arith)

rows_put : (defs : List RraDef) (i rows : ℕ) → i < length defs → sum (rows_of (with_row_number defs i rows)) + slice_index_or (rows_of defs) i 0 ≡ sum (rows_of defs) + rows
rows_put [] i rows h = absurd (omega arith)
rows_put (x ∷ defs) zero rows h = omega (arith, fold_sum rows (rows_of defs), fold_sum x.rows (rows_of defs))
rows_put (x ∷ defs) (suc i) rows h = omega (arith, fold_sum x.rows (rows_of (with_row_number defs i rows)), fold_sum x.rows (rows_of defs), rows_put defs i rows (omega arith))

-- as code counts them
pub record RowsPut (held : RraDef) (defs : List RraDef) (i rows all : ℕ) : Type 0 where
  pub within : held.rows ≤ all
  pub few : all ≤ present.max_cells
  pub old_is : held.rows ≡ slice_index_or (rows_of defs) i 0
  pub all_is : all - held.rows + rows ≡ sum (rows_of (with_row_number defs i rows))

pub rows_are_put : (items defs : List RraDef) (i rows all : ℕ) (d : RraDef) → items ≡ defs → i < length defs → sum (rows_of defs) ≤ present.max_cells → all ≡ min (sum (rows_of items)) (2 ^ 64 - 1) → RowsPut (get_or items i d) defs i rows all
rows_are_put items defs i rows all d same h few e = grind (arith, rows_at_is defs i d h, rows_put defs i rows h, rows_put defs i 0 h)

-- an archive's number of rows set in its place
pub row_number_set : (defs : List RraDef) (i rows : ℕ) (def : RraDef) → i < length defs → def ≡ get_or defs i def → set defs i (record def { rows = rows }) ≡ with_row_number defs i rows
row_number_set [] i rows def h e = absurd (omega arith)
row_number_set (x ∷ defs) zero rows def h e = ap (λ (d : RraDef). let new : RraDef = record d { rows = rows } in new ∷ defs) e
row_number_set (x ∷ defs) (suc i) rows def h e = ap (λ (ds : List RraDef). x ∷ ds) (row_number_set defs i rows def (omega arith) e)

pub row_number_past : (defs : List RraDef) (i rows : ℕ) → length defs ≤ i → defs ≡ with_row_number defs i rows
row_number_past [] i rows h = refl
row_number_past (x ∷ defs) zero rows h = absurd (omega arith)
row_number_past (x ∷ defs) (suc i) rows h = ap (λ (ds : List RraDef). x ∷ ds) (row_number_past defs i rows (omega arith))
