-- A tune, source by source.
use Rattle.std.specs.Prelude.{◌≡◌, ℕ, zero, suc, ◌+◌, ◌<◌, ◌≤◌, Bool, cond, List, [], ◌∷◌, ◌++◌, length, take, map, None, Some}
use Rattle.rrd_base.proofs.Names.{refl, ◌∙◌, ap, append-nil, take_all, set, get_or, arith, drop_all, fold, refill, Raw, DsDef, SavedSource, Tuning, Cell, Rra, Content, raws_under, TuningBy, moved, raw_under, saved_sources, is_named, with_rows_at, IsThere, with_archive_tuned, with_raws, ArchiveTune, Add, Remove, RraDef, verdict, TuneAdds, TuneRemoves, IsValid, with_sources}
use Rattle.rrd_spec.specs.Journal.Entries.{with_source}

-- one raw value more
pub raws_more : (f : DsDef → DsDef) (sources : List DsDef) (raws : List Raw) (i : ℕ) (d : DsDef) (r e : Raw) → i < length sources → length raws ≡ length sources → e ≡ raw_under (get_or sources i d).kind (f (get_or sources i d)).kind (get_or raws i r) → set (raws_under (take i sources) (map f (take i sources)) raws) i e ≡ raws_under (take (suc i) sources) (map f (take (suc i) sources)) raws
raws_more f (s ∷ ss) (x ∷ xs) zero d r e h k is = ap (λ z. z ∷ xs) is
raws_more f (s ∷ ss) (x ∷ xs) (suc i) d r e h k is = ap (λ zs. raw_under s.kind (f s).kind x ∷ zs) (raws_more f ss xs i d r e (omega arith) (omega arith) is)
raws_more f x raws i d r e h k is = absurd (omega arith)

-- the one that comes next is as it was
pub raws_next : (f : DsDef → DsDef) (sources : List DsDef) (raws : List Raw) (i : ℕ) (r : Raw) → get_or (raws_under (take i sources) (map f (take i sources)) raws) i r ≡ get_or raws i r
raws_next f [] raws zero r = refl
raws_next f [] raws (suc i) r = refl
raws_next f (s ∷ ss) raws zero r = refl
raws_next f (s ∷ ss) [] (suc i) r = refl
raws_next f (s ∷ ss) (x ∷ xs) (suc i) r = raws_next f ss xs i r

-- ---- what is kept of the sources

before_rest : (b : Bool) (h : SavedSource) (xs ys : List SavedSource) → cond b (h ∷ (xs ++ ys)) (xs ++ ys) ≡ cond b (h ∷ xs) xs ++ ys
before_rest b h xs ys = grind arith

-- one source more
pub before_more : (tuning : Tuning) (n i m : ℕ) (sources : List DsDef) (raws : List Raw) (d : DsDef) (r : Raw) → i < length sources → length raws ≡ length sources → m ≡ n + i → saved_sources tuning n (take (suc i) sources) (take (suc i) raws) ≡ saved_sources tuning n (take i sources) (take i raws) ++ (let h : SavedSource = record { number = m; source = get_or sources i d; raw = get_or raws i r } in cond (is_named tuning (get_or sources i d)) (h ∷ []) [])
before_more tuning n zero m (s ∷ ss) (x ∷ xs) d r h k e = ap (λ z. let w : SavedSource = record { number = z; source = s; raw = x } in cond (is_named tuning s) (w ∷ []) []) {x = n} {y = m} (omega arith)
before_more tuning n (suc i) m (s ∷ ss) (x ∷ xs) d r h k e = grind (arith, before_more tuning (n + 1) i m ss xs d r (omega arith) (omega arith) (omega arith), before_rest)
before_more tuning n i m x raws d r h k e = absurd (omega arith)

shorter : (b : Bool) (h : SavedSource) (xs ys : List SavedSource) → length xs ≤ length ys → length (cond b (h ∷ xs) xs) ≤ length (cond b (h ∷ ys) ys)
shorter b h xs ys k = grind arith

-- no more than of all
pub before_few : (tuning : Tuning) (n i : ℕ) (sources : List DsDef) (raws : List Raw) → length (saved_sources tuning n (take i sources) (take i raws)) ≤ length (saved_sources tuning n sources raws)
before_few tuning n zero sources raws = omega arith
before_few tuning n (suc i) [] raws = omega arith
before_few tuning n (suc i) (s ∷ ss) [] = omega arith
before_few tuning n (suc i) (s ∷ ss) (x ∷ xs) = shorter (is_named tuning s) (record { number = n; source = s; raw = x }) (saved_sources tuning (n + 1) (take i ss) (take i xs)) (saved_sources tuning (n + 1) ss xs) (before_few tuning (n + 1) i ss xs)

-- ---- what is put back

pub sources_put_back : (now : Content) (olds : List SavedSource) → fold with_source now olds ≡ (let x : Content = record now { sources = with_sources now.sources olds; raws = with_raws now.raws olds } in x)
sources_put_back now [] = refl
sources_put_back now (old ∷ olds) = sources_put_back (with_source now old) olds

-- ---- a resized archive is put back

pub rows_set : (archives : List Rra) (k : ℕ) (d : Rra) (rows : List (List Cell)) → k < length archives → set archives k (let a : Rra = get_or archives k d in let b : Rra = record a { def = record a.def { rows = length rows }; rows = rows } in b) ≡ with_rows_at archives k rows
rows_set [] k d rows h = absurd (omega arith)
rows_set (a ∷ rest) zero d rows h = refl
rows_set (a ∷ rest) (suc k) d rows h = ap (λ xs. a ∷ xs) (rows_set rest k d rows (omega arith))

-- ---- a content with other settings and raw values

pub with_settings : Content → List DsDef → List Raw → Content
with_settings now sources raws = record now { sources = sources; raws = raws }

pub settings_are : (now : Content) (sources : List DsDef) (raws : List Raw) (ss : List DsDef) (rs : List Raw) → sources ≡ ss → raws ≡ rs → (let x : Content = record now { sources = sources; raws = raws } in x) ≡ (let x : Content = record now { sources = ss; raws = rs } in x)
unfolding with_settings
settings_are now sources raws ss rs e f = ap (λ s. with_settings now s raws) e ∙ ap (with_settings now ss) f

-- ---- archives that come and go

-- a content with other archives
unfoldable pub with_archives : Content → List Rra → Content
with_archives now archives = record now { archives = archives }

-- as many items written over all of them
pub refilled : {A : Type 0} (xs ys : List A) → length ys ≡ length xs → refill (length xs) xs ys ≡ ys
refilled xs ys h = grind (arith, drop_all, append-nil, take_all)

-- what an accepted tune of an archive makes, and that the archive that goes is there
pub record ArchiveTuned (now : Content) (tuning : Tuning) (asked : ArchiveTune) : Type 0 where
  pub there : IsThere now asked
  pub content_is : moved now (TuningBy tuning) ≡ with_archive_tuned now asked

pub archive_tuned : ((base : Content) (tuning : Tuning) (def : RraDef) → TuneAdds base tuning def) → ((base : Content) (tuning : Tuning) (number : ℕ) → TuneRemoves base tuning number) → (now : Content) (tuning : Tuning) (asked : ArchiveTune) → IsValid now → tuning.archive ≡ Some asked → verdict now (TuningBy tuning) ≡ None → ArchiveTuned now tuning asked
archive_tuned adds removes now tuning (Add def) is e h = record { there = tt; content_is = adds now tuning def is e h }
archive_tuned adds removes now tuning (Remove number) is e h =
    let gone = removes now tuning number is e h in
    record { there = gone.0; content_is = gone.1 }
