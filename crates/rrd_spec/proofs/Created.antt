-- A new database is valid.
use Rattle.std.specs.Prelude.{◌≡◌, ℕ, ◌*◌, false, not, ◌||◌, List, [], ◌∷◌, length, map, replicate, None, ℤ, pos, ◌≤ℤ◌, int_lt, sum}
use Rattle.rrd_spec.proofs.Names.{refl, ap, ltb, eqb, arith, ints, ltb-false, eqb-false, or_parts, not-false, length-map, length-replicate, list_any, AllByRecursion, Cell, Raw, is_good, Function, Average, nothing, CreateSpec, DsDef, RraDef, rows_of_archives, is_bad_heartbeat, is_bad_rows, has_bad_bounds, is_bad_xff, is_bad_steps, create_checks, create_verdict, new_archive, created, create_verdict_within, IsSource, AreAccepted, IsPart, AreParts, IsRow, IsValidArchive, IsValid, present, All-replicate}
use Rattle.rrd_spec.proofs.Accepted.{all_pass}

-- ---- the sources

none_bad : (sources : List DsDef) → list_any (λ (source : DsDef). not (is_good source.name)) sources ≡ false → list_any (λ (source : DsDef). is_bad_heartbeat present source.heartbeat) sources ≡ false → list_any (has_bad_bounds present) sources ≡ false → AllByRecursion IsSource sources
none_bad [] a b c = tt
none_bad (source ∷ sources) a b c =
    let good = or_parts (not (is_good source.name)) (list_any (λ (source : DsDef). not (is_good source.name)) sources) a in
    let beats = or_parts (is_bad_heartbeat present source.heartbeat) (list_any (λ (source : DsDef). is_bad_heartbeat present source.heartbeat) sources) b in
    let bounds = or_parts (has_bad_bounds present source) (list_any (has_bad_bounds present) sources) c in
    (record { good_name = not-false (is_good source.name) good.0; good_heartbeat = beats.0; good_bounds = bounds.0 }, none_bad sources good.1 beats.1 bounds.1)

all_unknown : (sources : List DsDef) → AreAccepted sources (replicate (length sources) Raw.Unknown)
all_unknown [] = tt
all_unknown (source ∷ sources) = (tt, all_unknown sources)

no_parts : (function : Function) (sources passed : ℕ) → AreParts function sources passed (replicate sources nothing)
no_parts function sources passed = record {
  one_each = length-replicate sources nothing;
  each = All-replicate (IsPart function passed) sources nothing (record { few = omega arith; bounded = omega arith; empty = λ e. refl });
}

-- ---- the archives

unknown_row : (sources : ℕ) → IsRow sources (replicate sources Cell.Unknown)
unknown_row sources = record { one_each = length-replicate sources Cell.Unknown; each = All-replicate _ sources Cell.Unknown tt }

xff_is : (xff : ℤ) → is_bad_xff present xff ≡ false → (pos 0 ≤ℤ xff) × (xff ≤ℤ pos 999999)
xff_is xff h = let p = or_parts (int_lt xff (pos 0)) (int_lt (pos 999999) xff) h in (grind (arith, ints), grind (arith, ints))

pub archive_valid : (sources steps : ℕ) (def : RraDef) → is_bad_xff present def.xff ≡ false → is_bad_steps present def.steps ≡ false → is_bad_rows present def.rows ≡ false → IsValidArchive sources steps (new_archive sources def)
archive_valid sources steps def a b c =
    let xff = xff_is def.xff a in
    let these = or_parts (eqb def.steps 0) (ltb 1000000 def.steps) b in
    let those = or_parts (eqb def.rows 0) (ltb 1000000 def.rows) c in
    record {
      some_steps = omega (arith, eqb-false def.steps 0 these.0);
      few_steps = ltb-false 1000000 def.steps these.1;
      some_rows = omega (arith, eqb-false def.rows 0 those.0);
      few_rows = ltb-false 1000000 def.rows those.1;
      xff_low = xff.0;
      xff_high = xff.1;
      parts_are = no_parts def.function sources _;
      rows_are = length-replicate def.rows (replicate sources Cell.Unknown);
      each_row = All-replicate (IsRow sources) def.rows (replicate sources Cell.Unknown) (unknown_row sources);
    }

archives_valid : (sources steps : ℕ) (defs : List RraDef) → list_any (λ (def : RraDef). is_bad_xff present def.xff) defs ≡ false → list_any (λ (def : RraDef). is_bad_steps present def.steps) defs ≡ false → list_any (λ (def : RraDef). is_bad_rows present def.rows) defs ≡ false → AllByRecursion (IsValidArchive sources steps) (map (new_archive sources) defs)
archives_valid sources steps [] a b c = tt
archives_valid sources steps (def ∷ defs) a b c =
    let xffs = or_parts (is_bad_xff present def.xff) (list_any (λ (def : RraDef). is_bad_xff present def.xff) defs) a in
    let these = or_parts (is_bad_steps present def.steps) (list_any (λ (def : RraDef). is_bad_steps present def.steps) defs) b in
    let those = or_parts (is_bad_rows present def.rows) (list_any (λ (def : RraDef). is_bad_rows present def.rows) defs) c in
    (archive_valid sources steps def xffs.0 these.0 those.0, archives_valid sources steps defs xffs.1 these.1 those.1)

rows_are_asked : (sources : ℕ) (defs : List RraDef) → rows_of_archives (map (new_archive sources) defs) ≡ map (λ (def : RraDef). def.rows) defs
rows_are_asked sources [] = refl
rows_are_asked sources (def ∷ defs) = ap (λ rows. def.rows ∷ rows) (rows_are_asked sources defs)

-- ---- the whole

pub created_valid : (spec : CreateSpec) → create_verdict spec ≡ None → IsValid (created spec)
unfolding create_verdict_within
created_valid spec h =
    let sources = length spec.sources in
    let p = all_pass (create_checks present spec) h in
    let step = or_parts (eqb spec.step 0) (ltb 1000000 spec.step) p.0 in
    let sizes = or_parts (ltb 64 sources || ltb present.max_archives (length spec.archives)) (ltb present.max_cells (sources * sum (map (λ (def : RraDef). def.rows) spec.archives))) p.1.1.1.1.1.1.1.1.1.1.1.0 in
    let counts = or_parts (ltb 64 sources) (ltb present.max_archives (length spec.archives)) sizes.0 in
    let depth = or_parts (eqb spec.depth 0) (ltb present.max_journal_depth spec.depth) p.1.1.1.1.1.1.1.1.1.1.1.1.0 in
    let count = length-map spec.archives (new_archive sources) in
    record {
      some_step = omega (arith, eqb-false spec.step 0 step.0);
      small_step = ltb-false 1000000 spec.step step.1;
      good_time = ltb-false 9999999999 spec.start p.1.0;
      some_depth = omega (arith, eqb-false spec.depth 0 depth.0);
      small_depth = ltb-false present.max_journal_depth spec.depth depth.1;
      some_source = omega (arith, eqb-false sources 0 p.1.1.0);
      few_sources = ltb-false 64 sources counts.0;
      some_archive = omega (arith, eqb-false (length spec.archives) 0 p.1.1.1.0);
      few_archives = omega (arith, ltb-false present.max_archives (length spec.archives) counts.1);
      few_cells = omega (arith, ltb-false present.max_cells _ sizes.1, ap (λ rows. sources * sum rows) (rows_are_asked sources spec.archives));
      sources_are = none_bad spec.sources p.1.1.1.1.0 p.1.1.1.1.1.1.0 p.1.1.1.1.1.1.1.0;
      names_differ = p.1.1.1.1.1.0;
      raws_are = all_unknown spec.sources;
      parts_are = no_parts Average sources _;
      archives_are = archives_valid sources _ spec.archives p.1.1.1.1.1.1.1.1.0 p.1.1.1.1.1.1.1.1.1.0 p.1.1.1.1.1.1.1.1.1.1.0;
    }
