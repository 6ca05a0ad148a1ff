-- What a database's journal needs, and keeps.
use Rattle.std.specs.Prelude.{◌≡◌, suc, ◌-◌, ◌<◌, List, [], ◌∷◌, length, map, None}
use Rattle.rrd_base.proofs.Names.{refl, ◌∙◌, ap, get_or, arith, fold, Sample, Update, DsDef, Name, Content, Reading, Sampled, Moment, moment_after, KeepsArchives, Updating, sample_of, moved, DatabaseChange, last_time, PassesAll, verdict}

-- ---- the last time

last_at_end : (sources : List DsDef) (template : List Name) (now : Moment) (samples : List Sample) → 0 < length samples → (fold moment_after now (map Sampled (map (sample_of sources template) samples))).last ≡ last_time samples
last_at_end sources template now [] h = absurd (omega arith)
last_at_end sources template now (s ∷ []) h = refl
last_at_end sources template now (s ∷ t ∷ samples) h = last_at_end sources template (moment_after now (Sampled (sample_of sources template s))) (t ∷ samples) (omega arith)

-- an update's content ends at its last sample
pub moved_last : (base : Content) (update : Update) → 0 < length update.samples → (moved base (Updating update)).last ≡ last_time update.samples
moved_last base update h = grind (arith, last_at_end)

pub last_item : (samples : List Sample) (d : Sample) → 0 < length samples → (get_or samples (length samples - 1) d).time ≡ last_time samples
last_item [] d h = absurd (omega arith)
last_item (s ∷ []) d h = refl
last_item (s ∷ t ∷ samples) d h = ap (λ n. (get_or (s ∷ t ∷ samples) n d).time) {x = length (s ∷ t ∷ samples) - 1} {y = suc (length (t ∷ samples) - 1)} (omega arith) ∙ last_item (t ∷ samples) d (omega arith)

-- ---- an accepted update has a sample

pub some_samples : (passes : (base : Content) (command : DatabaseChange) → PassesAll base command) (base : Content) (update : Update) → verdict base (Updating update) ≡ None → 0 < length update.samples
some_samples passes base update h = grind arith

-- ---- an update lets no archive come or go

pub samples_keep : (readings : List Reading) → KeepsArchives (map Sampled readings)
samples_keep [] = tt
samples_keep (reading ∷ readings) = samples_keep readings
