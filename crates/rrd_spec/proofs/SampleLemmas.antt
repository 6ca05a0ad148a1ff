-- An update: samples alone.
use Rattle.std.specs.Prelude.{◌≡◌, ℕ, ◌-◌, min, List, [], ◌∷◌, ◌++◌, length, take, map}
use Rattle.rrd_spec.proofs.Names.{common_steps, refl, arith, length-append, fold, Rra, Content, Sampled, Moment, moment_after, rows_after, IsArchive, rows_of, rows_never_lost, keep_last, kept_rows}
use Rattle.rrd_spec.specs.History.{Reading}
use Rattle.rrd_spec.proofs.RowLemmas.{put_back_rows}

room_of_samples : (index : ℕ) (since : ℕ → ℕ) (rows : ℕ) (now : Moment) (samples : List Reading) → since (fold moment_after now (map Sampled samples)).last ≡ 0 → rows_never_lost index since rows now (map Sampled samples) ≡ rows
room_of_samples index since rows now [] h = omega arith
room_of_samples index since rows now (sample ∷ samples) h = omega (arith, room_of_samples index since rows (moment_after now (Sampled sample)) samples h)

pub rows_of_samples : (index rows : ℕ) (samples : List Reading) → fold (rows_after index) rows (map Sampled samples) ≡ rows
rows_of_samples index rows [] = refl
rows_of_samples index rows (sample ∷ samples) = rows_of_samples index rows samples

-- the rows after an update: the newest of the rows before it and of those that it finished
pub kept_rows_of_samples : (base : Content) (index : ℕ) (archive : Rra) (samples : List Reading) → IsArchive archive → kept_rows base index archive (map Sampled samples) ≡ keep_last (length archive.rows) (archive.rows ++ rows_of base archive (map Sampled samples))
unfolding kept_rows
kept_rows_of_samples base index archive samples is = grind (arith, common_steps, length-append, rows_of_samples, room_of_samples)

-- and what gives them back: the oldest rows from before it, as many as it finished, then the rows that it left
pub update_undone : (base : Content) (index : ℕ) (archive : Rra) (samples : List Reading) → IsArchive archive → let f = length (rows_of base archive (map Sampled samples)) in let r = length archive.rows in take (min f r) archive.rows ++ take (r - min f r) (kept_rows base index archive (map Sampled samples)) ≡ archive.rows
update_undone base index archive samples is = grind (arith, kept_rows_of_samples, put_back_rows)
