-- Definition: the archives of a history, each followed by itself, whatever its number becomes (rrdtune, "RRA" and
-- "DELRRA").
use Rattle.std.specs.Prelude.{ℕ, zero, suc, ◌-◌, ◌/◌, List, [], ◌∷◌, ◌++◌, map, length, replicate}
use Rattle.rrd_spec.specs.Names.{remove, Cell, nothing}
use Rattle.rrd_spec.specs.declared.settings.RraDef.{RraDef}
use Rattle.rrd_spec.specs.History.{Rra, Content, Event, Sampled, Tuned, Resized, Added, Removed, Moment, moment_after, moment_of}

-- the life of an archive: the archive as it began, the moment when it began, the number of the history's steps that had
-- ended by then, and the events since: samples, tunes, and its own resizes, in which it has number 0
pub record Life : Type 0 where
  pub begun : Rra
  pub birth : Moment
  pub missed : ℕ
  pub since : List Event

-- the life of an archive of the base, which begins with the history
abbrev pub life_of : Content → Rra → Life
life_of base archive = record { begun = archive; birth = moment_of base; missed = 0; since = [] }

-- an archive in which every row is unknown, for `sources` data sources
abbrev pub new_archive : ℕ → RraDef → Rra
new_archive sources def =
    record { def = def; parts = replicate sources nothing; rows = replicate def.rows (replicate sources Cell.Unknown) }

-- the life of an archive that is added: nothing is known in it, and it misses the steps that have ended. The step in
-- progress counts for it as a whole
abbrev pub life_added : Content → Moment → RraDef → Life
life_added base now def = record {
  begun = new_archive (length base.sources) def;
  birth = now;
  missed = now.last / base.step - base.last / base.step;
  since = [];
}

abbrev pub with_event : Event → Life → Life
with_event event life = record life { since = life.since ++ event ∷ [] }

-- a list with another item at index `number`
abbrev pub change_at : {A : Type 0} → (A → A) → List A → ℕ → List A
change_at f [] number = []
change_at f (x ∷ xs) zero = f x ∷ xs
change_at f (x ∷ xs) (suc number) = x ∷ change_at f xs number

-- the archives after an event. If an archive is removed, the higher numbers are one lower (rrdtune)
abbrev pub lives_after : Content → Moment → List Life → Event → List Life
lives_after base now all (Sampled sample) = map (with_event (Sampled sample)) all
lives_after base now all (Tuned sources) = map (with_event (Tuned sources)) all
lives_after base now all (Resized archive rows) = change_at (with_event (Resized 0 rows)) all archive
lives_after base now all (Added def) = all ++ life_added base now def ∷ []
lives_after base now all (Removed archive) = remove all archive

abbrev pub lives_from : Content → Moment → List Life → List Event → List Life
lives_from base now all [] = all
lives_from base now all (event ∷ events) =
    lives_from base (moment_after now event) (lives_after base now all event) events

-- the archives that exist after all events, by their numbers then
abbrev pub lives : Content → List Event → List Life
lives base events = lives_from base (moment_of base) (map (life_of base) base.archives) events
