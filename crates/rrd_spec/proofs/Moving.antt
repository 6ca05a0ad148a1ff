-- A history of commands, one command at a time.
use Rattle.std.specs.Prelude.{◌≡◌, ℕ, zero, suc, List, [], ◌∷◌, ◌++◌, map, None, reverse, slice_set}
use Rattle.rrd_spec.proofs.Names.{arith, refl, sym, ◌∙◌, ap, subst, append-nil, append_assoc, reverse-append, fold-append, fold, DsDef, Rra, Content, Event, Sampled, Tuned, Resized, Added, Removed, Moment, moment_after, moment_of, moment_at_end, rows_after, IsHistory, IsBase, KeepsArchives, content_listed, moved_listed, GoesOnFromContent, StaysBase, archive_by_time, content, Life, change_at, life_added, life_of, lives, lives_from, with_event, map-append, remove, DatabaseChange, settings_of, rows_of_archives, settings_after, events, events_of, moved, Settings, verdict, IsSound, survived, AllAccepted, Moves}
use Rattle.rrd_spec.proofs.HistoryLemmas.{IsHistory-append}
use Rattle.rrd_spec.proofs.CellLemmas.{is_lived}
use Rattle.rrd_spec.proofs.Lives.{IsBase-lived}
use Rattle.rrd_spec.proofs.LivesCut.{lived-cut, map-remove}
use Rattle.rrd_spec.proofs.LivesPlain.{is_listed}
use Rattle.rrd_spec.proofs.ContentLemmas.{IsBase-listed}
use Rattle.rrd_spec.proofs.Accepted.{accepted_history, command_raws}

-- ---- the settings of a content are those that its events leave

same_sources : (now : Moment) (settings : Settings) (es : List Event) → now.sources ≡ settings.sources → (fold moment_after now es).sources ≡ (fold settings_after settings es).sources
same_sources now settings [] e = e
same_sources now settings (Sampled sample ∷ es) e = same_sources (moment_after now (Sampled sample)) (settings_after settings (Sampled sample)) es e
same_sources now settings (Tuned sources ∷ es) e = same_sources (moment_after now (Tuned sources)) (settings_after settings (Tuned sources)) es refl
same_sources now settings (Resized archive rows ∷ es) e = same_sources now (settings_after settings (Resized archive rows)) es e
same_sources now settings (Added def ∷ es) e = same_sources now (settings_after settings (Added def)) es e
same_sources now settings (Removed archive ∷ es) e = same_sources now (settings_after settings (Removed archive)) es e

-- so are its archives' numbers of rows

rows_now : Life → ℕ
rows_now life = fold (rows_after 0) life.begun.def.rows life.since

rows_now-with : (e : Event) (life : Life) → rows_now (with_event e life) ≡ rows_after 0 (rows_now life) e
unfolding rows_now
rows_now-with e life = fold-append (rows_after 0) life.begun.def.rows life.since (e ∷ [])

map_rows-with : (e : Event) (all : List Life) → ((rows : ℕ) → rows_after 0 rows e ≡ rows) → map rows_now (map (with_event e) all) ≡ map rows_now all
map_rows-with e [] h = refl
map_rows-with e (life ∷ all) h = cc (rows_now-with e life ∙ h (rows_now life), map_rows-with e all h)

map_rows-resized : (n : ℕ) (all : List Life) (number : ℕ) → slice_set (map rows_now all) number n ≡ map rows_now (change_at (with_event (Resized 0 n)) all number)
map_rows-resized n [] number = refl
map_rows-resized n (life ∷ all) zero = ap (λ r. r ∷ map rows_now all) (sym (rows_now-with (Resized 0 n) life))
map_rows-resized n (life ∷ all) (suc number) = ap (λ rest. rows_now life ∷ rest) (map_rows-resized n all number)

lives_rows : (base : Content) (now : Moment) (all : List Life) (settings : Settings) (es : List Event) → settings.rows ≡ map rows_now all → (fold settings_after settings es).rows ≡ map rows_now (lives_from base now all es)
unfolding rows_now
lives_rows base now all settings [] e = e
lives_rows base now all settings (Sampled sample ∷ es) e = grind (arith, lives_rows base (moment_after now (Sampled sample)) (map (with_event (Sampled sample)) all) (settings_after settings (Sampled sample)) es (e ∙ sym (map_rows-with (Sampled sample) all (λ rows. refl))), map_rows-with)
lives_rows base now all settings (Tuned sources ∷ es) e = grind (arith, lives_rows base (moment_after now (Tuned sources)) (map (with_event (Tuned sources)) all) (settings_after settings (Tuned sources)) es (e ∙ sym (map_rows-with (Tuned sources) all (λ rows. refl))), map_rows-with)
lives_rows base now all settings (Resized archive n ∷ es) e = grind (arith, lives_rows base now (change_at (with_event (Resized 0 n)) all archive) (settings_after settings (Resized archive n)) es (ap (λ rows. slice_set rows archive n) e ∙ map_rows-resized n all archive), map_rows-resized)
lives_rows base now all settings (Added def ∷ es) e = grind (arith, lives_rows base now (all ++ life_added base now def ∷ []) (settings_after settings (Added def)) es (ap (λ rows. rows ++ def.rows ∷ []) e ∙ sym (map-append rows_now all (life_added base now def ∷ []))), map-append)
lives_rows base now all settings (Removed archive ∷ es) e = grind (arith, lives_rows base now (remove all archive) (settings_after settings (Removed archive)) es (ap (λ rows. remove rows archive) e ∙ sym (map-remove rows_now all archive)), map-remove)

rows_begun : (base : Content) (archives : List Rra) → rows_of_archives archives ≡ map rows_now (map (life_of base) archives)
unfolding rows_now
rows_begun base [] = refl
rows_begun base (archive ∷ archives) = ap (λ rest. archive.def.rows ∷ rest) (rows_begun base archives)

rows_shown : (base : Content) (es : List Event) (all : List Life) → rows_of_archives (map (archive_by_time base es) all) ≡ map rows_now all
unfolding rows_now
rows_shown base es [] = refl
rows_shown base es (life ∷ all) = ap (λ rest. rows_now life ∷ rest) (rows_shown base es all)

both : List DsDef → List ℕ → Settings
both sources rows = record { sources = sources; rows = rows }

pub settings_by_time : (base : Content) (es : List Event) → settings_of (content base es) ≡ fold settings_after (settings_of base) es
unfolding both
settings_by_time base es =
    let end = fold settings_after (settings_of base) es in
    ap (λ sources. both sources (rows_of_archives (map (archive_by_time base es) (lives base es)))) (same_sources (moment_of base) (settings_of base) es refl)
    ∙ ap (both end.sources) (rows_shown base es (lives base es) ∙ sym (lives_rows base (moment_of base) (map (life_of base) base.archives) (settings_of base) es (rows_begun base base.archives)))

-- ---- a command more

pub events_of-push : (settings : Settings) (commands : List DatabaseChange) (command : DatabaseChange) → events_of settings (commands ++ command ∷ []) ≡ events_of settings commands ++ events (fold settings_after settings (events_of settings commands)) command
events_of-push settings [] command = append-nil (events settings command)
events_of-push settings (first ∷ commands) command =
    let here = events settings first in
    let next = fold settings_after settings here in
    cc (events_of-push next commands command, append_assoc here (events_of next commands) (events (fold settings_after next (events_of next commands)) command), fold-append settings_after settings here (events_of next commands))

pub events_of-more : (base : Content) (commands : List DatabaseChange) (command : DatabaseChange) → events_of (settings_of base) (reverse (command ∷ commands)) ≡ events_of (settings_of base) (reverse commands) ++ events (settings_of (survived base commands)) command
events_of-more base commands command = cc (reverse-append (command ∷ []) commands, events_of-push (settings_of base) (reverse commands) command, settings_by_time base (events_of (settings_of base) (reverse commands)))

-- the events of what survives are a history
next_history : (base : Content) (commands : List DatabaseChange) (command : DatabaseChange) → verdict (survived base commands) command ≡ None → IsHistory (moment_at_end base (events_of (settings_of base) (reverse commands))) (events (settings_of (survived base commands)) command)
next_history base commands command h = grind (arith, accepted_history (survived base commands) command h)

pub survivors_history : (base : Content) (commands : List DatabaseChange) → AllAccepted base commands → IsHistory (moment_of base) (events_of (settings_of base) (reverse commands))
survivors_history base [] h = tt
survivors_history base (command ∷ commands) h = grind (arith, events_of-more, IsHistory-append, survivors_history base commands h.1, next_history)

-- ---- a history in two pieces

pub stays_base : (base : Content) (events : List Event) → StaysBase base events
stays_base base events is h = subst IsBase (is_lived base events is h) (IsBase-lived base events is h)

pub goes_on : (base : Content) (first second : List Event) → GoesOnFromContent base first second
goes_on base first second is h k = cc (is_lived base (first ++ second) is (IsHistory-append (moment_of base) first second h k), lived-cut base first is h second k, is_lived base first is h, is_lived (content base first) second (stays_base base first is h) k)

-- a content moved by an accepted command in which no archive comes or goes, by list and by time
pub moved_is : (base : Content) (command : DatabaseChange) → IsSound base → verdict base command ≡ None → KeepsArchives (events (settings_of base) command) → moved_listed base command ≡ moved base command
moved_is base command sound h keeps = is_listed base (events (settings_of base) command) sound.is_base (accepted_history base command h) keeps

pub moves : (base : Content) (commands : List DatabaseChange) (command : DatabaseChange) → Moves base commands command
moves base commands command sound h = grind (arith, events_of-more, goes_on, survivors_history, next_history)

-- ---- what is sound stays sound

pub listed_sound : (base : Content) (command : DatabaseChange) → IsSound base → verdict base command ≡ None → IsSound (moved_listed base command)
unfolding content_listed
listed_sound base command sound h = grind (arith, IsBase-listed base (events (settings_of base) command) sound.is_base (accepted_history base command h), accepted_history base command h, command_raws base command sound.one_raw_each)

pub moved_sound : (base : Content) (command : DatabaseChange) → IsSound base → verdict base command ≡ None → IsSound (moved base command)
moved_sound base command sound h = grind (arith, stays_base, accepted_history, command_raws)

pub moved_depth : (base : Content) (command : DatabaseChange) → (moved base command).depth ≡ base.depth
moved_depth base command = refl
