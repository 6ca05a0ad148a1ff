-- What the steps of loading and replacing the database of a file do to one file.
use Rattle.rrd_disk.proofs.Names.{left_represents, alone_left, ◌≡◌, ◌↔◌, ◌∷◌, [], ℕ, ◌<◌, ◌≤◌, Bool, false, List, Option, Some, None, Result, Ok, Err, IfOk, IsSome, IsTrue, OnErr, length, take, slice_index, refl, sym, ◌∙◌, ap, subst, inl, inr, arith, get_or-take, false≢true, begins_with, IsMarkOf, IsWhole, IsFound, IsLeft, IsStopped, LogEnd, Whole, database_mark, mark_of, settled, settled_by, AgreesOutside, Began, IsAtRest, IsDatabase, Represents, RepresentsEither, Does, Effect, Steps, seen, Syncs, Never, Ordered, Mark, Base, Log, Span, by_mark, is_plain, plain_read, cut_under, log_stands_all, file_end, IsFile, FileSpan, Stored, Bytes, Finds, Held, IsAfterFailure, IsAnyFile, Missing, TaskFault, CannotOpen, FallsAsked, code_of, is_honest_in, view_of, world_of, Falls, IsSound, StandFor, represented, SaysEntry, Event, world_after, World, bytes_after, bytes_of, held_after, is_honest_after, is_there, AreOf, Breaks, Changes, IsFoundAs, IsLoaded, IsOpen, IsSoundAs, IsWritten, Laws, MayDiffer, StaysAs, alone, Entry, Found, Unopened, Unwritable, Open, Kept, common_steps}
use Rattle.rrd_change.specs.States.{IsKept}
use Rattle.rrd_disk.proofs.Asked.{code_honest, falls_asked, still_there, world_of_code}
use Rattle.rrd_disk.proofs.Resting.{held_is}
use Rattle.rrd_disk.proofs.Spans.{all_agree}
use Rattle.rrd_disk.specs.declared.storage.Found.TheVariants.{Missing as NotFound}
use Rattle.rrd_change.specs.Settled as marks
use Rattle.rrd_change.specs.Views as views
use Rattle.rrd_file.specs.Spans as file

-- ---- calls of `rrd_change`, for each file

-- whatever is asked of the disk: nothing is
alone_by : (syncs : Syncs) (e : Effect) (old new : List Event) → Steps e (seen syncs (view_of old)) (seen syncs (view_of new))
    → (code : List ℕ) → IsTrue (is_honest_in code new)
    → e (alone (world_after [] (world_of code) old).held) (alone (world_after [] (world_of code) new).held)
alone_by Never e old new steps code h = steps.does [] (0 ∷ code) h
alone_by Ordered e old new steps code h = steps.does [] (0 ∷ code) h

pub each_alone : (syncs : Syncs) (e : Effect) (old new : List Event) → Steps e (seen syncs (view_of old)) (seen syncs (view_of new))
    → (w : World) → IsTrue (is_honest_after w new) → e (alone (bytes_after w old)) (alone (bytes_after w new))
each_alone syncs e old new steps w honest =
    let code = code_of w in
    let did = alone_by syncs e old new steps code (code_honest w new honest) in
    grind (arith, alone, held_is, world_of_code)

pub steps_falls : (syncs : Syncs) (e : Effect) (old new : List Event) → Steps e (seen syncs (view_of old)) (seen syncs (view_of new)) → FallsAsked old new
steps_falls Never e old new steps s h = steps.falls (0 ∷ s) h
steps_falls Ordered e old new steps s h = steps.falls (0 ∷ s) h

pub does_asked : {X E : Type 0} (syncs : Syncs) (well : X → Effect) (badly : Effect) (r : Result X E) (old new : List Event)
    → Does well badly r (seen syncs (view_of old)) (seen syncs (view_of new)) → FallsAsked old new
does_asked syncs well badly (Ok x) old new steps = steps_falls syncs (well x) old new steps
does_asked syncs well badly (Err e) old new steps = steps_falls syncs badly old new steps

pub does_falls : {X E : Type 0} (syncs : Syncs) (well : X → Effect) (badly : Effect) (r : Result X E) (old new : List Event)
    → Does well badly r (seen syncs (view_of old)) (seen syncs (view_of new)) → Falls old new
does_falls syncs well badly r old new steps = falls_asked old new (does_asked syncs well badly r old new steps)

bytes_there : (h : Held) → IsTrue (is_there h) → h ≡ Bytes (bytes_of h)
bytes_there Missing there = absurd (false≢true there)
bytes_there (Bytes file) there = refl

there_bytes : (h : Held) → h ≡ Bytes (bytes_of h) → IsTrue (is_there h)
there_bytes h is = ap is_there is

-- a file that there is stays there
pub stays_open : (old new : List Event) → FallsAsked old new → (w : World) → IsTrue (is_honest_after w new)
    → held_after w old ≡ Bytes (bytes_after w old) → held_after w new ≡ Bytes (bytes_after w new)
stays_open old new falls w h is = bytes_there (held_after w new) (still_there old new falls w h (there_bytes (held_after w old) is))

-- ---- marks

-- a file without a mark stands for itself
pub unmarked_itself : (bytes : List ℕ) → mark_of bytes ≡ None → settled file_end bytes ≡ bytes
unmarked_itself bytes none = by_mark file_end bytes ∙ ap (λ (m : Option marks.Mark). settled_by file_end m bytes) none

pub database_unmarked : (bytes : List ℕ) → IsDatabase bytes → mark_of bytes ≡ None
database_unmarked bytes is = plain_read bytes is.begins

pub sound_unmarked : (h : Held) (bytes : List ℕ) → h ≡ Bytes bytes → mark_of bytes ≡ None → IsSound h
sound_unmarked h bytes is none = subst IsSound (sym is) (λ marked. let some : IsSome {T = marks.Mark} None = subst (λ (m : Option marks.Mark). IsSome m) none marked in absurd cc)

pub itself : (h : Held) (bytes : List ℕ) → h ≡ Bytes bytes → mark_of bytes ≡ None → represented h ≡ Bytes bytes
itself h bytes is none = ap represented is ∙ ap (λ (b : List ℕ). Bytes b) (unmarked_itself bytes none)

-- a file that begins with a zero, or has no bytes
zero_begins : (file rest : List ℕ) → slice_index file 0 ≡ 0 → begins_with file (82 ∷ rest) ≡ false
zero_begins [] rest zeroed = refl
zero_begins (x ∷ file) rest zeroed = subst (λ (y : ℕ). begins_with (y ∷ file) (82 ∷ rest) ≡ false) (sym zeroed) refl

pub zero_unmarked : (bytes : List ℕ) → slice_index bytes 0 ≡ 0 → mark_of bytes ≡ None
zero_unmarked bytes zeroed = grind (arith, common_steps, zero_begins, is_plain)

-- ---- databases

-- the first four bytes
four : (bytes : List ℕ) (i : ℕ) → i < 4 → take 4 bytes ≡ 82 ∷ 82 ∷ 68 ∷ 73 ∷ [] → slice_index bytes i ≡ slice_index database_mark i
four bytes i low same = sym (get_or-take 4 bytes i 0 low) ∙ ap (λ (b : List ℕ). slice_index b i) same

pub file_database : Laws → (bytes : List ℕ) (d : Stored) → IsFile bytes d → IsDatabase bytes
file_database laws bytes d file =
    let begins = laws.begins bytes d file in
    grind (arith, four)

pub any_database : Laws → (bytes : List ℕ) → IsAnyFile bytes → IsDatabase bytes
any_database laws bytes (d, file) = file_database laws bytes d file

pub any_enough : Laws → (bytes : List ℕ) → IsAnyFile bytes → 16 ≤ length bytes
any_enough laws bytes any = (any_database laws bytes any).enough

pub whole_end : Laws → (bytes : List ℕ) → IsAnyFile bytes → IsWhole file_end bytes
whole_end laws bytes (d, file) = record { is = file_database laws bytes d file; ends = laws.ends bytes d file }

pub stands_for : Laws → (now bytes : List ℕ) → IsAnyFile now → Represents now bytes → settled file_end bytes ≡ now
stands_for laws now bytes any represents = laws.stands now bytes (whole_end laws now any) represents

-- a database that a file without a mark stands for is the file
pub unmarked_is : Laws → (now bytes : List ℕ) → IsAnyFile now → Represents now bytes → mark_of bytes ≡ None → bytes ≡ now
unmarked_is laws now bytes any represents none = sym (unmarked_itself bytes none) ∙ stands_for laws now bytes any represents

pub sound_standing : (h : Held) (now : List ℕ) → IsAnyFile now → h ≡ Bytes (bytes_of h) → Represents now (bytes_of h) → IsSound h
sound_standing h now any there represents = subst IsSound (sym there) (λ marked. (now, record { is = any; represents = represents }))

pub represented_standing : Laws → (h : Held) (now : List ℕ) → IsAnyFile now → h ≡ Bytes (bytes_of h) → Represents now (bytes_of h) → represented h ≡ Bytes now
represented_standing laws h now any there represents = ap represented there ∙ ap (λ (b : List ℕ). Bytes b) (stands_for laws now (bytes_of h) any represents)

-- ---- what is known of the file

kept_represents : (now bytes : List ℕ) (log : Option Log) → IsKept now log (alone bytes) → Represents now bytes
kept_represents now bytes None is = inr (inl (cut_under now bytes is.is is.world.held))
kept_represents now bytes (Some log) is = (log_stands_all now log (alone bytes) is).held

pub stopped_represents : (end : LogEnd) (old new : List ℕ) (w : views.World) → IsStopped end old new w → RepresentsEither old new w.held
stopped_represents end old new w (inl left) = inl (left_represents end new old w left)
stopped_represents end old new w (inr left) = inr (left_represents end old new w left)

pub represents_left : (now bytes : List ℕ) → IsDatabase now → Represents now bytes → IsLeft Whole now now (alone bytes)
represents_left now bytes is represents = alone_left now (alone bytes) is represents (record { leave = λ c may. absurd may; keep = λ c may. absurd may })

pub found_represents : (found : Found) (now bytes : List ℕ) → IsFoundAs found now (alone bytes) → Represents now bytes
found_represents NotFound now bytes is = absurd is
found_represents (Open base) now bytes is = inl is.1.world.held
found_represents (Kept base log) now bytes is = kept_represents now bytes log is.1
found_represents _ now bytes is = left_represents is.end is.other now (alone bytes) is.left

stays_sound : (found : Found) (h : Held) → StaysAs found h → IsSound h
stays_sound found h is = sound_standing h is.now is.file is.there (found_represents found is.now (bytes_of h) is.state)

pub sound_as : (found : Found) (h : Held) → IsSoundAs found h → IsSound h
sound_as NotFound h is = subst IsSound (sym is) tt
sound_as (Open base) h is = stays_sound (Open base) h is
sound_as (Kept base log) h is = stays_sound (Kept base log) h is
sound_as _ h is = is

-- a file of which all is known that is asked
pub sound_found : (found : Found) (now : List ℕ) (h : Held) → IsAnyFile now → h ≡ Bytes (bytes_of h) → IsFoundAs found now (alone (bytes_of h)) → IsSoundAs found h
sound_found Unopened now h any there is = sound_standing h now any there (found_represents Unopened now (bytes_of h) is)
sound_found NotFound now h any there is = absurd is
sound_found (Unwritable error) now h any there is = sound_standing h now any there (found_represents (Unwritable error) now (bytes_of h) is)
sound_found _ now h any there is = record { now = now; file = any; there = there; state = is }

-- a database in a file of which the disk is not asked for
pub rests_alone : (bytes : List ℕ) → IsDatabase bytes → IsAtRest bytes (alone bytes)
rests_alone bytes is = record { is = is; world = record { held = refl; leave = λ c may. absurd may; keep = λ c may. absurd may } }

pub began_at : Laws → (base : Base) (bytes : List ℕ) → IsAnyFile bytes → base.length ≡ length bytes → base.first ≡ take 16 bytes → Began base bytes
began_at laws base bytes any len first = record { is = any_database laws bytes any; length = len; first = first }

-- a file that is a database, and begins so
pub found_open : Laws → (base : Base) (h : Held) → h ≡ Bytes (bytes_of h) → IsAnyFile (bytes_of h) → base.length ≡ length (bytes_of h) → base.first ≡ take 16 (bytes_of h) → StaysAs (Open base) h
found_open laws base h there any len first = grind (arith, began_at, rests_alone, any_database)

-- ---- results

pub if_ok_at : {T E : Type 0} (P : T → Type 0) (r : Result T E) (x : T) → r ≡ Ok x → IfOk r P → P x
if_ok_at {T} {E} P r x is each = subst (λ (q : Result T E). IfOk q P) is each

-- what the result of opening the file says
pub says_at : {F E : Type 0} (r : Result (Entry F) E) (entry : Entry F) (events : List Event) → r ≡ Ok entry → IfOk r (λ e. SaysEntry e events) → SaysEntry entry events
says_at {F} {E} r entry events is says = subst (λ (q : Result (Entry F) E). IfOk q (λ e. SaysEntry e events)) is says

-- ---- loading

pub told_unmarked : (is : Bool) (o : Option marks.Mark) → IsTrue is ↔ IsSome o → is ≡ false → o ≡ None
told_unmarked is None told denied = refl
told_unmarked is (Some mark) told denied = absurd (false≢true (sym denied ∙ told.1 refl))

-- the file stays, and its database is found
pub loaded_same : (found : Found) (result : Result (Option Stored) TaskFault) (old new : Held) → new ≡ old → IsSoundAs found new
    → Finds (Some (represented old)) result → IsLoaded found result old new
loaded_same found result old new same sound finds = record { sound = sound; same = ap represented same; finds = finds }

-- a result that is so of any bytes
pub finds_there : (result : Result (Option Stored) TaskFault) (h : Held) → h ≡ Bytes (bytes_of h)
    → ((bytes : List ℕ) → Finds (Some (Bytes bytes)) result) → Finds (Some (represented h)) result
finds_there result h is each = subst (λ (k : Held). Finds (Some (represented k)) result) (sym is) (each (settled file_end (bytes_of h)))

-- the file could not be opened
pub finds_closed : (fault : TaskFault) (held : Option Held) → fault ≡ CannotOpen → Finds held (Err fault)
finds_closed fault held is = subst (λ (f : TaskFault). Finds held (Err f)) (sym is) tt

-- what is so of the file before is so of a file that represents the same
pub loaded_from : (found : Found) (result : Result (Option Stored) TaskFault) (old mid new : Held) → represented mid ≡ represented old → IsLoaded found result mid new → IsLoaded found result old new
loaded_from found result old mid new same is = grind arith

-- ---- repairing

-- a file that a change has left, and its mark
pub marked_for : Laws → (now : List ℕ) (mark : Mark) (bytes : List ℕ) → StandFor now bytes → IsMarkOf mark bytes → IsFound Whole now now mark (alone bytes)
marked_for laws now mark bytes stand is = grind (arith, any_database laws now stand.is, represents_left now bytes (any_database laws now stand.is) stand.represents)

pub stand_sound : (h : Held) → IsSound h → h ≡ Bytes (bytes_of h) → IsSome (mark_of (bytes_of h)) → (now : List ℕ) × StandFor now (bytes_of h)
stand_sound Missing sound is marked = absurd cc
stand_sound (Bytes bytes) sound is marked = sound marked

-- ---- replacing

-- a database that differs within spans differs within the same spans
pub agrees_in : (changed : List FileSpan) (spans : List Span) (old new : List ℕ) → AreOf (length new) changed spans → file.AgreesOutside changed old new → AgreesOutside spans old new
agrees_in changed spans old new are agrees = grind arith

-- a change that failed: the file stands for the one database or for the other
pub left_broken : Laws → (left : Found) (now bytes : List ℕ) (old new : Held) → IsAnyFile now → IsAnyFile bytes → left ≡ Unopened
    → represented old ≡ Bytes now → new ≡ Bytes (bytes_of new) → RepresentsEither now bytes (bytes_of new)
    → IsSoundAs left new × IsAfterFailure (Some (represented old)) (Some (represented new)) bytes
left_broken laws left now bytes old new was any closed is there (inl stands) = grind (arith, sound_standing new now was there stands, represented_standing laws new now was there stands)
left_broken laws left now bytes old new was any closed is there (inr stands) = grind (arith, sound_standing new bytes any there stands, represented_standing laws new bytes any there stands)

-- a change that ended well, or failed
pub written_from : {E : Type 0} → Laws → (found left : Found) (changed : List FileSpan) (spans : List Span) (bytes : List ℕ) (result : Result (Unit {0}) E) (syncs : Syncs) (old new : List Event)
    → IsAnyFile bytes → AreOf (length bytes) changed spans → OnErr result (left ≡ Unopened)
    → Does (λ x. Changes found left spans bytes) (Breaks found spans bytes) result (seen syncs (view_of old)) (seen syncs (view_of new))
    → (s : World) → IsTrue (is_honest_after s new) → StaysAs found (held_after s old) → MayDiffer changed (represented (held_after s old)) bytes
    → IsSoundAs left (held_after s new) × IsWritten result bytes (held_after s old) (held_after s new)
written_from laws found left changed spans bytes (Ok x) syncs old new any are failed does s honest is differs =
    let was = represented_standing laws (held_after s old) is.now is.file is.there (found_represents found is.now (bytes_after s old) is.state) in
    let there = stays_open old new (steps_falls syncs (Changes found left spans bytes) old new does) s honest is.there in
    let state = each_alone syncs (Changes found left spans bytes) old new does s honest is.now is.file (agrees_in changed spans is.now bytes are (differs is.now was is.file)) is.state in (
      sound_found left bytes (held_after s new) any there state,
      represented_standing laws (held_after s new) bytes any there (found_represents left bytes (bytes_after s new) state),
    )
written_from laws found left changed spans bytes (Err e) syncs old new any are failed does s honest is differs =
    let was = represented_standing laws (held_after s old) is.now is.file is.there (found_represents found is.now (bytes_after s old) is.state) in
    let there = stays_open old new (steps_falls syncs (Breaks found spans bytes) old new does) s honest is.there in
    let broken = each_alone syncs (Breaks found spans bytes) old new does s honest is.now is.file (agrees_in changed spans is.now bytes are (differs is.now was is.file)) is.state in
    left_broken laws left is.now bytes (held_after s old) (held_after s new) is.file any failed was there (stopped_represents broken.0 is.now bytes (alone (bytes_after s new)) broken.1)

-- a file that has a database is there
pub there_file : Laws → (h : Held) (d : Stored) → IsFile (bytes_of h) d → h ≡ Bytes (bytes_of h)
there_file laws Missing d file = absurd (omega (arith, (laws.begins [] d file).0))
there_file laws (Bytes bytes) d file = refl

-- ---- by the state in which the file was found

pub sound_at : (found is : Found) (h : Held) → found ≡ is → IsSoundAs found h → IsSoundAs is h
sound_at found is h same sound = subst (λ (f : Found). IsSoundAs f h) same sound

pub whole_may_differ : (bytes : List ℕ) (h : Held) → MayDiffer (record { start = 0; end = length bytes } ∷ []) h bytes
whole_may_differ bytes h = λ now is any. all_agree now bytes

-- a file that was found open is there
pub found_there : (found : Found) (h : Held) → IsOpen found → IsSoundAs found h → h ≡ Bytes (bytes_of h)
found_there (Open base) h is sound = sound.there
found_there (Kept base log) h is sound = sound.there
found_there _ h is sound = absurd is
