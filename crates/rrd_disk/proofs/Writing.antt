-- What the steps of replacing the database of a file that was not found open do to one file.
use Rattle.rrd_disk.proofs.Names.{◌≡◌, ◌⊎◌, [], ◌∷◌, ℕ, List, Option, Some, None, Result, Ok, Err, IsErr, IsTrue, length, take, slice_index, refl, sym, ◌∙◌, ap, subst, inl, inr, arith, lit<, false≢true, IsSized, IsSizedOrNot, IsEmpty, IsUnmade, IsStopped, Whole, mark_of, AgreesOutside, Began, IsAtRest, IsDatabase, All, Effect, Fails, Steps, Stores, seen, Syncs, Base, Bytes, HasNone, Held, IsAfterFailure, IsAnyFile, IsNoFile, Missing, view_of, Falls, IsSound, represented, Event, IsThere, World, bytes_after, bytes_of, held_after, is_honest_after, IsPrepared, IsSoundAs, IsWritten, Laws, Prepares, StaysAs, WritesAll, WritesFirst, WritesOver, alone, Found, Unopened, Open, common_steps}
use Rattle.rrd_disk.proofs.Storing.{any_database, began_at, database_unmarked, each_alone, file_database, itself, left_broken, represented_standing, sound_found, sound_unmarked, stays_open, steps_falls, stopped_represents, zero_unmarked}

-- ---- what a file represents, nearly

-- as before; or there was no database, and is none
abbrev pub IsNearly : Held → Held → Type 0
IsNearly old new = (represented new ≡ represented old)
    ⊎ (HasNone (represented old) × (bytes : List ℕ) × (represented new ≡ Bytes bytes) × IsNoFile bytes)

pub near_twice : (old mid new : Held) → IsNearly old mid → IsNearly mid new → IsNearly old new
near_twice old mid new (inl first) (inl second) = inl (second ∙ first)
near_twice old mid new (inl first) (inr (none, bytes, is, denied)) = inr (subst HasNone first none, bytes, is, denied)
near_twice old mid new (inr (none, bytes, is, denied)) (inl second) = inr (none, bytes, second ∙ is, denied)
near_twice old mid new (inr (none, first_bytes, first_is, first_no)) (inr (mid_none, bytes, is, denied)) = inr (none, bytes, is, denied)

pub after_near : (bytes : List ℕ) (old new : Held) → IsNearly old new → IsAfterFailure (Some (represented old)) (Some (represented new)) bytes
after_near bytes old new (inl same) = inl same
after_near bytes old new (inr (none, left, is, denied)) = inr (inr (none, left, ap (λ (h : Held). Some h) is, denied))

-- a failure after a step that left nearly the same
pub near_failure : (bytes : List ℕ) (old mid new : Held) → IsNearly old mid → IsAfterFailure (Some (represented mid)) (Some (represented new)) bytes → IsAfterFailure (Some (represented old)) (Some (represented new)) bytes
near_failure bytes old mid new near (inl same) = after_near bytes old new (near_twice old mid new near (inl same))
near_failure bytes old mid new near (inr (inl is)) = inr (inl is)
near_failure bytes old mid new (inl was) (inr (inr (none, left, is, denied))) = inr (inr (subst HasNone was none, left, is, denied))
near_failure bytes old mid new (inr (none, first, first_is, first_no)) (inr (inr (mid_none, left, is, denied))) = inr (inr (none, left, is, denied))

pub near_written : {E : Type 0} (result : Result (Unit {0}) E) (bytes : List ℕ) (old mid new : Held) → IsNearly old mid → IsWritten result bytes mid new → IsWritten result bytes old new
near_written (Ok x) bytes old mid new near is = is
near_written (Err e) bytes old mid new near is = near_failure bytes old mid new near is

-- the file was not written
pub unwritten : {E : Type 0} (result : Result (Unit {0}) E) (bytes : List ℕ) (old new : Held) → IsErr result → IsNearly old new → IsWritten result bytes old new
unwritten (Ok x) bytes old new failed near = absurd (false≢true failed)
unwritten (Err e) bytes old new failed near = after_near bytes old new near

-- ---- a file that is made

-- a file that was made, if there was none
abbrev pub IsMade : Held → Held → Type 0
IsMade old new = (new ≡ old) ⊎ ((old ≡ Missing) × (new ≡ Bytes []))

none_empty : Laws → IsNoFile []
none_empty laws d file = absurd (omega (arith, (laws.begins [] d file).0))

pub made_near : Laws → (old new : Held) → IsMade old new → IsNearly old new
made_near laws old new (inl same) = inl (ap represented same)
made_near laws old new (inr (missing, empty)) = inr (
  subst HasNone (sym (ap represented missing)) tt,
  [],
  itself new [] empty (zero_unmarked [] refl),
  none_empty laws,
)

pub made_sound : (old new : Held) → IsMade old new → IsSound old → IsSound new
made_sound old new (inl same) sound = subst IsSound (sym same) sound
made_sound old new (inr (missing, empty)) sound = sound_unmarked new [] empty (zero_unmarked [] refl)

-- ---- a file that is emptied, and written

pub zero_database : (bytes : List ℕ) → slice_index bytes 0 ≡ 0 → IsDatabase bytes → ⊥
zero_database bytes zeroed is = let first : slice_index bytes 0 ≡ 82 = is.begins.each 0 (lit< tt) in absurd (omega (arith, zeroed, first))

pub database_none : Laws → (bytes : List ℕ) → IsAnyFile bytes → mark_of bytes ≡ None
database_none laws bytes any = database_unmarked bytes (any_database laws bytes any)

-- the file has no database, and no mark
pub zero_near : Laws → (old new : Held) → HasNone (represented old) → new ≡ Bytes (bytes_of new) → slice_index (bytes_of new) 0 ≡ 0 → IsSound new × IsNearly old new
zero_near laws old new none there zeroed =
    let unmarked = zero_unmarked (bytes_of new) zeroed in (
      sound_unmarked new (bytes_of new) there unmarked,
      inr (none, bytes_of new, itself new (bytes_of new) there unmarked, λ d file. zero_database (bytes_of new) zeroed (file_database laws (bytes_of new) d file)),
    )

pub emptied : (bytes : List ℕ) → length bytes ≡ 0 → bytes ≡ []
emptied [] none = refl
emptied (x ∷ bytes) none = absurd (omega (arith, none))

-- the new database was written to an empty file
abbrev pub Creates : List ℕ → Effect
Creates bytes w v = IsEmpty w → IsAtRest bytes v

abbrev pub FailsToCreate : List ℕ → Effect
FailsToCreate bytes w v = IsEmpty w → All (IsUnmade bytes) v

alone_empty : (bytes : List ℕ) → bytes ≡ [] → IsEmpty (alone bytes)
alone_empty bytes is = record { held = is; leave = λ c may. absurd may; keep = λ c may. absurd may }

pub created : Laws → (syncs : Syncs) (base : Base) (bytes : List ℕ) (old mid new : List Event) → IsAnyFile bytes → base.length ≡ length bytes → base.first ≡ take 16 bytes
    → Steps (Creates bytes) (seen syncs (view_of mid)) (seen syncs (view_of new))
    → (s : World) → IsTrue (is_honest_after s new) → held_after s mid ≡ Bytes []
    → IsSoundAs (Open base) (held_after s new) × (represented (held_after s new) ≡ Bytes bytes)
created laws syncs base bytes old mid new any len first steps s honest empty =
    let rest = each_alone syncs (Creates bytes) mid new steps s honest (alone_empty (bytes_after s mid) (ap bytes_of empty)) in
    let there = stays_open mid new (steps_falls syncs (Creates bytes) mid new steps) s honest (empty ∙ ap (λ (h : Held). Bytes (bytes_of h)) (sym empty)) in (
      sound_found (Open base) bytes (held_after s new) any there (began_at laws base bytes any len first, rest),
      represented_standing laws (held_after s new) bytes any there (inl rest.world.held),
    )

unmade_after : Laws → (bytes : List ℕ) (old new : Held) → IsAnyFile bytes → HasNone (represented old) → new ≡ Bytes (bytes_of new) → IsUnmade bytes (bytes_of new)
    → IsSound new × IsAfterFailure (Some (represented old)) (Some (represented new)) bytes
unmade_after laws bytes old new any none there (inl zeroed) =
    let both = zero_near laws old new none there zeroed in (both.0, after_near bytes old new both.1)
unmade_after laws bytes old new any none there (inr is) =
    let unmarked : mark_of (bytes_of new) ≡ None = ap mark_of is ∙ database_none laws bytes any in (
      sound_unmarked new (bytes_of new) there unmarked,
      inr (inl (ap (λ (h : Held). Some h) (itself new (bytes_of new) there unmarked ∙ ap (λ (b : List ℕ). Bytes b) is))),
    )

pub uncreated : Laws → (syncs : Syncs) (bytes : List ℕ) (old mid new : List Event) → IsAnyFile bytes
    → Steps (FailsToCreate bytes) (seen syncs (view_of mid)) (seen syncs (view_of new))
    → (s : World) → IsTrue (is_honest_after s new) → HasNone (represented (held_after s old)) → held_after s mid ≡ Bytes []
    → IsSound (held_after s new) × IsAfterFailure (Some (represented (held_after s old))) (Some (represented (held_after s new))) bytes
uncreated laws syncs bytes old mid new any steps s honest none empty =
    let all = each_alone syncs (FailsToCreate bytes) mid new steps s honest (alone_empty (bytes_after s mid) (ap bytes_of empty)) in
    let there = stays_open mid new (steps_falls syncs (FailsToCreate bytes) mid new steps) s honest (empty ∙ ap (λ (h : Held). Bytes (bytes_of h)) (sym empty)) in
    unmade_after laws bytes (held_after s old) (held_after s new) any none there all.held

pub failed_written : {E : Type 0} (result : Result (Unit {0}) E) (bytes : List ℕ) (old new : Held) → IsErr result → IsAfterFailure (Some (represented old)) (Some (represented new)) bytes → IsWritten result bytes old new
failed_written (Ok x) bytes old new failed is = absurd (false≢true failed)
failed_written (Err e) bytes old new failed is = is

-- a file that is not there represents nothing
pub missing_none : (h : Held) → h ≡ Missing → HasNone (represented h)
missing_none h none = subst (λ (k : Held). HasNone (represented k)) (sym none) tt

pub missing_sound : (h : Held) → h ≡ Missing → IsSound h
missing_sound h none = subst IsSound (sym none) tt

-- a file that was not found open
pub closed_sound : (found : Found) (h : Held) → found ≡ Unopened → IsSound h → IsSoundAs found h
closed_sound found h is sound = subst (λ (f : Found). IsSoundAs f h) (sym is) sound

-- ---- a file that is truncated to no bytes

abbrev pub Truncates : Effect
Truncates w v = Stores (IsSized 0) w v

abbrev pub FailsToTruncate : Effect
FailsToTruncate w v = Fails (IsSizedOrNot 0) (IsSizedOrNot 0) w v

pub truncated : (syncs : Syncs) (mid new : List Event) → Steps Truncates (seen syncs (view_of mid)) (seen syncs (view_of new))
    → (s : World) → IsTrue (is_honest_after s new) → held_after s mid ≡ Bytes (bytes_after s mid) → held_after s new ≡ Bytes []
truncated syncs mid new steps s honest there = grind (arith, common_steps, each_alone, stays_open, steps_falls, emptied)

untruncated_by : Laws → (mid new : Held) → HasNone (represented mid) → IsSound mid → mid ≡ Bytes (bytes_of mid) → new ≡ Bytes (bytes_of new) → IsSizedOrNot 0 (bytes_of mid) (bytes_of new) → IsSound new × IsNearly mid new
untruncated_by laws mid new none sound there stays (inl same) = grind arith
untruncated_by laws mid new none sound there stays (inr sized) =
    zero_near laws mid new none stays (ap (λ (b : List ℕ). slice_index b 0) (emptied (bytes_of new) sized.len))

pub untruncated : Laws → (syncs : Syncs) (mid new : List Event) → Steps FailsToTruncate (seen syncs (view_of mid)) (seen syncs (view_of new))
    → (s : World) → IsTrue (is_honest_after s new) → HasNone (represented (held_after s mid)) → IsSound (held_after s mid) → held_after s mid ≡ Bytes (bytes_after s mid)
    → IsSound (held_after s new) × IsNearly (held_after s mid) (held_after s new)
untruncated laws syncs mid new steps s honest none sound there =
    untruncated_by laws (held_after s mid) (held_after s new) none sound there (stays_open mid new (steps_falls syncs FailsToTruncate mid new steps) s honest there)
    (each_alone syncs FailsToTruncate mid new steps s honest).held

-- ---- all bytes are replaced

abbrev pub Replaces : Base → List ℕ → Effect
Replaces base bytes w v = (old : List ℕ) → Began base old → AgreesOutside (record { start = 0; end = length bytes } ∷ []) old bytes → IsAtRest old w → IsAtRest bytes v

abbrev pub FailsToReplace : Base → List ℕ → Effect
FailsToReplace base bytes w v = (old : List ℕ) → Began base old → AgreesOutside (record { start = 0; end = length bytes } ∷ []) old bytes → IsAtRest old w → IsStopped Whole old bytes v

all_agrees : (old new : List ℕ) → AgreesOutside (record { start = 0; end = length new } ∷ []) old new
all_agrees old new = record { each = λ k low. inl (inl (omega arith, low)) }

module _ (laws : Laws) (syncs : Syncs) (base : Base) (bytes : List ℕ) (any : IsAnyFile bytes) (mid new : List Event) (s : World) (honest : IsTrue (is_honest_after s new)) (is : StaysAs (Open base) (held_after s mid)) where
  pub replaced : (next : Base) → next.length ≡ length bytes → next.first ≡ take 16 bytes → Steps (Replaces base bytes) (seen syncs (view_of mid)) (seen syncs (view_of new))
      → IsSoundAs (Open next) (held_after s new) × (represented (held_after s new) ≡ Bytes bytes)
  replaced next len first steps =
      let rest = each_alone syncs (Replaces base bytes) mid new steps s honest is.now is.state.0 (all_agrees is.now bytes) is.state.1 in
      let there = stays_open mid new (steps_falls syncs (Replaces base bytes) mid new steps) s honest is.there in (
        sound_found (Open next) bytes (held_after s new) any there (began_at laws next bytes any len first, rest),
        represented_standing laws (held_after s new) bytes any there (inl rest.world.held),
      )

  pub unreplaced : Steps (FailsToReplace base bytes) (seen syncs (view_of mid)) (seen syncs (view_of new))
      → IsSound (held_after s new) × IsAfterFailure (Some (represented (held_after s mid))) (Some (represented (held_after s new))) bytes
  unreplaced steps =
      let stopped = each_alone syncs (FailsToReplace base bytes) mid new steps s honest is.now is.state.0 (all_agrees is.now bytes) is.state.1 in
      let there = stays_open mid new (steps_falls syncs (FailsToReplace base bytes) mid new steps) s honest is.there in
      let was = represented_standing laws (held_after s mid) is.now is.file is.there (inl is.state.1.world.held) in
      left_broken laws Unopened is.now bytes (held_after s mid) (held_after s new) is.file any refl was there (stopped_represents Whole is.now bytes (alone (bytes_after s new)) stopped)

-- ---- a file that is made and prepared, and then written

module _ (laws : Laws) (left : Found) (bytes : List ℕ) (old made : List Event) (same : (s : World) → IsMade (held_after s old) (held_after s made)) (there : IsThere made) where
  module _ (mid new : List Event) (prepared : Falls made mid) (falls : Falls mid new) where
    pub written_over : {E F : Type 0} (result : Result (Unit {0}) E) (ready : Result (Option Base) F) (base : Base) → ready ≡ Ok (Some base) → Prepares made mid ready
        → WritesOver base left bytes mid new result → WritesAll Unopened left bytes old new result
    written_over {E} {F} result ready base is_ready prepares writes = λ s honest sound.
        let before = falls s honest in
        let prepared_so = prepares s before (made_sound (held_after s old) (held_after s made) (same s) sound) (there s (prepared s before)) in
        let is = subst (λ (r : Result (Option Base) F). IsPrepared r (held_after s made) (held_after s mid)) is_ready prepared_so in
        let done = writes s honest is.1 in
        let near = near_twice (held_after s old) (held_after s made) (held_after s mid) (made_near laws (held_after s old) (held_after s made) (same s)) (inl is.0) in
        (done.0, near_written result bytes (held_after s old) (held_after s mid) (held_after s new) near done.1)

    pub written_first : {E F : Type 0} (result : Result (Unit {0}) E) (ready : Result (Option Base) F) → ready ≡ Ok None → Prepares made mid ready
        → WritesFirst left bytes mid new result → WritesAll Unopened left bytes old new result
    written_first {E} {F} result ready is_ready prepares writes = λ s honest sound.
        let before = falls s honest in
        let was = made_sound (held_after s old) (held_after s made) (same s) sound in
        let is_there = there s (prepared s before) in
        let is = subst (λ (r : Result (Option Base) F). IsPrepared r (held_after s made) (held_after s mid)) is_ready (prepares s before was is_there) in
        let done = writes s honest (subst IsSound (sym is.0) was) (subst (λ (h : Held). HasNone (represented h)) (sym is.0) is.1) (is.0 ∙ is_there ∙ ap (λ (h : Held). Bytes (bytes_of h)) (sym is.0)) in
        let near = near_twice (held_after s old) (held_after s made) (held_after s mid) (made_near laws (held_after s old) (held_after s made) (same s)) (inl (ap represented is.0)) in
        (done.0, near_written result bytes (held_after s old) (held_after s mid) (held_after s new) near done.1)

  -- the file was not prepared
  pub unprepared_write : {E : Type 0} (error : E) (new : List Event) → Falls made new → left ≡ Unopened
      → ((s : World) → IsTrue (is_honest_after s new) → IsSound (held_after s made) → held_after s made ≡ Bytes (bytes_after s made) → IsSound (held_after s new) × (represented (held_after s new) ≡ represented (held_after s made)))
      → WritesAll Unopened left bytes old new (Err error)
  unprepared_write error new falls closed ready = λ s honest sound.
      let is = ready s honest (made_sound (held_after s old) (held_after s made) (same s) sound) (there s (falls s honest)) in (
        closed_sound left (held_after s new) closed is.0,
        after_near bytes (held_after s old) (held_after s new) (near_twice (held_after s old) (held_after s made) (held_after s new) (made_near laws (held_after s old) (held_after s made) (same s)) (inl is.1)),
      )
