-- A failure of the power after any call of a change, or in the next one.
use Rattle.rrd_disk.proofs.Names.{left_represents, alone_left, ◌≡◌, ◌⊎◌, ◌∙◌, ℕ, ◌<◌, ◌≤◌, Bool, IsTrue, List, [], ◌∷◌, ◌++◌, length, Result, Ok, Err, OnOk, inl, inr, refl, sym, ap, subst, arith, and_parts, true≢false, IsLogged, AllStandAsTold, IsEither, IsLeft, IsStopped, LogEnd, Whole, settled, IsAtRest, IsDatabase, Represents, Tells, Stays, Syncs, Ordered, broken_stand, left_told, file_end, Held, Missing, Bytes, IsAnyFile, Event, Put, PutFailed, Sized, SizeFailed, Synced, SyncFailed, are_failed, interrupted, is_failed, moved, world_after, world_before, World, bytes_after, bytes_of, failures, held_after, is_honest_after, is_there, part_after, Laws, Becomes, BecomesOrNot, DoesOr, IsChange, IsChanged, Survives, SurvivesFailure, SurvivesPower, found_after, common_steps}
use Rattle.rrd_disk.proofs.Asked.{bytes_there, stays_there}
use Rattle.rrd_disk.proofs.Kills.{counted_same, cut, cut_held, cut_honest, is_counted, interrupted_as, missed_held, missed_honest, no_part_after, nothing_laid}
use Rattle.rrd_disk.proofs.Parts.{torn_none}
use Rattle.rrd_disk.proofs.Resting.{held_is}
use Rattle.rrd_disk.proofs.Storing.{any_database, whole_end}
use Rattle.rrd_change.specs.Views as views

-- ---- what survives in a world survives in one of which the disk may have less

module _ (u v : views.World) (same : Stays u v) where
  pub stays_rest : (now : List ℕ) → IsAtRest now u → IsAtRest now v
  stays_rest now rest = grind (arith, common_steps)

  pub stays_left : (end : LogEnd) (other now : List ℕ) → IsLeft end other now u → IsLeft end other now v
  stays_left end other now (inl rest) = inl (stays_rest now rest)
  stays_left end other now (inr (inl left)) = grind (arith, common_steps)
  stays_left end other now (inr (inr log)) =
      inr (inr (record {
        old = log.old;
        tail = log.tail;
        changes = log.changes;
        leads = log.leads;
        fill = log.fill;
        world = record {
          held = subst (IsLogged log.old log.tail log.changes) (sym same.held) log.world.held;
          leave = λ c may. log.world.leave c (same.leave c may);
          keep = λ c may. log.world.keep c (same.keep c may);
        };
      }))

  module _ (P : List ℕ → Type 0) where
    stays_told : AllStandAsTold file_end P u → AllStandAsTold file_end P v
    stays_told all = grind (arith, common_steps)

    pub stays_surviving : SurvivesPower P u → SurvivesPower P v
    stays_surviving power =
        let s = power.survives in
        record {
          survives = record { now = s.now; other = s.other; is = s.is; was = s.was; holds = s.holds; held = s.held; end = s.end; left = stays_left s.end s.other s.now s.left };
          stand = stays_told power.stand;
        }

-- ---- the calls after a failure of the power

-- the disk may have as much, or more
pub record Wider (u v : views.World) : Type 0 where
  pub leave : (c : List ℕ) → u.may_leave c → v.may_leave c
  pub keep : (c : List ℕ) → u.may_keep c → v.may_keep c

-- one more call, in which the same is left
module _ (x y : List ℕ) (p q : ℕ) (u v : views.World) (wide : Wider u v) where
  wider_then : (e : Event) → (IsTrue (is_counted e) → p ≡ q) → Wider (moved x p e u) (moved y q e v)
  wider_then (Put at bytes taken) part = grind (arith, common_steps)
  wider_then (PutFailed at bytes) part = grind (arith, common_steps)
  wider_then (Sized count) part = grind (arith, common_steps)
  wider_then (SizeFailed count) part = grind (arith, common_steps)
  wider_then Synced part = record { leave = wide.keep; keep = wide.keep }
  wider_then SyncFailed part = grind (arith, common_steps)
  wider_then _ part = record { leave = wide.leave; keep = wide.keep }

-- a call that failed may have left nothing
module _ (x : List ℕ) (u : views.World) where
  wider_failed : (e : Event) (k : ℕ) → k ≡ 0 → IsTrue (is_failed e) → Wider u (moved x k e u)
  wider_failed (PutFailed at bytes) k none is = grind (arith, common_steps, torn_none, nothing_laid)
  wider_failed (SizeFailed count) k none is = grind (arith, common_steps)
  wider_failed SyncFailed k none is = record { leave = λ c may. may; keep = λ c may. inl may }
  wider_failed _ k none is = absurd (true≢false (sym is))

pub wider_twice : (u v w : views.World) → Wider u v → Wider v w → Wider u w
wider_twice u v w first second = record { leave = λ c may. second.leave c (first.leave c may); keep = λ c may. second.keep c (first.keep c may) }

module _ (d : List ℕ) (w : World) (m : ℕ) where
  pub wider_cut : (events : List Event) → failures events ≤ m → Wider (world_after d w events) (world_after d (cut w m) events)
  wider_cut [] few = record { leave = λ c may. may; keep = λ c may. may }
  wider_cut (e ∷ earlier) few =
      let grow = counted_same w m e earlier few in
      wider_then (bytes_after w (e ∷ earlier)) (bytes_after (cut w m) (e ∷ earlier)) (part_after w earlier) (part_after (cut w m) earlier)
      (world_after d w earlier) (world_after d (cut w m) earlier) (wider_cut earlier grow.0) e grow.1

  module _ (events : List Event) (all : failures events ≡ m) where
    pub wider_missed : (missed : List Event) → IsTrue (are_failed missed) → Wider (world_after d (cut w m) events) (world_after d (cut w m) (missed ++ events))
    wider_missed [] are = record { leave = λ c may. may; keep = λ c may. may }
    wider_missed (e ∷ more) are =
        let both = and_parts (is_failed e) (are_failed more) are in
        let world = world_after d (cut w m) (more ++ events) in
        wider_twice (world_after d (cut w m) events) world (world_after d (cut w m) (e ∷ (more ++ events))) (wider_missed more both.1)
        (wider_failed (bytes_after (cut w m) (e ∷ (more ++ events))) world e (part_after (cut w m) (more ++ events)) (no_part_after w m events all more) both.0)

-- ---- a change that was cut off

-- in the world in which the calls failed that were not made, the record with them is honest, and the disk may have as much or more
pub record IsCutOff (missed events : List Event) (d : List ℕ) (w : World) : Type 0 where
  pub honest : IsTrue (is_honest_after (cut w (failures events)) (missed ++ events))
  pub stays : Stays (world_after d (cut w (failures events)) (missed ++ events)) (world_after d w events)

pub cut_off : (missed events : List Event) → IsTrue (are_failed missed) → (d : List ℕ) (w : World) → IsTrue (is_honest_after w events) → held_after w events ≡ Bytes (bytes_of (held_after w events)) → IsCutOff missed events d w
cut_off missed events are d w honest there =
    let m = failures events in
    let world = cut w m in
    let same : held_after world events ≡ held_after w events = cut_held w m events (omega arith) in
    let after : held_after world (missed ++ events) ≡ held_after w events = missed_held w m events refl missed are ∙ same in
    let now = subst (λ (h : Held). h ≡ Bytes (bytes_of h)) (sym same) there in
    let before = subst (λ (b : Bool). IsTrue b) (sym (cut_honest w m events (omega arith))) honest in
    let wide = wider_twice (world_after d w events) (world_after d world events) (world_after d world (missed ++ events)) (wider_cut d w m events (omega arith)) (wider_missed d w m events refl missed are) in
    record {
      honest = missed_honest w m events refl missed are now before;
      stays = record { held = held_is d w events ∙ ap bytes_of (sym after) ∙ sym (held_is d world (missed ++ events)); leave = wide.leave; keep = wide.keep };
    }

pub long_under : (now bytes : List ℕ) → Represents now bytes → IsDatabase now → 0 < length bytes
long_under now bytes (inl same) is = let long = is.enough in omega (arith, long, ap (λ (b : List ℕ). length b) same)
long_under now bytes (inr (inl under)) is = let inside = under.marked.within in omega (arith, inside)
long_under now bytes (inr (inr log)) is = let inside = log.logged.log.marked.within in omega (arith, inside)

pub there_start : (h : Held) → 0 < length (bytes_of h) → IsTrue (is_there h)
there_start Missing some = absurd (omega (arith, some))
there_start (Bytes bytes) some = refl

module _ (laws : Laws) (bytes : List ℕ) where
  there_before : (P : List ℕ → Type 0) (d : List ℕ) (w : World) → Survives P (world_after d w []) → IsTrue (is_there w.start)
  there_before P d w s = grind (arith, common_steps, there_start, long_under, left_represents, any_database)

  pub cut_power : (missed events : List Event) → IsTrue (are_failed missed) → (d : List ℕ) (w : World) → IsTrue (is_honest_after w events) → (P : List ℕ → Type 0) → Survives P (world_after d w [])
      → (IsTrue (is_honest_after (cut w (failures events)) (missed ++ events)) → SurvivesPower P (world_after d (cut w (failures events)) (missed ++ events)))
      → SurvivesPower P (world_after d w events)
  cut_power missed events are d w honest P all change =
      let off = cut_off missed events are d w honest (bytes_there (held_after w events) (stays_there w events (there_before P d w all))) in
      stays_surviving (world_after d (cut w (failures events)) (missed ++ events)) (world_after d w events) off.stays P (change off.honest)

  cut_change : (missed events : List Event) → IsTrue (are_failed missed) → IsChange bytes (missed ++ events) → IsChange bytes events
  cut_change missed events are change d w honest P holds all =
      cut_power missed events are d w honest (λ b. IsTrue (P b)) all (λ now. change d (cut w (failures events)) now P holds all)

  -- the same in the middle of a call
  pub interrupted_change : (missed events : List Event) → IsTrue (are_failed missed) → IsChange bytes (missed ++ events) → IsChange bytes (interrupted missed ++ events)
  interrupted_change = interrupted_as (λ l. IsChange bytes l) cut_change

-- ---- a record that begins with the change

module _ (laws : Laws) (P : List ℕ → Type 0) where
  either_holds : (other now b : List ℕ) → P other → P now → IsEither other now b → P b
  either_holds other now b was is (inl same) = subst P (sym same) was
  either_holds other now b was is (inr same) = subst P (sym same) is

  -- what is left of two databases, of which P holds
  pub left_survives : (end : LogEnd) (other now : List ℕ) (v : views.World) → IsAnyFile other → IsAnyFile now → P other → P now → IsLeft end other now v → SurvivesPower P v
  left_survives end other now v was is held holds left =
      let told = broken_stand file_end other now v (whole_end laws other was) (whole_end laws now is) (left_told end other now v left) in
      record {
        survives = record { now = now; other = other; is = is; was = was; holds = holds; held = held; end = end; left = left };
        stand = record {
          held = either_holds other now (settled file_end v.held) held holds told.held;
          left = λ c may tells. either_holds other now (settled file_end c) held holds (told.left c may tells);
          later = λ c may tells. either_holds other now (settled file_end c) held holds (told.later c may tells);
        };
      }

  became : (bytes : List ℕ) (u v : views.World) → IsAnyFile bytes → P bytes → (s : Survives P u) → Becomes bytes u v → SurvivesPower P v
  became bytes u v any holds s becomes = left_survives Whole bytes bytes v any any holds holds (inl (becomes s.end s.other s.now s.is s.left))

  stopped : (last : LogEnd) (now bytes : List ℕ) (v : views.World) → IsAnyFile now → IsAnyFile bytes → P now → P bytes → IsStopped last now bytes v → SurvivesPower P v
  stopped last now bytes v is any held holds (inl left) = left_survives last bytes now v any is holds held left
  stopped last now bytes v is any held holds (inr left) = left_survives last now bytes v is any held holds left

  became_or_not : (bytes : List ℕ) (u v : views.World) → IsAnyFile bytes → P bytes → (s : Survives P u) → BecomesOrNot bytes u v → SurvivesPower P v
  became_or_not bytes u v any holds s becomes = elim (becomes s.end s.other s.now s.is s.left) as (λ _. SurvivesPower P v) [
    | inl left ↦ left_survives s.end s.other s.now v s.was s.is s.held s.holds left
    | inr (last, left) ↦ stopped last s.now bytes v s.is any s.holds holds left
  ]

abbrev Changes : {E : Type 0} → List ℕ → Result (Unit {0}) E → List Event → List Event → Type 0
Changes bytes r old new = DoesOr (λ x. Becomes bytes) (BecomesOrNot bytes) r Ordered old new

pub change_begun : {E : Type 0} → Laws → (bytes : List ℕ) (r : Result (Unit {0}) E) (old new : List Event) → IsAnyFile bytes → old ≡ [] → Changes bytes r old new → IsChange bytes new
change_begun laws bytes (Ok x) old new any begun does d w honest P holds s =
    let step = subst (λ (l : List Event). Becomes bytes (world_after d w l) (world_after d w new)) begun (does refl d w honest) in
    became laws (λ b. IsTrue (P b)) bytes (world_after d w []) (world_after d w new) any holds s step
change_begun laws bytes (Err e) old new any begun does d w honest P holds s =
    let step = subst (λ (l : List Event). BecomesOrNot bytes (world_after d w l) (world_after d w new)) begun (does refl d w honest) in
    became_or_not laws (λ b. IsTrue (P b)) bytes (world_after d w []) (world_after d w new) any holds s step

-- what survived is of no account any more
pub changed_begun : {E : Type 0} → Laws → (bytes : List ℕ) (r : Result (Unit {0}) E) (old new : List Event) → IsAnyFile bytes → old ≡ [] → Changes bytes r old new → OnOk r (IsChanged bytes new)
changed_begun laws bytes (Err e) old new any begun does = tt
changed_begun laws bytes (Ok x) old new any begun does = λ d w honest P s.
    let step = subst (λ (l : List Event). Becomes bytes (world_after d w l) (world_after d w new)) begun (does refl d w honest) in
    let rest : IsAtRest bytes (world_after d w new) = step s.end s.other s.now s.is s.left in
    left_survives laws (λ b. b ≡ bytes) Whole bytes bytes (world_after d w new) any any refl refl (inl rest)

pub changes_ordered : {E : Type 0} (bytes : List ℕ) (syncs : Syncs) (r : Result (Unit {0}) E) (old new : List Event) → syncs ≡ Ordered
    → DoesOr (λ x. Becomes bytes) (BecomesOrNot bytes) r syncs old new → Changes bytes r old new
changes_ordered bytes syncs r old new ordered does = subst (λ (y : Syncs). DoesOr (λ x. Becomes bytes) (BecomesOrNot bytes) r y old new) ordered does

-- ---- after the failure

either_same : (c x : List ℕ) → (x ≡ c) ⊎ (x ≡ c) → x ≡ c
either_same c x (inl same) = same
either_same c x (inr same) = same

pub found_survives : Laws → (P : List ℕ → Type 0) (now c : List ℕ) → IsAnyFile now → P now → Represents now c → Survives P (world_after c (found_after c) [])
found_survives laws P now c any holds represents =
    record { now = now; other = now; is = any; was = any; holds = holds; held = holds; end = Whole; left = alone_left now (world_before c c) (any_database laws now any) represents (record { leave = λ x may. either_same c x may; keep = λ x may. either_same c x may }) }

pub failure_survived : Laws → (P : List ℕ → Bool) (d : List ℕ) (w : World) (events : List Event) → SurvivesFailure P d w events
failure_survived laws P d w events s c may tells =
    let broken = left_told s.end s.other s.now (world_after d w events) s.left in
    let told : Tells (world_after d w events).held c = subst (λ (b : List ℕ). Tells b c) (sym (held_is d w events)) tells in
    elim (broken.leave c may told) as (λ _. Survives (λ b. IsTrue (P b)) (world_after c (found_after c) [])) [
      | inl was ↦ found_survives laws (λ b. IsTrue (P b)) s.other c s.was s.held was
      | inr is ↦ found_survives laws (λ b. IsTrue (P b)) s.now c s.is s.holds is
    ]
