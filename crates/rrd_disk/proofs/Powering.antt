-- What the steps of replacing a database leave for a failure of the power.
use Rattle.rrd_disk.proofs.Names.{left_represents, ◌≡◌, ℕ, List, [], ◌∷◌, Option, Some, None, Result, Ok, Err, IfNone, IfOk, IfSome, IsErr, IsTrue, length, take, slice_index, arith, lit<, sym, ◌∙◌, ap, subst, inl, inr, false≢true, database_of, IsMarkOf, IsFound, IsLeft, LogEnd, Whole, StandsAt, cut_mark, log_mark, mark_of, AgreesOutside, IsAtRest, IsDatabase, Represents, Does, Effect, Stays, Steps, seen, Syncs, Ordered, Base, IsFile, HasOneAnswer, IsAnyFile, TaskFault, view_of, Falls, KeepsHeldFor, Rests, RestsFor, StandFor, Event, IsFaultIn, IsStandingIn, is_of_bytes, world_after, World, bytes_after, bytes_of, is_honest_after, HasNoDatabase, IsBased, Laws, Becomes, BecomesOrNot, DoesOr, Readies, Replaces, ReplacesOrNot, StaysLeft, Opening, Read, Write, Make, Standing, common_steps}
use Rattle.rrd_disk.proofs.Doing.{steps_each}
use Rattle.rrd_disk.proofs.Failures.{stays_left, stays_rest}
use Rattle.rrd_disk.proofs.Loaded.{no_file}
use Rattle.rrd_disk.proofs.Repairing.{FailsToRepair, Repairs}
use Rattle.rrd_disk.proofs.Resting.{held_is}
use Rattle.rrd_disk.proofs.Storing.{any_database, unmarked_is}
use Rattle.rrd_disk.proofs.Writing.{FailsToReplace as FailsToOverwrite, Replaces as Overwrites}
use Rattle.rrd_change.specs.Views as views

-- ---- the results

pub stored : {A E : Type 0} (well : A → Effect) (badly : Effect) (r : Result A E) (syncs : Syncs) (old new : List Event)
    → Does well badly r (seen syncs (view_of old)) (seen syncs (view_of new)) → DoesOr well badly r syncs old new
stored well badly (Ok x) syncs old new does = grind (arith, common_steps, steps_each)
stored well badly (Err e) syncs old new does = grind (arith, common_steps, steps_each)

pub or_failed : {A E : Type 0} (well : A → Effect) (badly : Effect) (r : Result A E) (syncs : Syncs) (old new : List Event) → IsErr r
    → (syncs ≡ Ordered → (d : List ℕ) (w : World) → IsTrue (is_honest_after w new) → badly (world_after d w old) (world_after d w new)) → DoesOr well badly r syncs old new
or_failed well badly (Ok x) syncs old new failed does = absurd (false≢true failed)
or_failed well badly (Err e) syncs old new failed does = does

-- ---- calls that rest

opened_bytes : (opening : Opening) (old new : List Event) → KeepsHeldFor opening old new → (w : World) → bytes_after w new ≡ bytes_after w old
opened_bytes Make old new keeps w = grind arith
opened_bytes _ old new keeps w = ap bytes_of (keeps w)

pub rests_stay : (opening : Opening) (old new : List Event) → RestsFor opening old new → (d : List ℕ) (w : World) → Stays (world_after d w old) (world_after d w new)
rests_stay opening old new rests d w = grind (arith, held_is, opened_bytes)

pub rests_left : (opening : Opening) (old new : List Event) → RestsFor opening old new → (d : List ℕ) (w : World) → StaysLeft (world_after d w old) (world_after d w new)
rests_left opening old new rests d w end other now any left = stays_left (world_after d w old) (world_after d w new) (rests_stay opening old new rests d w) end other now left

-- ---- a file with a mark

stands_after : (end : LogEnd) (other now : List ℕ) (d : List ℕ) (w : World) (events : List Event) → IsAnyFile now → IsLeft end other now (world_after d w events) → StandFor now (bytes_after w events)
stands_after end other now d w events any left = record { is = any; represents = subst (Represents now) (held_is d w events) (left_represents end other now (world_after d w events) left) }

module _ (laws : Laws) (standing : Standing) (old mid new : List Event) (rests : Rests old mid) (stands : IsStandingIn standing mid) where
  found_in : (d : List ℕ) (w : World) → IsTrue (is_honest_after w mid) → (end : LogEnd) (other now : List ℕ) → IsAnyFile now → IsLeft end other now (world_after d w old)
      → (database_of standing.found ≡ now) × IsFound end other now standing.found.mark (world_after d w mid)
  found_in d w honest end other now any left =
      let there = rests_left Read old mid rests d w end other now any left in
      let is = stands_after end other now d w mid any there in (
        stands.database w honest now is,
        record { is = any_database laws now any; mark_is = subst (IsMarkOf standing.found.mark) (sym (held_is d w mid)) (stands.mark w honest); left = there },
      )

  pub repaired_power : (base : Base) (syncs : Syncs) → base.length ≡ length (database_of standing.found) → base.first ≡ take 16 (database_of standing.found) → Falls mid new
      → Steps (Repairs standing.found) (seen syncs (view_of mid)) (seen syncs (view_of new))
      → syncs ≡ Ordered → (d : List ℕ) (w : World) → IsTrue (is_honest_after w new) → Readies (Some base) (world_after d w old) (world_after d w new)
  repaired_power base syncs len first falls steps ordered d w honest end other now any left =
      let found = found_in d w (falls w honest) end other now any left in
      let does = steps_each (Repairs standing.found) mid new (subst (λ (y : Syncs). Steps (Repairs standing.found) (seen y (view_of mid)) (seen y (view_of new))) ordered steps) d w honest in (
        record { is = any_database laws now any; length = len ∙ ap (λ (b : List ℕ). length b) found.0; first = first ∙ ap (take 16) found.0 },
        does end other now found.0 found.1,
      )

  pub unrepaired_power : (syncs : Syncs) → Falls mid new → Steps (FailsToRepair standing.found) (seen syncs (view_of mid)) (seen syncs (view_of new))
      → syncs ≡ Ordered → (d : List ℕ) (w : World) → IsTrue (is_honest_after w new) → StaysLeft (world_after d w old) (world_after d w new)
  unrepaired_power syncs falls steps ordered d w honest end other now any left =
      let found = found_in d w (falls w honest) end other now any left in
      let does = steps_each (FailsToRepair standing.found) mid new (subst (λ (y : Syncs). Steps (FailsToRepair standing.found) (seen y (view_of mid)) (seen y (view_of new))) ordered steps) d w honest in
      does end other now found.0 found.1

-- such a file has a database
pub fault_power : ((bytes : List ℕ) → HasOneAnswer bytes) → (fault : TaskFault) (old mid : List Event) → Rests old mid → IsFaultIn fault mid → IsTrue (is_of_bytes fault)
    → (d : List ℕ) (w : World) → IsTrue (is_honest_after w mid) → Readies None (world_after d w old) (world_after d w mid)
fault_power one fault old mid rests is of d w honest end other now any left =
    let stand = stands_after end other now d w mid any (rests_left Read old mid rests d w end other now any left) in
    no_file one now fault (is.known w honest now stand) of any.0 any.1

-- ---- a file without a mark

-- no database begins with a mark
cut_not : (file : List ℕ) → StandsAt file 0 cut_mark → IsDatabase file → ⊥
cut_not file marked is = grind arith

log_not : (file : List ℕ) (tail : ℕ) → StandsAt file 0 (log_mark tail) → IsDatabase file → ⊥
log_not file tail marked is =
    let one : slice_index file 3 ≡ 76 = marked.each 3 (lit< tt) in
    grind arith

module _ (laws : Laws) (end : LogEnd) (other now : List ℕ) (v : views.World) (any : IsAnyFile now) (none : mark_of v.held ≡ None) where
  pub held_now : IsLeft end other now v → v.held ≡ now
  held_now left = unmarked_is laws now v.held any (left_represents end other now v left) none

  pub rest_by : (left : IsLeft end other now v) → v.held ≡ now → IsAtRest now v
  rest_by (inl rest) is = rest
  rest_by (inr (inl cut)) is = absurd (cut_not v.held cut.under.marked (subst IsDatabase (sym is) (any_database laws now any)))
  rest_by (inr (inr log)) is = absurd (log_not v.held log.tail log.world.held.log.marked (subst IsDatabase (sym is) (any_database laws now any)))

module _ (laws : Laws) (old mid new : List Event) (first : Rests old mid) (second : Rests mid new) (unmarked : (w : World) → IsTrue (is_honest_after w mid) → mark_of (bytes_after w mid) ≡ None) where
  unmarked_left : (d : List ℕ) (w : World) → IsTrue (is_honest_after w mid) → (end : LogEnd) (other now : List ℕ) → IsAnyFile now → IsLeft end other now (world_after d w old)
      → IsAtRest now (world_after d w mid)
  unmarked_left d w honest end other now any left =
      let there = rests_left Read old mid first d w end other now any left in
      let none : mark_of (world_after d w mid).held ≡ None = ap mark_of (held_is d w mid) ∙ unmarked w honest in
      rest_by laws end other now (world_after d w mid) any none there (held_now laws end other now (world_after d w mid) any none there)

  unmarked_rest : (d : List ℕ) (w : World) → IsTrue (is_honest_after w new) → (end : LogEnd) (other now : List ℕ) → IsAnyFile now → IsLeft end other now (world_after d w old)
      → IsAtRest now (world_after d w new)
  unmarked_rest d w honest end other now any left =
      stays_rest (world_after d w mid) (world_after d w new) (rests_stay Read mid new second d w) now (unmarked_left d w (second.falls w honest) end other now any left)

  now_after : (d : List ℕ) (w : World) → IsTrue (is_honest_after w new) → (end : LogEnd) (other now : List ℕ) → IsAnyFile now → IsLeft end other now (world_after d w old) → bytes_after w new ≡ now
  now_after d w honest end other now any left = sym (held_is d w new) ∙ (unmarked_rest d w honest end other now any left).world.held

  based_power : (base : Base) → IsBased base new → (d : List ℕ) (w : World) → IsTrue (is_honest_after w new) → Readies (Some base) (world_after d w old) (world_after d w new)
  based_power base based d w honest end other now any left =
      let is = now_after d w honest end other now any left in
      let facts = based w honest in (
        record { is = any_database laws now any; length = facts.1 ∙ ap (λ (b : List ℕ). length b) is; first = facts.2 ∙ ap (take 16) is },
        unmarked_rest d w honest end other now any left,
      )

  none_power : HasNoDatabase new → (d : List ℕ) (w : World) → IsTrue (is_honest_after w new) → Readies None (world_after d w old) (world_after d w new)
  none_power lacks d w honest end other now any left =
      lacks w honest any.0 (subst (λ (b : List ℕ). IsFile b any.0) (sym (now_after d w honest end other now any left)) any.1)

  pub unmarked_power : {E : Type 0} (r : Result (Option Base) E) (syncs : Syncs) → IfOk r (λ found. IfSome found (λ base. IsBased base new)) → IfOk r (λ found. IfNone found (HasNoDatabase new))
      → DoesOr Readies StaysLeft r syncs old new
  unmarked_power (Ok None) syncs some lacks = λ ordered d w honest. none_power lacks d w honest
  unmarked_power (Ok (Some base)) syncs some lacks = λ ordered d w honest. based_power base some d w honest
  unmarked_power (Err e) syncs some lacks = λ ordered d w honest end other now any left.
      rests_left Read mid new second d w end other now any (rests_left Read old mid first d w end other now any left)

-- calls that rest, before others
pub rested_power : {E : Type 0} (r : Result (Option Base) E) (syncs : Syncs) (old mid new : List Event) → Rests old mid → DoesOr Readies StaysLeft r syncs mid new → DoesOr Readies StaysLeft r syncs old new
rested_power (Ok None) syncs old mid new rests does = λ ordered d w honest end other now any left. does ordered d w honest end other now any (rests_left Read old mid rests d w end other now any left)
rested_power _ syncs old mid new rests does = λ ordered d w honest end other now any left. does ordered d w honest end other now any (rests_left Read old mid rests d w end other now any left)

-- ---- the change

pub made_power : (old mid : List Event) → RestsFor Make old mid → (bytes : List ℕ) (d : List ℕ) (w : World) → BecomesOrNot bytes (world_after d w old) (world_after d w mid)
made_power old mid rests bytes d w end other now any left = inl (rests_left Make old mid rests d w end other now any left)

all_agree : (old new : List ℕ) → AgreesOutside (record { start = 0; end = length new } ∷ []) old new
all_agree old new = record { each = λ k low. inl (inl (omega arith, low)) }

pub replaced_power : (syncs : Syncs) (base : Base) (bytes : List ℕ) (old new : List Event) → Steps (Overwrites base bytes) (seen syncs (view_of old)) (seen syncs (view_of new))
    → syncs ≡ Ordered → (d : List ℕ) (w : World) → IsTrue (is_honest_after w new) → Replaces base bytes (world_after d w old) (world_after d w new)
replaced_power syncs base bytes old new steps ordered d w honest now any began rest = grind (arith, common_steps, steps_each, all_agree)

pub unreplaced_power : (syncs : Syncs) (base : Base) (bytes : List ℕ) (old new : List Event) → Steps (FailsToOverwrite base bytes) (seen syncs (view_of old)) (seen syncs (view_of new))
    → syncs ≡ Ordered → (d : List ℕ) (w : World) → IsTrue (is_honest_after w new) → ReplacesOrNot base bytes (world_after d w old) (world_after d w new)
unreplaced_power syncs base bytes old new steps ordered d w honest now any began rest = grind (arith, common_steps, steps_each, all_agree)

module _ (old mid ready new : List Event) (made : RestsFor Make old mid) (bytes : List ℕ) (syncs one two : Syncs) (is_one : one ≡ syncs) (is_two : two ≡ syncs) where
  pub over_power : {E : Type 0} (r : Result (Unit {0}) E) (base : Base) → Falls ready new
      → (one ≡ Ordered → (d : List ℕ) (w : World) → IsTrue (is_honest_after w ready) → Readies (Some base) (world_after d w mid) (world_after d w ready))
      → DoesOr (λ x. Replaces base bytes) (ReplacesOrNot base bytes) r two ready new → DoesOr (λ x. Becomes bytes) (BecomesOrNot bytes) r syncs old new
  over_power (Ok x) base falls readies does = λ is d w honest end other now any left.
      let ready_now = readies (is_one ∙ is) d w (falls w honest) end other now any (rests_left Make old mid made d w end other now any left) in
      does (is_two ∙ is) d w honest now any ready_now.0 ready_now.1
  over_power (Err e) base falls readies does = λ is d w honest end other now any left.
      let ready_now = readies (is_one ∙ is) d w (falls w honest) end other now any (rests_left Make old mid made d w end other now any left) in
      inr (Whole, does (is_two ∙ is) d w honest now any ready_now.0 ready_now.1)

  pub first_power : {E : Type 0} (r : Result (Unit {0}) E) → Falls ready new
      → (one ≡ Ordered → (d : List ℕ) (w : World) → IsTrue (is_honest_after w ready) → Readies None (world_after d w mid) (world_after d w ready))
      → DoesOr (λ x. Becomes bytes) (BecomesOrNot bytes) r syncs old new
  first_power (Ok x) falls readies = λ is d w honest end other now any left. absurd (readies (is_one ∙ is) d w (falls w honest) end other now any (rests_left Make old mid made d w end other now any left))
  first_power (Err e) falls readies = λ is d w honest end other now any left. absurd (readies (is_one ∙ is) d w (falls w honest) end other now any (rests_left Make old mid made d w end other now any left))

  pub unready_power : (one ≡ Ordered → (d : List ℕ) (w : World) → IsTrue (is_honest_after w ready) → StaysLeft (world_after d w mid) (world_after d w ready))
      → syncs ≡ Ordered → (d : List ℕ) (w : World) → IsTrue (is_honest_after w ready) → BecomesOrNot bytes (world_after d w old) (world_after d w ready)
  unready_power stays is d w honest end other now any left = inl (stays (is_one ∙ is) d w honest end other now any (rests_left Make old mid made d w end other now any left))

-- a file that is only prepared
pub settled_power : {E : Type 0} (r : Result (Option Base) E) (syncs one : Syncs) → one ≡ syncs → (old mid new : List Event) → Rests old mid → DoesOr Readies StaysLeft r one mid new
    → syncs ≡ Ordered → (d : List ℕ) (w : World) → IsTrue (is_honest_after w new) → StaysLeft (world_after d w old) (world_after d w new)
settled_power (Ok None) syncs one is old mid new rests does ordered d w honest end other now any left = grind (arith, rests_left Read old mid rests d w end other now any left)
settled_power (Ok (Some base)) syncs one is old mid new rests does ordered d w honest end other now any left =
    inl (does (is ∙ ordered) d w honest end other now any (rests_left Read old mid rests d w end other now any left)).1
settled_power (Err e) syncs one is old mid new rests does ordered d w honest end other now any left =
    does (is ∙ ordered) d w honest end other now any (rests_left Read old mid rests d w end other now any left)
