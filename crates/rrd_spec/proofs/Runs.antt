-- The survivors of a run.
use Rattle.std.specs.Prelude.{◌≡◌, ℕ, zero, suc, ◌+◌, ◌-◌, ◌≤◌, ◌<◌, min, true, false, List, [], ◌∷◌, ◌++◌, length, take, Option, None, is_none}
use Rattle.rrd_spec.proofs.Names.{common_steps, refl, sym, ◌∙◌, ap, subst, arith, ⊎_elim, append-nil, cases_Bool, cases_lt, fold, Content, DatabaseChange, moved, verdict, is_accepted, Entry, entry, undone, IsSound, Action, Changed, Reverted, State, Stored, survived, entries, with_change, without_last, after, reverted, changed, stored_after, AllAccepted, AllUndo, Stands, CommandsGoOn, RunsAgree}
use Rattle.rrd_spec.proofs.LivesPlain.{is_listed}
use Rattle.rrd_spec.proofs.Moving.{moves, moved_sound}
use Rattle.rrd_spec.proofs.Quiet.{content_nil}
use Rattle.rrd_spec.proofs.Undoing.{comes_back}

-- ---- lists

take-append-more : {A : Type 0} (k : ℕ) (xs ys : List A) → take (length xs + k) (xs ++ ys) ≡ xs ++ take k ys
take-append-more k [] ys = ap (λ n. take n ys) {x = zero + k} {y = k} (omega arith)
take-append-more k (x ∷ xs) ys = ap (λ n. take n (x ∷ xs ++ ys)) {x = suc (length xs) + k} {y = suc (length xs + k)} (omega arith) ∙ ap (λ zs. x ∷ zs) (take-append-more k xs ys)

nothing_left : {A : Type 0} (xs : List A) → length xs ≤ 0 → xs ≡ []
nothing_left [] h = refl
nothing_left (x ∷ xs) h = absurd (omega arith)

pub is_none-true : {A : Type 0} (o : Option A) → is_none o ≡ true → o ≡ None
is_none-true o h = grind arith

-- ---- what survived

pub survived_nil : (base : Content) → IsSound base → survived base [] ≡ base
survived_nil base sound = sym (is_listed base [] sound.is_base tt tt) ∙ content_nil base sound.is_base

pub survived_sound : (base : Content) (commands : List DatabaseChange) → IsSound base → AllAccepted base commands → IsSound (survived base commands)
survived_sound base [] sound h = subst IsSound (sym (survived_nil base sound)) sound
survived_sound base (command ∷ commands) sound h = subst IsSound (sym (moves base commands command sound h)) (moved_sound (survived base commands) command (survived_sound base commands sound h.1) h.0)

-- commands on the content that earlier ones leave; all are accepted there too
on_survived : (base : Content) (first second : List DatabaseChange) → IsSound base → AllAccepted base (second ++ first) → AllAccepted base first × AllAccepted (survived base first) second × (survived base (second ++ first) ≡ survived (survived base first) second)
on_survived base first [] sound h = (h, tt, sym (survived_nil (survived base first) (survived_sound base first sound h)))
on_survived base first (command ∷ commands) sound h =
    let before = on_survived base first commands sound h.1 in
    let now = survived base first in
    let accepted : AllAccepted now (command ∷ commands) = (subst (λ x. verdict x command ≡ None) before.2 h.0, before.1) in (
      before.0,
      accepted,
      moves base (commands ++ first) command sound h
          ∙ ap (λ x. moved x command) before.2
          ∙ sym (moves now commands command (survived_sound base first sound before.0) accepted),
    )

pub commands_go_on : (base : Content) (first second : List DatabaseChange) → CommandsGoOn base first second
commands_go_on base first second sound h = grind (arith, common_steps, on_survived)

survived_depth : (base : Content) (commands : List DatabaseChange) → (survived base commands).depth ≡ base.depth
survived_depth base commands = refl

-- ---- the journal

length-entries : (base : Content) (n : ℕ) (commands : List DatabaseChange) → n ≤ length commands → length (entries base n commands) ≡ n
length-entries base zero commands h = refl
length-entries base (suc n) [] h = absurd (omega arith)
length-entries base (suc n) (command ∷ commands) h = ap suc (length-entries base n commands (omega arith))

take-entries : (base : Content) (k n : ℕ) (commands : List DatabaseChange) → k ≤ n → take k (entries base n commands) ≡ entries base k commands
take-entries base zero n commands h = refl
take-entries base (suc k) zero commands h = absurd (omega arith)
take-entries base (suc k) (suc n) [] h = refl
take-entries base (suc k) (suc n) (command ∷ commands) h = ap (λ rest. entry (survived base commands) command ∷ rest) (take-entries base k n commands (omega arith))

-- the journal with one entry more, as far as it has places
journal_more : (base : Content) (brought : List Entry) (survivors : List DatabaseChange) (command : DatabaseChange) (n : ℕ) → n ≤ length survivors → n + length brought ≤ base.depth → take base.depth (entry (survived base survivors) command ∷ entries base n survivors ++ brought) ≡ entries base (min (n + 1) base.depth) (command ∷ survivors) ++ take (base.depth - (n + 1)) brought
journal_more base brought survivors command n enough places =
    let depth = base.depth in
    let all = entries base (suc n) (command ∷ survivors) in
    let count : length all ≡ suc n = length-entries base (suc n) (command ∷ survivors) (omega arith) in
    ⊎_elim
    (λ (full : depth < n + 1). grind (arith, nothing_left, append-nil, take-entries))
    (λ (room : n + 1 ≤ depth).
    ap (λ k. take k (all ++ brought)) {x = depth} {y = length all + (depth - (n + 1))} (omega arith)
    ∙ take-append-more (depth - (n + 1)) all brought
    ∙ ap (λ k. entries base k (command ∷ survivors) ++ take (depth - (n + 1)) brought) {x = suc n} {y = min (n + 1) depth} (omega arith))
    (cases_lt depth (n + 1))

undo_taken : (base : Content) (k : ℕ) (brought : List Entry) → AllUndo base brought → AllUndo base (take k brought)
undo_taken base zero brought h = tt
undo_taken base (suc k) [] h = tt
undo_taken base (suc k) (old ∷ brought) h = (h.0, h.1, undo_taken (undone base old) k brought h.2)

-- ---- one action

revert_stands : (base : Content) (brought : List Entry) (survivors : List DatabaseChange) (n : ℕ) (kept : Stored) → Stands (record { base = base; brought = brought; survivors = survivors; revertible = n }) kept → Stands (without_last base brought survivors n) (reverted kept.content kept.journal)
revert_stands base brought (command ∷ survivors) (suc n) kept h = grind (arith, moves, comes_back, survived_sound)
revert_stands base brought survivors n kept h = grind (arith, survived_nil)

change_stands : (state : State) (kept : Stored) (command : DatabaseChange) → is_accepted (survived state.base state.survivors) command ≡ true → Stands state kept → Stands (with_change state command) (changed kept command)
change_stands state kept command passes h = grind (arith, common_steps, is_none-true, survived_depth, moved, moves, journal_more, undo_taken)

pub step_stands : (state : State) (kept : Stored) (action : Action) → Stands state kept → Stands (after state action) (stored_after kept action)
step_stands state kept (Changed command) h =
    let same : is_accepted kept.content command ≡ is_accepted (survived state.base state.survivors) command = ap (λ now. is_accepted now command) h.content_is in
    ⊎_elim
    (λ (passes : is_accepted (survived state.base state.survivors) command ≡ true). rw (same, passes) (change_stands state kept command passes h))
    (λ (fails : is_accepted (survived state.base state.survivors) command ≡ false). rw (same, fails) h)
    (cases_Bool (is_accepted (survived state.base state.survivors) command))
step_stands state kept Reverted h = revert_stands state.base state.brought state.survivors state.revertible kept h

runs_stand : (actions : List Action) (state : State) (kept : Stored) → Stands state kept → Stands (fold after state actions) (fold stored_after kept actions)
runs_stand [] state kept h = h
runs_stand (action ∷ actions) state kept h = runs_stand actions (after state action) (stored_after kept action) (step_stands state kept action h)

pub runs_agree : (base : Content) (brought : List Entry) (actions : List Action) → RunsAgree base brought actions
runs_agree base brought actions sound undo fits = grind (arith, runs_stand, survived_nil)
