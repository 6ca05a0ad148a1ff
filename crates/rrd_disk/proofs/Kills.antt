-- The calls that a killed run did not make: with them, or without them, the file is the same.
use Rattle.rrd_disk.proofs.Names.{◌≡◌, ◌∙◌, ℕ, suc, ◌≤◌, ◌&&◌, not, Bool, true, false, IsTrue, List, [], ◌∷◌, ◌++◌, length, take, inl, inr, refl, sym, ap, subst, arith, get_or-take, length-take, or-true, and_from, and_parts, true≢false, append_assoc, get_or_past, Held, Missing, Bytes, IsSound, represented, Event, Made, PutFailed, SizeFailed, SyncFailed, NotFound, are_failed, interrupted, is_failed, World, bytes_of, failures, held_after, is_honest_after, is_honest_of, is_small, left, padded_or_not, part_after, IsKilledRun, IsRun, common_steps}
use Rattle.rrd_disk.specs.Replayed.{is_honest_part, overlaid}
use Rattle.rrd_store.specs.Runs as runs

-- ---- one call that failed, and left nothing

pub nothing_laid : (file : List ℕ) (at : ℕ) (bytes : List ℕ) → overlaid file at (take 0 bytes) ≡ file
unfolding overlaid
nothing_laid file at bytes = refl

nothing_honest : (at : ℕ) (bytes : List ℕ) → IsTrue (is_honest_part at bytes 0)
unfolding is_honest_part
nothing_honest at bytes = or-true (not (is_small at (length bytes)))

failed_left : (h : Held) (e : Event) → IsTrue (is_failed e) → left h 0 e ≡ h
failed_left Missing (PutFailed at bytes) is = refl
failed_left Missing (SizeFailed count) is = refl
failed_left Missing SyncFailed is = refl
failed_left Missing _ is = absurd (true≢false (sym is))
failed_left (Bytes file) (PutFailed at bytes) is = ap (λ (b : List ℕ). Bytes b) (nothing_laid file at bytes)
failed_left (Bytes file) (SizeFailed count) is = refl
failed_left (Bytes file) SyncFailed is = refl
failed_left (Bytes file) _ is = absurd (true≢false (sym is))

-- and if there is a file, the answer is honest
failed_honest : (file : List ℕ) (e : Event) → IsTrue (is_failed e) → IsTrue (is_honest_of (Bytes file) 0 e)
failed_honest file (PutFailed at bytes) is = nothing_honest at bytes
failed_honest file (SizeFailed count) is = refl
failed_honest file SyncFailed is = refl
failed_honest file _ is = absurd (true≢false (sym is))

-- ---- which calls have a number

abbrev pub is_counted : Event → Bool
is_counted (PutFailed at bytes) = true
is_counted (SizeFailed count) = true
is_counted _ = false

counted_more : (e : Event) (earlier : List Event) → IsTrue (is_counted e) → failures (e ∷ earlier) ≡ suc (failures earlier)
counted_more (PutFailed at bytes) earlier is = refl
counted_more (SizeFailed count) earlier is = refl
counted_more _ earlier is = absurd (true≢false (sym is))

pub failures_grow : (e : Event) (earlier : List Event) → failures earlier ≤ failures (e ∷ earlier)
failures_grow (PutFailed at bytes) earlier = omega arith
failures_grow (SizeFailed count) earlier = omega arith
failures_grow _ earlier = omega arith

-- the others do not look at it
same_left : (h : Held) (p q : ℕ) (e : Event) → (IsTrue (is_counted e) → p ≡ q) → left h p e ≡ left h q e
same_left Missing p q Made is = refl
same_left Missing p q _ is = refl
same_left (Bytes file) p q (PutFailed at bytes) is = ap (λ (k : ℕ). Bytes (overlaid file at (take k bytes))) (is refl)
same_left (Bytes file) p q (SizeFailed count) is = ap (λ (k : ℕ). Bytes (padded_or_not file count k)) (is refl)
same_left (Bytes file) p q _ is = refl

same_honest : (h : Held) (p q : ℕ) (e : Event) → (IsTrue (is_counted e) → p ≡ q) → is_honest_of h p e ≡ is_honest_of h q e
same_honest Missing p q NotFound is = refl
same_honest Missing p q Made is = refl
same_honest Missing p q _ is = refl
same_honest (Bytes file) p q (PutFailed at bytes) is = ap (λ (k : ℕ). is_honest_part at bytes k) (is refl)
same_honest (Bytes file) p q _ is = refl

-- ---- a world in which the first `m` calls that fail leave what they leave, and the others nothing

module _ (w : World) (m : ℕ) where
  abbrev pub cut : World
  cut = record { start = w.start; parts = take m w.parts }

  same_part : (e : Event) (earlier : List Event) → failures (e ∷ earlier) ≤ m → IsTrue (is_counted e) → part_after cut earlier ≡ part_after w earlier
  same_part e earlier few is = let more = counted_more e earlier is in get_or-take m w.parts (failures earlier) 0 (omega (arith, more))

  -- one call less, and what it leaves is the same
  pub counted_same : (e : Event) (earlier : List Event) → failures (e ∷ earlier) ≤ m → (failures earlier ≤ m) × (IsTrue (is_counted e) → part_after w earlier ≡ part_after cut earlier)
  counted_same e earlier few = let grow = failures_grow e earlier in (omega (arith, grow, few), λ is. sym (same_part e earlier few is))

  pub cut_held : (events : List Event) → failures events ≤ m → held_after cut events ≡ held_after w events
  cut_held [] few = refl
  cut_held (e ∷ earlier) few =
      let grow = failures_grow e earlier in
      ap (λ (h : Held). left h (part_after cut earlier) e) (cut_held earlier (omega (arith, grow)))
      ∙ same_left (held_after w earlier) (part_after cut earlier) (part_after w earlier) e (same_part e earlier few)

  pub cut_honest : (events : List Event) → failures events ≤ m → is_honest_after cut events ≡ is_honest_after w events
  cut_honest [] few = refl
  cut_honest (e ∷ earlier) few =
      let grow = failures_grow e earlier in
      ap (λ (h : Held). is_honest_of h (part_after cut earlier) e && is_honest_after cut earlier) (cut_held earlier (omega (arith, grow)))
      ∙ ap (λ (b : Bool). b && is_honest_after cut earlier) (same_honest (held_after w earlier) (part_after cut earlier) (part_after w earlier) e (same_part e earlier few))
      ∙ ap (λ (b : Bool). is_honest_of (held_after w earlier) (part_after w earlier) e && b) (cut_honest earlier (omega (arith, grow)))

  no_part : (earlier : List Event) → m ≤ failures earlier → part_after cut earlier ≡ 0
  no_part earlier many = get_or_past (take m w.parts) (failures earlier) 0 (omega (arith, length-take m w.parts))

  -- ---- the calls after a kill

  module _ (events : List Event) (all : failures events ≡ m) where
    many : (missed : List Event) → m ≤ failures (missed ++ events)
    many [] = omega (arith, all)
    many (e ∷ more) = let grow = failures_grow e (more ++ events) in let before = many more in omega (arith, grow, before)

    pub no_part_after : (more : List Event) → part_after cut (more ++ events) ≡ 0
    no_part_after more = no_part (more ++ events) (many more)

    pub missed_held : (missed : List Event) → IsTrue (are_failed missed) → held_after cut (missed ++ events) ≡ held_after cut events
    missed_held [] are = refl
    missed_held (e ∷ more) are =
        let both = and_parts (is_failed e) (are_failed more) are in
        ap (λ (k : ℕ). left (held_after cut (more ++ events)) k e) (no_part (more ++ events) (many more))
        ∙ failed_left (held_after cut (more ++ events)) e both.0 ∙ missed_held more both.1

    honest_there : (h : Held) (k : ℕ) (e : Event) → h ≡ Bytes (bytes_of h) → k ≡ 0 → IsTrue (is_failed e) → IsTrue (is_honest_of h k e)
    honest_there h k e there none is = grind (arith, common_steps, failed_honest)

    pub missed_honest : (missed : List Event) → IsTrue (are_failed missed) → held_after cut events ≡ Bytes (bytes_of (held_after cut events))
        → IsTrue (is_honest_after cut events) → IsTrue (is_honest_after cut (missed ++ events))
    missed_honest [] are there honest = honest
    missed_honest (e ∷ more) are there honest =
        let both = and_parts (is_failed e) (are_failed more) are in
        let h = held_after cut (more ++ events) in
        let is : h ≡ Bytes (bytes_of h) = subst (λ (g : Held). g ≡ Bytes (bytes_of g)) (sym (missed_held more both.1)) there in
        and_from (is_honest_of h (part_after cut (more ++ events)) e) (is_honest_after cut (more ++ events))
        (honest_there h (part_after cut (more ++ events)) e is (no_part (more ++ events) (many more)) both.0) (missed_honest more both.1 there honest)

pub there_is : (h : Held) (file : List ℕ) → h ≡ Bytes file → h ≡ Bytes (bytes_of h)
there_is h file is = is ∙ subst (λ (g : Held). Bytes file ≡ Bytes (bytes_of g)) (sym is) refl

-- no call removes a file
pub left_missing : (h : Held) (part : ℕ) (e : Event) → left h part e ≡ Missing → h ≡ Missing
left_missing Missing part e is = refl
left_missing (Bytes bytes) part e is = absurd cc

pub never_there : (w : World) (events : List Event) → held_after w events ≡ Missing → w.start ≡ Missing
never_there w [] is = is
never_there w (e ∷ earlier) is = never_there w earlier (left_missing (held_after w earlier) (part_after w earlier) e is)

-- ---- a run that was killed

-- what a kill may leave after more calls, of which each failed and left nothing, it may leave after these
module _ (w : World) (missed events : List Event) (run : runs.Run) where
  abbrev Left : Type 0
  Left = IsSound (held_after w events) × runs.WasKilled (represented w.start) run (represented (held_after w events))

  killed_there : IsTrue (are_failed missed) → held_after w events ≡ Bytes (bytes_of (held_after w events))
      → IsTrue (is_honest_after w events) → IsSound w.start → IsKilledRun (missed ++ events) run → Left
  killed_there are there honest sound did =
      let m = failures events in
      let same = cut_held w m events (omega arith) in
      let after = missed_held w m events refl missed are ∙ same in
      let now = subst (λ (h : Held). h ≡ Bytes (bytes_of h)) (sym same) there in
      let before = subst (λ (b : Bool). IsTrue b) (sym (cut_honest w m events (omega arith))) honest in
      let one = did (cut w m) (missed_honest w m events refl missed are now before) sound in
      (subst IsSound after one.0, subst (λ (h : Held). runs.WasKilled (represented w.start) run (represented h)) after one.1)

  -- where no file came to be, nothing changed
  killed_at : (now : Held) → held_after w events ≡ now → IsTrue (are_failed missed)
      → IsTrue (is_honest_after w events) → IsSound w.start → IsKilledRun (missed ++ events) run → Left
  killed_at Missing is are honest sound did = grind (arith, common_steps, never_there)
  killed_at (Bytes bytes) is are honest sound did = grind (arith, common_steps, killed_there, there_is)

killed_run : (missed events : List Event) (run : runs.Run) → IsTrue (are_failed missed) → IsKilledRun (missed ++ events) run → IsKilledRun events run
killed_run missed events run are did = λ w honest sound. killed_at w missed events run (held_after w events) refl are honest sound did

-- ---- the same with the call that was interrupted

-- the calls after that one
pub record Split (missed : List Event) : Type 0 where
  pub later : List Event
  pub all : missed ≡ later ++ interrupted missed
  pub failed : IsTrue (are_failed later)

pub split : (missed : List Event) → IsTrue (are_failed missed) → Split missed
split [] are = record { later = []; all = refl; failed = refl }
split (e ∷ []) are = record { later = []; all = refl; failed = refl }
split (e ∷ f ∷ more) are =
    let both = and_parts (is_failed e) (are_failed (f ∷ more)) are in
    let rest = split (f ∷ more) both.1 in
    record { later = e ∷ rest.later; all = ap (λ (l : List Event). e ∷ l) rest.all; failed = and_from (is_failed e) (are_failed rest.later) both.0 rest.failed }

-- what is so without calls that failed and left nothing is so without those after the first one
pub interrupted_as : (P : List Event → Type 0) → ((later last : List Event) → IsTrue (are_failed later) → P (later ++ last) → P last) → (missed events : List Event) → IsTrue (are_failed missed)
    → P (missed ++ events) → P (interrupted missed ++ events)
interrupted_as P without missed events are all =
    let parts = split missed are in
    grind (arith, append_assoc)

pub interrupted_run : (missed events : List Event) (run : runs.Run) → IsTrue (are_failed missed) → IsRun (missed ++ events) run → IsKilledRun (interrupted missed ++ events) run
interrupted_run missed events run are did =
    interrupted_as (λ l. IsKilledRun l run) (λ later last failed. killed_run later last run failed) missed events are (λ w honest sound. let one = did w honest sound in (one.0, inr (inl one.1)))
