-- Calls that change the file, one after another, and what they are for `rrd_change`.
use Rattle.rrd_disk.proofs.Names.{◌≡◌, ℕ, zero, suc, ◌+◌, ◌%◌, ◌<◌, ◌≤◌, nat_le, List, [], ◌∷◌, length, take, Result, Ok, Err, IfOk, OnErr, OnOk, IsTrue, refl, sym, ◌∙◌, ap, subst, inl, arith, and_parts, leb-true, true≢false, AreAny, AreAt, ArePut, AreWholeOrNot, IsCut, IsFrontPut, IsSized, IsSizedOrNot, IsTorn, Counts, Does, Effect, FailsToSize, FailsToWrite, FailsToWritePage, FailsToWriteWhole, IsSynced, IsUnsynced, Moves, Reads, Stays, Steps, Writes, WritesPage, WritesWhole, moves_as, moves_then, file_of, view_of, world_asked, world_for, world_of, Did, DidOr, Falls, IsCutShort, IsPartPut, PlaceStays, Rests, Event, Put, PutFailed, Sized, SizeFailed, Synced, SyncFailed, HasLength, AreTorn, Follows, Leaves, moved, world_after, World, bytes_after, bytes_left, bytes_of, held_after, is_honest_after, is_honest_of, is_honest_part, is_small, is_there, left, overlaid, padded, padded_or_not, part_after, Held, Missing, Bytes, common_steps}
use Rattle.std.specs.Result.{IsErr}
use Rattle.rrd_disk.proofs.Asked.{for_each, honest_in}
use Rattle.rrd_disk.proofs.Overlays.{padded-IsSized}
use Rattle.rrd_disk.proofs.Parts.{cut_short, failed_size, part_all, part_cut, part_less, part_none, part_twice, part_whole, put_front, put_part, sized_over, sized_twice, torn_none, torn_twice, torn_within, within_page, within_sector}
use Rattle.rrd_disk.proofs.Replaying.{honest_before, honest_now}
use Rattle.rrd_disk.proofs.Resting.{held_is}
use Rattle.rrd_change.specs.Views as views

-- ---- several calls

pub did_then : (e f g : Effect) (old mid new : List Event) → ((u v w : views.World) → e u v → f v w → g u w) → Did e old mid → Did f mid new → Did g old new
did_then e f g old mid new join first second = grind arith

pub did_as : (e f : Effect) (old new : List Event) → ((u v : views.World) → e u v → f u v) → Did e old new → Did f old new
did_as e f old new to did = record { falls = did.falls; place = did.place; does = λ d w honest. to (world_after d w old) (world_after d w new) (did.does d w honest) }

pub did_nothing : (e : Effect) (events : List Event) → ((w : views.World) → e w w) → Did e events events
did_nothing e events none = record { falls = λ s honest. honest; place = λ s. refl; does = λ d w honest. none (world_after d w events) }

pub moves_none : (call torn : List ℕ → List ℕ → Type 0) → ((f : List ℕ) → call f f) → ((f : List ℕ) → torn f f) → (w : views.World) → Moves call torn w w
moves_none call torn calls torns w = record { held = calls w.held; leave = λ c may. (c, may, torns c); keep = λ c may. (c, may, calls c) }

-- ---- one call

-- a call that does the same to the file and to what a sync would store, and may tear what the disk has
record IsCall (call torn : List ℕ → List ℕ → Type 0) (e : Event) : Type 1 where
  honest : (h : Held) (part : ℕ) → IsTrue (is_honest_of h part e) → (h ≡ Bytes (bytes_of h)) × ((file : List ℕ) → call file (bytes_left file part e))
  place : (h : Held) (part : ℕ) → is_there (left h part e) ≡ is_there h
  leave : (held : List ℕ) (part : ℕ) (w : views.World) (c : List ℕ) → (moved held part e w).may_leave c → Leaves torn w.may_leave c
  keep : (held : List ℕ) (part : ℕ) (w : views.World) (c : List ℕ) → (moved held part e w).may_keep c → Follows part e w.may_keep c

left_bytes : (h : Held) (part : ℕ) (e : Event) → h ≡ Bytes (bytes_of h) → bytes_of (left h part e) ≡ bytes_left (bytes_of h) part e
left_bytes Missing part e there = absurd cc
left_bytes (Bytes file) part e there = refl

module _ (call torn : List ℕ → List ℕ → Type 0) (e : Event) (is : IsCall call torn e) (mid : List Event) where
  once_moves : (d : List ℕ) (w : World) → IsTrue (is_honest_after w (e ∷ mid)) → Moves call torn (world_after d w mid) (world_after d w (e ∷ mid))
  once_moves d w honest =
      let h = held_after w mid in
      let part = part_after w mid in
      let file = bytes_after w (e ∷ mid) in
      let now = is.honest h part (honest_now w mid e honest) in
      let moves : call (bytes_after w mid) file = subst (λ (b : List ℕ). call (bytes_after w mid) b) (sym (left_bytes h part e now.0)) (now.1 (bytes_of h)) in
      record {
        held = subst (λ (b : List ℕ). call b (world_after d w (e ∷ mid)).held) (sym (held_is d w mid)) (subst (λ (b : List ℕ). call (bytes_after w mid) b) (sym (held_is d w (e ∷ mid))) moves);
        leave = λ c may. is.leave file part (world_after d w mid) c may;
        keep = λ c may.
            let kept = is.keep file part (world_after d w mid) c may in
            (kept.0, kept.1, subst (λ (b : List ℕ). call kept.0 b) (sym kept.2) (now.1 kept.0));
      }

  once_did : Did (Moves call torn) mid (e ∷ mid)
  once_did = record {
    falls = λ s honest. honest_before s mid e honest;
    place = λ s. is.place (held_after s mid) (part_after s mid);
    does = once_moves;
  }

  call_did : (new : List Event) → new ≡ e ∷ mid → Did (Moves call torn) mid new
  call_did new same = subst (λ (events : List Event). Did (Moves call torn) mid events) (sym same) once_did

module _ (at : ℕ) (bytes : List ℕ) where
  put_honest : (taken : ℕ) (h : Held) (part : ℕ) → IsTrue (is_honest_of h part (Put at bytes taken))
      → (h ≡ Bytes (bytes_of h)) × ((file : List ℕ) → IsPartPut taken at bytes file (overlaid file at (take taken bytes)))
  put_honest taken Missing part honest = absurd (true≢false (sym honest))
  put_honest taken (Bytes file) part honest = grind (arith, common_steps, and_parts, leb-true, put_part)

  put_place : (taken : ℕ) (h : Held) (part : ℕ) → is_there (left h part (Put at bytes taken)) ≡ is_there h
  put_place taken Missing part = refl
  put_place taken (Bytes file) part = refl

  put_call : (taken : ℕ) → IsCall (IsPartPut taken at bytes) (AreTorn at bytes) (Put at bytes taken)
  put_call taken = record { honest = put_honest taken; place = put_place taken; leave = λ held part w c may. may; keep = λ held part w c may. may }

  failed_honest : (h : Held) (part : ℕ) → IsTrue (is_honest_of h part (PutFailed at bytes))
      → (h ≡ Bytes (bytes_of h)) × ((file : List ℕ) → IsPartPut 0 at bytes file (overlaid file at (take part bytes)))
  failed_honest Missing part honest = absurd (true≢false (sym honest))
  failed_honest (Bytes file) part honest = (refl, λ any. put_part at bytes any part 0 honest (omega arith))

  failed_place : (h : Held) (part : ℕ) → is_there (left h part (PutFailed at bytes)) ≡ is_there h
  failed_place Missing part = refl
  failed_place (Bytes file) part = refl

  failed_call : IsCall (IsPartPut 0 at bytes) (AreTorn at bytes) (PutFailed at bytes)
  failed_call = record { honest = failed_honest; place = failed_place; leave = λ held part w c may. may; keep = λ held part w c may. may }

module _ (count : ℕ) where
  sized_honest : (h : Held) (part : ℕ) → IsTrue (is_honest_of h part (Sized count)) → (h ≡ Bytes (bytes_of h)) × ((file : List ℕ) → IsSized count file (padded file count))
  sized_honest Missing part honest = absurd (true≢false (sym honest))
  sized_honest (Bytes file) part honest = (refl, λ any. padded-IsSized any count)

  sized_place : (h : Held) (part : ℕ) → is_there (left h part (Sized count)) ≡ is_there h
  sized_place Missing part = refl
  sized_place (Bytes file) part = refl

  sized_call : IsCall (IsSized count) (IsSizedOrNot count) (Sized count)
  sized_call = record { honest = sized_honest; place = sized_place; leave = λ held part w c may. may; keep = λ held part w c may. may }

  size_failed_honest : (h : Held) (part : ℕ) → IsTrue (is_honest_of h part (SizeFailed count)) → (h ≡ Bytes (bytes_of h)) × ((file : List ℕ) → IsSizedOrNot count file (padded_or_not file count part))
  size_failed_honest Missing part honest = absurd (true≢false (sym honest))
  size_failed_honest (Bytes file) part honest = (refl, λ any. failed_size count any part)

  size_failed_place : (h : Held) (part : ℕ) → is_there (left h part (SizeFailed count)) ≡ is_there h
  size_failed_place Missing part = refl
  size_failed_place (Bytes file) part = refl

  size_failed_call : IsCall (IsSizedOrNot count) (IsSizedOrNot count) (SizeFailed count)
  size_failed_call = record { honest = size_failed_honest; place = size_failed_place; leave = λ held part w c may. may; keep = λ held part w c may. may }

-- ---- syncs

sync_held : (h : Held) (part : ℕ) → left h part Synced ≡ h
sync_held Missing part = refl
sync_held (Bytes file) part = refl

unsync_held : (h : Held) (part : ℕ) → left h part SyncFailed ≡ h
unsync_held Missing part = refl
unsync_held (Bytes file) part = refl

module _ (old : List Event) where
  synced_once : Did IsSynced old (Synced ∷ old)
  synced_once = grind (arith, common_steps, honest_before, sync_held, held_is)

  unsynced_once : Did IsUnsynced old (SyncFailed ∷ old)
  unsynced_once = grind (arith, common_steps, honest_before, unsync_held, held_is)

  pub sync_did : {A E : Type 0} (r : Result A E) (new : List Event) → OnOk r (new ≡ Synced ∷ old) → OnErr r (new ≡ SyncFailed ∷ old) → DidOr (λ x. IsSynced) IsUnsynced r old new
  sync_did (Ok x) new ok err = subst (λ (events : List Event). Did IsSynced old events) (sym ok) synced_once
  sync_did (Err e) new ok err = subst (λ (events : List Event). Did IsUnsynced old events) (sym err) unsynced_once

-- ---- a call after several that failed

module _ (at : ℕ) (bytes : List ℕ) (old mid : List Event) (tried : Did (Moves (IsPartPut 0 at bytes) (AreTorn at bytes)) old mid) where
  put_again : (least : ℕ) (new : List Event) → Did (Moves (IsPartPut least at bytes) (AreTorn at bytes)) mid new → Did (Moves (IsPartPut least at bytes) (AreTorn at bytes)) old new
  put_again least new did = did_then (Moves (IsPartPut 0 at bytes) (AreTorn at bytes)) (Moves (IsPartPut least at bytes) (AreTorn at bytes)) (Moves (IsPartPut least at bytes) (AreTorn at bytes)) old mid new
      (moves_then (IsPartPut 0 at bytes) (IsPartPut least at bytes) (IsPartPut least at bytes) (AreTorn at bytes) (AreTorn at bytes) (AreTorn at bytes) (part_twice at bytes 0 least) (torn_twice at bytes))
      tried did

  pub put_failed_again : (new : List Event) → new ≡ PutFailed at bytes ∷ mid → Did (Moves (IsPartPut 0 at bytes) (AreTorn at bytes)) old new
  put_failed_again new is = put_again 0 new (call_did (IsPartPut 0 at bytes) (AreTorn at bytes) (PutFailed at bytes) (failed_call at bytes) mid new is)

  pub put_ended : {E : Type 0} (r : Result ℕ E) (new : List Event) → IfOk r (λ n. new ≡ Put at bytes n ∷ mid) → OnErr r (new ≡ PutFailed at bytes ∷ mid)
      → DidOr (λ n. Moves (IsPartPut n at bytes) (AreTorn at bytes)) (Moves (IsPartPut 0 at bytes) (AreTorn at bytes)) r old new
  put_ended (Ok n) new ok err = put_again n new (call_did (IsPartPut n at bytes) (AreTorn at bytes) (Put at bytes n) (put_call at bytes n) mid new ok)
  put_ended (Err e) new ok err = put_failed_again new err

module _ (at : ℕ) (bytes : List ℕ) where
  abbrev Part : ℕ → Effect
  Part least = Moves (IsPartPut least at bytes) (AreTorn at bytes)

  pub part_any : (least : ℕ) (old new : List Event) → Did (Part least) old new → Did (Part 0) old new
  part_any least old new did = grind (arith, common_steps, did_as, moves_as, part_less)

  -- a second call after one that wrote some of the bytes
  pub put_more : (first least : ℕ) (old mid new : List Event) → Did (Part first) old mid → Did (Part least) mid new → Did (Part least) old new
  put_more first least old mid new one two = put_again at bytes old mid (part_any first old mid one) least new two

  pub put_short : (first least : ℕ) (old mid new : List Event) → Did (Part first) old mid → Did (Part least) mid new → Did (Part 0) old new
  put_short first least old mid new one two = part_any least old new (put_more first least old mid new one two)

  -- all bytes were written
  pub put_whole : (least : ℕ) (old new : List Event) → 0 < length bytes → length bytes ≤ least → Did (Part least) old new → Did (Moves (ArePut at bytes) (AreTorn at bytes)) old new
  put_whole least old new some all did = grind (arith, common_steps, did_as, moves_as, part_all)

pub did_failed : {A E : Type 0} (well : A → Effect) (badly : Effect) (r : Result A E) (old new : List Event) → IsErr r → Did badly old new → DidOr well badly r old new
did_failed well badly (Ok x) old new is did = absurd cc
did_failed well badly (Err e) old new is did = did

pub put_none : (at : ℕ) (bytes : List ℕ) (events : List Event) → Did (Moves (IsPartPut 0 at bytes) (AreTorn at bytes)) events events
put_none at bytes events = did_nothing (Moves (IsPartPut 0 at bytes) (AreTorn at bytes)) events (moves_none (IsPartPut 0 at bytes) (AreTorn at bytes) (part_none at bytes) (torn_none at bytes))

-- one that wrote some bytes of a small write, and not all
small_short : (h : Held) (part at : ℕ) (bytes : List ℕ) (n : ℕ) → IsTrue (is_honest_of h part (Put at bytes n)) → IsTrue (is_small at (length bytes)) → 0 < n → n < length bytes → ⊥
small_short Missing part at bytes n honest small some few = true≢false (sym honest)
small_short (Bytes file) part at bytes n honest small some few = cut_short at bytes n (and_parts (nat_le n (length bytes)) (is_honest_part at bytes n) honest).1 small some few

pub put_short_of : {E : Type 0} (r : Result ℕ E) (mid new : List Event) (at : ℕ) (bytes : List ℕ) → IfOk r (λ n. new ≡ Put at bytes n ∷ mid) → IfOk r (λ n. IsCutShort n at bytes new)
put_short_of (Err e) mid new at bytes ok = tt
put_short_of (Ok n) mid new at bytes ok = grind (arith, small_short)

-- a call that was not made
pub put_not : (at : ℕ) (bytes : List ℕ) (old new : List Event) → new ≡ old → Did (Moves (IsPartPut 0 at bytes) (AreTorn at bytes)) old new
put_not at bytes old new same = subst (λ (events : List Event). Did (Moves (IsPartPut 0 at bytes) (AreTorn at bytes)) old events) (sym same) (put_none at bytes old)

module _ (count : ℕ) (old mid : List Event) (tried : Did (Moves (IsSizedOrNot count) (IsSizedOrNot count)) old mid) where
  pub size_failed_again : (new : List Event) → new ≡ SizeFailed count ∷ mid → Did (Moves (IsSizedOrNot count) (IsSizedOrNot count)) old new
  size_failed_again new is = did_then (Moves (IsSizedOrNot count) (IsSizedOrNot count)) (Moves (IsSizedOrNot count) (IsSizedOrNot count)) (Moves (IsSizedOrNot count) (IsSizedOrNot count)) old mid new
      (moves_then (IsSizedOrNot count) (IsSizedOrNot count) (IsSizedOrNot count) (IsSizedOrNot count) (IsSizedOrNot count) (IsSizedOrNot count) (sized_twice count) (sized_twice count))
      tried (call_did (IsSizedOrNot count) (IsSizedOrNot count) (SizeFailed count) (size_failed_call count) mid new is)

  pub size_ended : {A E : Type 0} (r : Result A E) (new : List Event) → OnOk r (new ≡ Sized count ∷ mid) → OnErr r (new ≡ SizeFailed count ∷ mid)
      → DidOr (λ x. Moves (IsSized count) (IsSizedOrNot count)) (Moves (IsSizedOrNot count) (IsSizedOrNot count)) r old new
  size_ended (Ok x) new ok err = did_then (Moves (IsSizedOrNot count) (IsSizedOrNot count)) (Moves (IsSized count) (IsSizedOrNot count)) (Moves (IsSized count) (IsSizedOrNot count)) old mid new
      (moves_then (IsSizedOrNot count) (IsSized count) (IsSized count) (IsSizedOrNot count) (IsSizedOrNot count) (IsSizedOrNot count) (sized_over count) (sized_twice count))
      tried (call_did (IsSized count) (IsSizedOrNot count) (Sized count) (sized_call count) mid new ok)
  size_ended (Err e) new ok err = size_failed_again new err

size_same : (count : ℕ) (f : List ℕ) → IsSizedOrNot count f f
size_same count f = inl refl

pub size_none : (count : ℕ) (events : List Event) → Did (Moves (IsSizedOrNot count) (IsSizedOrNot count)) events events
size_none count events = did_nothing (Moves (IsSizedOrNot count) (IsSizedOrNot count)) events (moves_none (IsSizedOrNot count) (IsSizedOrNot count) (size_same count) (size_same count))

-- ---- what they are for rrd_change

-- an effect that says the same without the disk
abbrev Forgets : Effect → Type 1
Forgets e = (u v : views.World) → e u v → e (world_for 0 u) (world_for 0 v)

pub did_steps : (e : Effect) → Forgets e → (old new : List Event) → Did e old new → Steps e (view_of old) (view_of new)
did_steps e forgets old new did = grind arith

pub moves_forget : (call torn : List ℕ → List ℕ → Type 0) → Forgets (Moves call torn)
moves_forget call torn u v m = record { held = m.held; leave = λ c may. absurd may; keep = λ c may. absurd may }

-- ---- calls that change nothing

pub rests_place : (old new : List Event) → Rests old new → PlaceStays old new
rests_place old new r = λ s. ap is_there (r.held s)

-- ---- what the answers to rrd_change, one for each list of numbers, say of each file

-- with its disk, or without it
pub steps_each : (e : Effect) (old new : List Event) → Steps e (view_of old) (view_of new) → (d : List ℕ) (w : World) → IsTrue (is_honest_after w new) → e (world_after d w old) (world_after d w new)
steps_each e old new steps d w honest = for_each (λ (v : World). e (world_after d v old) (world_after d v new)) new (λ s h. steps.does d (1 ∷ s) h) w honest

-- ---- what FileBytes says to rrd_change

module _ (at : ℕ) (bytes : List ℕ) (old new : List Event) where
  pub part_fails : Did (Part at bytes 0) old new → Steps (FailsToWrite at bytes) (view_of old) (view_of new)
  part_fails did = did_steps (FailsToWrite at bytes) (moves_forget (IsCut at bytes) (AreAny at (length bytes))) old new
      (did_as (Part at bytes 0) (FailsToWrite at bytes) old new
      (moves_as (IsPartPut 0 at bytes) (IsCut at bytes) (AreTorn at bytes) (AreAny at (length bytes)) (part_cut at bytes 0) (λ f g torn. torn.any)) did)

  module _ (within : at % 512 + length bytes ≤ 512) where
    put_whole_writes : Did (Moves (ArePut at bytes) (AreTorn at bytes)) old new → Steps (WritesWhole at bytes) (view_of old) (view_of new)
    put_whole_writes did = did_steps (WritesWhole at bytes) (moves_forget (ArePut at bytes) (IsTorn at bytes)) old new
        (did_as (Moves (ArePut at bytes) (AreTorn at bytes)) (WritesWhole at bytes) old new
        (moves_as (ArePut at bytes) (ArePut at bytes) (AreTorn at bytes) (IsTorn at bytes) (λ f g put. put) (λ f g. torn_within at bytes f g within)) did)

    part_whole_fails : Did (Part at bytes 0) old new → Steps (FailsToWriteWhole at bytes) (view_of old) (view_of new)
    part_whole_fails did = did_steps (FailsToWriteWhole at bytes) (moves_forget (AreWholeOrNot at bytes) (IsTorn at bytes)) old new
        (did_as (Part at bytes 0) (FailsToWriteWhole at bytes) old new
        (moves_as (IsPartPut 0 at bytes) (AreWholeOrNot at bytes) (AreTorn at bytes) (IsTorn at bytes) (λ f g. part_whole at bytes 0 f g (within_sector at (length bytes) within)) (λ f g. torn_within at bytes f g within)) did)

    pub whole_does : {A E : Type 0} (r : Result A E) → DidOr (λ x. Moves (ArePut at bytes) (AreTorn at bytes)) (Part at bytes 0) r old new
        → Does (λ x. WritesWhole at bytes) (FailsToWriteWhole at bytes) r (view_of old) (view_of new)
    whole_does (Ok x) did = put_whole_writes did
    whole_does (Err e) did = part_whole_fails did

  -- what they say of the bytes of the file
  pub did_put : Did (Moves (ArePut at bytes) (AreTorn at bytes)) old new → (s : World) → IsTrue (is_honest_after s new) → ArePut at bytes (bytes_after s old) (bytes_after s new)
  did_put did s honest =
      let moves : ArePut at bytes (world_after [] s old).held (world_after [] s new).held = (did.does [] s honest).held in
      subst (λ (b : List ℕ). ArePut at bytes b (bytes_after s new)) (held_is [] s old) (subst (λ (b : List ℕ). ArePut at bytes (world_after [] s old).held b) (held_is [] s new) moves)

pub did_size : (count : ℕ) (old new : List Event) → Did (Moves (IsSized count) (IsSizedOrNot count)) old new → (s : World) → IsTrue (is_honest_after s new) → length (bytes_after s new) ≡ count
did_size count old new did s honest = ap (λ (b : List ℕ). length b) (sym (held_is [] s new)) ∙ (did.does [] s honest).held.len

pub sync_keeps : {A E : Type 0} (r : Result A E) (old new : List Event) → DidOr (λ x. IsSynced) IsUnsynced r old new → (s : World) → IsTrue (is_honest_after s new)
    → IsTrue (is_honest_after s old) × (bytes_after s new ≡ bytes_after s old)
sync_keeps (Ok x) old new did s honest = (did.falls s honest, sym (held_is [] s new) ∙ (did.does [] s honest).held ∙ held_is [] s old)
sync_keeps (Err e) old new did s honest = (did.falls s honest, sym (held_is [] s new) ∙ (did.does [] s honest).held ∙ held_is [] s old)

pub size_fails : (count : ℕ) (old new : List Event) → Did (Moves (IsSizedOrNot count) (IsSizedOrNot count)) old new → Steps (FailsToSize count) (view_of old) (view_of new)
size_fails count old new did = did_steps (FailsToSize count) (moves_forget (IsSizedOrNot count) (IsSizedOrNot count)) old new did

-- ---- a change after calls that rest

stays_moves : (call torn : List ℕ → List ℕ → Type 0) (u v w : views.World) → Stays u v → Moves call torn v w → Moves call torn u w
stays_moves call torn u v w same m = grind arith

pub rests_did : (old new : List Event) → Rests old new → Did Stays old new
rests_did old new r = grind (arith, rests_place, held_is)

pub rests_moves : (call torn : List ℕ → List ℕ → Type 0) (old mid new : List Event) → Rests old mid → Did (Moves call torn) mid new → Did (Moves call torn) old new
rests_moves call torn old mid new rests did = did_then Stays (Moves call torn) (Moves call torn) old mid new (stays_moves call torn) (rests_did old mid rests) did

-- calls after an answer that no honest file gives
pub lost_did : (e f : Effect) (old mid new : List Event) → Did e old mid → ((s : World) → IsTrue (is_honest_after s mid) → ⊥) → Falls mid new → PlaceStays mid new → Did f old new
lost_did e f old mid new did lost falls place = grind arith

pub rests_steps : (old new : List Event) → Rests old new → Steps Stays (view_of old) (view_of new)
rests_steps old new r = did_steps Stays (λ u v same. record { held = same.held; leave = λ c may. may; keep = λ c may. may }) old new (rests_did old new r)

-- ---- one write of the first page

module _ (bytes : List ℕ) (old new : List Event) where
  pub page_writes : Did (Moves (ArePut 0 bytes) (AreTorn 0 bytes)) old new → Steps (WritesPage bytes) (view_of old) (view_of new)
  page_writes did = did_steps (WritesPage bytes) (moves_forget (ArePut 0 bytes) (AreAny 0 (length bytes))) old new
      (did_as (Moves (ArePut 0 bytes) (AreTorn 0 bytes)) (WritesPage bytes) old new
      (moves_as (ArePut 0 bytes) (ArePut 0 bytes) (AreTorn 0 bytes) (AreAny 0 (length bytes)) (λ f g put. put) (λ f g torn. torn.any)) did)

  pub page_fails : length bytes ≤ 4096 → Did (Part 0 bytes 0) old new → Steps (FailsToWritePage bytes) (view_of old) (view_of new)
  page_fails few did = grind (arith, common_steps, did_steps, moves_forget, did_as, moves_as, part_whole, within_page)

  pub page_unmade : length bytes ≤ 4096 → Rests old new → Steps (FailsToWritePage bytes) (view_of old) (view_of new)
  page_unmade few rests = page_fails few (did_as Stays (Part 0 bytes 0) old new
      (λ u v same. stays_moves (IsPartPut 0 0 bytes) (AreTorn 0 bytes) u v v same (moves_none (IsPartPut 0 0 bytes) (AreTorn 0 bytes) (part_none 0 bytes) (torn_none 0 bytes) v)) (rests_did old new rests))

-- ---- reading, as rrd_change asks for it

asked_held : (s : List ℕ) (w : views.World) → (world_asked s w).held ≡ w.held
asked_held [] w = refl
asked_held (zero ∷ rest) w = refl
asked_held (suc more ∷ rest) w = refl

view_held : (d s : List ℕ) (events : List Event) → ((view_of events).world d s).held ≡ bytes_after (world_of (file_of s)) events
view_held d s events = asked_held s (world_after d (world_of (file_of s)) events) ∙ held_is d (world_of (file_of s)) events

pub counts_steps : (n : ℕ) (old new : List Event) → Rests old new → HasLength n new → Steps (Counts n) (view_of old) (view_of new)
counts_steps n old new rests has = grind (arith, rests_steps, honest_in, view_held)

pub reads_does : {A E : Type 0} (r : Result A E) (at count : ℕ) (into : List ℕ) (old new : List Event) → Rests old new
    → OnOk r ((s : World) → IsTrue (is_honest_after s new) → AreAt (bytes_after s new) at count into) → Does (λ x. Reads at count into) Stays r (view_of old) (view_of new)
reads_does (Err e) at count into old new rests got = rests_steps old new rests
reads_does (Ok x) at count into old new rests got = grind (arith, rests_steps, view_held, honest_in)
