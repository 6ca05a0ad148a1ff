-- Calls that change nothing, one after another.
use Rattle.rrd_disk.proofs.Names.{arith, ◌≡◌, ℕ, Bool, true, false, List, [], ◌∷◌, Option, Some, None, IsTrue, refl, sym, subst, inl, KeepsHeldFor, Rests, RestsFor, opened, Event, Made, Locked, NoLocks, Measured, Got, Put, PutFailed, Sized, SizeFailed, Synced, SyncFailed, Streamed, locked, moved, world_after, World, bytes_after, held_after, part_after, Facts, Lock, LockResult, Taken, Lacking, Opening, Read, Write, Make}
use Rattle.rrd_disk.specs.Calls.{seen}
use Rattle.rrd_disk.specs.Events.{Found, Missing}
use Rattle.rrd_change.specs.Views as views

-- ---- the file of a world

moved_held : (held : List ℕ) (part : ℕ) (e : Event) (w : views.World) → (moved held part e w).held ≡ held
moved_held held part (Put at bytes taken) w = refl
moved_held held part _ w = refl

pub held_is : (d : List ℕ) (w : World) (events : List Event) → (world_after d w events).held ≡ bytes_after w events
held_is d w [] = refl
held_is d w (e ∷ earlier) = moved_held (bytes_after w (e ∷ earlier)) (part_after w earlier) e (world_after d w earlier)

-- ---- calls that change nothing

pub rests_refl : (events : List Event) → Rests events events
rests_refl events = record { falls = λ s honest. honest; held = λ s. refl; leave = λ d w c may. may; keep = λ d w c may. may }

pub rests_then : (opening : Opening) (old mid new : List Event) → RestsFor opening old mid → RestsFor opening mid new → RestsFor opening old new
rests_then opening old mid new first second = grind arith

pub rests_trans : (old mid new : List Event) → Rests old mid → Rests mid new → Rests old new
rests_trans old mid new first second = rests_then Read old mid new first second
