-- The end of the runs on a file that stayed open: what is prepared represents what it represented.
use Rattle.rrd_disk.proofs.Names.{arith, ◌≡◌, List, Option, Some, None, Result, Ok, Err, ap, subst, sym, Base, Log, Falls, Rests, IsSound, represented, Event, Finishes, IsKept, IsReload, LeavesSound, Settles, IsPrepared, Prepares, Found, Kept, Open, Encoded, Stored, Held}
use Rattle.rrd_disk.proofs.Storing.{sound_as, sound_at}

-- what was prepared is sound
abbrev IsSame : Held → Held → Type 0
IsSame old new = IsSound new × (represented new ≡ represented old)

prepared_same : {E : Type 0} (result : Result (Option Base) E) (old new : Held) → IsSound old → IsPrepared result old new → IsSame old new
prepared_same (Ok None) old new sound is = (subst IsSound (sym is.0) sound, ap represented is.0)
prepared_same (Ok (Some base)) old new sound is = (sound_as (Open base) new is.1, is.0)
prepared_same (Err error) old new sound is = (is.0, is.1)

-- nothing was done
pub rests_settles : (old new : List Event) → Rests old new → Settles old new
rests_settles old new rests = λ w honest sound there. (subst IsSound (sym (rests.held w)) sound, ap represented (rests.held w))

-- the file was prepared, after calls that change nothing
pub prepared_settles : {E : Type 0} (result : Result (Option Base) E) (old mid new : List Event) → Rests old mid → Prepares mid new result → Settles old new
prepared_settles result old mid new rests prepares = grind (arith, prepared_same)

pub finished : (found : Found) (base : Base) (log : Option Log) → found ≡ Kept base log → (old new : List Event) → Settles old new → Finishes found old new
finished found base log kept old new settles w honest sound = grind (arith, sound_at, sound_as)

-- what is in memory was kept up to the end, so the calls of the end changed nothing that the file represents
pub reloaded : (found : Found) (old new : List Event) (database : Option Stored) (encoded : Option Encoded) → Falls old new → Finishes found old new
    → IsKept found old database encoded → IsReload old new
reloaded found old new database encoded falls same kept w honest is = grind arith

pub finished_sound : (found : Found) (old new : List Event) (database : Option Stored) (encoded : Option Encoded) → Falls old new → Finishes found old new
    → IsKept found old database encoded → LeavesSound new
finished_sound found old new database encoded falls same kept w honest is = (same w honest (kept w (falls w honest) is).sound).0
