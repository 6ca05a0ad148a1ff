-- What a load has found, by what is in memory.
use Rattle.std.proofs.Common.{◌≡◌, if◌then◌else◌, ℕ, Bool, true, false, List, Ok, Option, Some, subst, sym}
use Rattle.rrd_file.specs.Faults.{IsFile}
use Rattle.rrd_file.specs.declared.encoded.Encoded.{Encoded}
use Rattle.rrd_spec.specs.Journal.Survivors.{Stored}
use Rattle.rrd_store.specs.Sessions.{HasBytes}
use Rattle.rrd_store.specs.Storages.{Bytes, Finds, Held, Missing}

-- the same for equal contents, and for an equal result
pub found_moved : (old new : Option Held) (loaded given : Option Stored) → new ≡ old → loaded ≡ given → Finds old (Ok loaded) → Finds new (Ok given)
found_moved old new loaded given same is found = subst (λ h. Finds h (Ok given)) (sym same) (subst (λ o. Finds old (Ok o)) is found)

-- if a database is found, the bytes are its file
pub found_file : (is_missing : Bool) (bytes : List ℕ) (d : Stored) → Finds (Some (if is_missing then Missing else Bytes bytes)) (Ok (Some d)) → IsFile bytes d
found_file true bytes d found = absurd found
found_file false bytes d found = found

-- and a copy of them is what the storage represents
pub has_copy : (is_missing : Bool) (bytes : List ℕ) (d : Stored) (encoded : Option Encoded) → Finds (Some (if is_missing then Missing else Bytes bytes)) (Ok (Some d))
    → HasBytes (Some (Bytes bytes)) encoded → HasBytes (Some (if is_missing then Missing else Bytes bytes)) encoded
has_copy true bytes d encoded found copied = absurd found
has_copy false bytes d encoded found copied = copied
