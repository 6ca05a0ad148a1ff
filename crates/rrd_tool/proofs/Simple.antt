-- clap states of the command exactly which words it takes.
use Rattle.std.specs.Prelude.{◌≡◌, []}
use Rattle.rrd_tool.proofs.Names.{inl, inr, subst, Kinds, HasKind, IsAmong, kind_of, Error}
use Rattle.clap.specs.declared.error.kind.ErrorKind.TheVariants.{OutOfMemory}

-- an error of another kind comes only where some kind may
pub refused : (ks : Kinds) (e : Error) → HasKind ks e → (kind_of e ≡ OutOfMemory → ⊥) → ks ≡ [] → ⊥
refused ks e h other none = elim h [ inl k ↦ other k | inr k ↦ let P : Kinds → Type 0 = λ ks. IsAmong (kind_of e) ks in subst P none k ]
