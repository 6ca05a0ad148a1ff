-- Law: writes one after another.
use Rattle.std.specs.Prelude.{◌++◌, ◌∷◌, ℕ, List, Option, Some, None, Result, Ok, Err}
use Rattle.std.specs.Io.KnownBytes.{Appends, Keeps}
use Rattle.std.proofs.Common.{◌∙◌, sym, ap, append_assoc}
use Rattle.std.proofs.KnownBytes.{Appends-trans}
use Rattle.rrd_fixed.specs.Written.{AppendsFront, Writes}
use Rattle.rrd_fixed.specs.declared.streams.WriteFault.{WriteFault}

-- the content stays after a write
pub Appends-kept : (a b c : Option (List ℕ)) (bs : List ℕ) → Appends a b bs → Keeps b c → Appends a c bs
Appends-kept None b c bs p q = tt
Appends-kept (Some x) None c bs p q = absurd p
Appends-kept (Some x) (Some y) None bs p q = absurd q
Appends-kept (Some x) (Some y) (Some z) bs p q = q ∙ p

-- a write, and then another one with either result
pub writes_then : {T : Type 0} (a b c : Option (List ℕ)) (xs ys : List ℕ) (r : Result T WriteFault)
    → Appends a b xs → Writes b c ys r → Writes a c (xs ++ ys) r
writes_then a b c xs ys (Ok x) p q = Appends-trans a b c xs ys p q
writes_then a b c xs ys (Err e) p q = (
  xs ++ q.0,
  q.1,
  q.2,
  ap (λ l. xs ++ l) q.3 ∙ sym (append_assoc xs q.0 (q.1 ∷ q.2)),
  Appends-trans a b c xs q.0 p q.4,
)

-- an error before the rest is written
pub writes_stop : (a b : Option (List ℕ)) (xs ys : List ℕ) → AppendsFront a b xs → AppendsFront a b (xs ++ ys)
writes_stop a b xs ys p = (p.0, p.1, p.2 ++ ys, ap (λ l. l ++ ys) p.3 ∙ append_assoc p.0 (p.1 ∷ p.2) ys, p.4)
