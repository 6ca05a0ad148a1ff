-- What follows from a fact about a result, for the values and for the errors.
use Rattle.std.proofs.Common.{Result, Ok, Err, OnOk, OnErr}

pub on_ok : {T E : Type 0} (r : Result T E) (P Q : Type 0) → (P → Q) → OnOk r P → OnOk r Q
on_ok (Ok x) P Q f p = f p
on_ok (Err e) P Q f p = tt

pub on_err : {T E : Type 0} (r : Result T E) (P Q : Type 0) → (P → Q) → OnErr r P → OnErr r Q
on_err (Ok x) P Q f p = tt
on_err (Err e) P Q f p = f p
