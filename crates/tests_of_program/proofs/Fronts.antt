-- What is no database: few bytes, and the front of the file of one. What a failed write may leave.
use Rattle.std.proofs.Common.{◌≡◌, ◌∙◌, ◌<◌, ◌++◌, if◌then◌else◌, ℕ, Bool, List, Some, subst, sym, ap, refl, inl, inr, arith, length, take, drop}
use Rattle.std.proofs.lemmas.List.{length-drop, take-append-drop}
use Rattle.rrd_spec.specs.Journal.Survivors.{Stored}
use Rattle.rrd_spec.specs.declared.version.Version.{Version}
use Rattle.rrd_file.specs.Laws.{FileBegins, FileIsLayout, NoFrontOfAnother}
use Rattle.rrd_file.specs.Layout.{layout_in}
use Rattle.rrd_store.specs.Storages.{Bytes, HasNone, Held, IsAfterFailure, IsAnyFile, IsNoFile, Missing}

pub short_is_none : ((bytes : List ℕ) (d : Stored) → FileBegins bytes d) → (bytes : List ℕ) → length bytes < 16 → IsNoFile bytes
short_is_none begins bytes short d file =
    let begin = begins bytes d file in
    absurd (omega (arith, short, begin.0))

pub front_is_none : ((bytes : List ℕ) (d : Stored) → FileIsLayout bytes d) → ((v w : Version) (d e : Stored) (more : List ℕ) → NoFrontOfAnother v w d e more)
    → (bytes : List ℕ) (room : ℕ) → IsAnyFile bytes → room < length bytes → IsNoFile (take room bytes)
front_is_none is_layout differ bytes room whole short d file =
    let split : take room bytes ++ drop room bytes ≡ bytes = take-append-drop room bytes in
    let more : layout_in file.version d ++ drop room bytes ≡ layout_in whole.1.version whole.0 =
    ap (λ (l : List ℕ). l ++ drop room bytes) (sym (is_layout (take room bytes) d file)) ∙ split ∙ is_layout bytes whole.0 whole.1 in
    let none = differ file.version whole.1.version d whole.0 (drop room bytes) file.valid whole.1.valid more in
    absurd (omega (arith, short, length-drop room bytes, ap length none.2))

pub kept : (held : Held) (bytes : List ℕ) → IsAfterFailure (Some held) (Some held) bytes
kept held bytes = inl refl

pub spoilt : (old : Held) (front bytes : List ℕ) → HasNone old → IsNoFile front → IsAfterFailure (Some old) (Some (Bytes front)) bytes
spoilt old front bytes none cut = inr (inr (none, front, refl, cut))

-- the same for equal contents
pub moved : (a b : Bool) (xs ys : List ℕ) → a ≡ b → xs ≡ ys → HasNone (if a then Missing else Bytes xs) → HasNone (if b then Missing else Bytes ys)
moved a b xs ys p q h = subst (λ m. HasNone (if m then Missing else Bytes ys)) p (subst (λ l. HasNone (if a then Missing else Bytes l)) q h)

pub kept_moved : (a b : Bool) (xs ys bytes : List ℕ) → a ≡ b → xs ≡ ys
    → IsAfterFailure (Some (if b then Missing else Bytes ys)) (Some (if a then Missing else Bytes xs)) bytes
kept_moved a b xs ys bytes p q =
    subst (λ m. IsAfterFailure (Some (if m then Missing else Bytes ys)) (Some (if a then Missing else Bytes xs)) bytes) p
    (subst (λ l. IsAfterFailure (Some (if a then Missing else Bytes l)) (Some (if a then Missing else Bytes xs)) bytes) q (kept _ bytes))
