-- Lemmas on what calls leave of a property that the file has, and whatever the disk may have.
use Rattle.rrd_change.proofs.Names.{Change, Fill, IsLogHeld, IsLogLeft, Leads, LogEnd, ℕ, List, sym, subst, Result, All, Does, Effect, Fails, IsHeld, Moves, Stores, View, World, length, ◌≤◌, ArePut, AreWholeOrNot, IsTorn, arith, ◌≡◌, ◌⊎◌}

pub does_as : {X E : Type 0} (a b : X → Effect) (e f : Effect) (r : Result X E) (old new : View) → ((x : X) (u v : World) → a x u v → b x u v) → ((u v : World) → e u v → f u v) →
    Does a e r old new → Does b f r old new
does_as a b e f r old new well badly s = grind arith

pub moves_all : (G H : List ℕ → Type 0) (c t : List ℕ → List ℕ → Type 0) (u v : World) → ((x y : List ℕ) → G x → c x y → H y) → ((x y : List ℕ) → G x → t x y → H y) →
    Moves c t u v → All G u → All H v
moves_all G H c t u v calls torn m a = grind arith

pub stores_all : (G H : List ℕ → Type 0) (c : List ℕ → List ℕ → Type 0) (u v : World) → ((x y : List ℕ) → G x → c x y → H y) → Stores c u v → All G u → All H v
stores_all G H c u v calls m a = grind arith

-- what holds of a file that stays the same, or to which something happens
pub unless : (Q : List ℕ → Type 0) (C : Type 0) (b f : List ℕ) → Q b → (C → Q f) → (f ≡ b) ⊎ C → Q f
unless Q C b f was to h = grind arith

pub fails_disk : (D E : List ℕ → Type 0) (c t : List ℕ → List ℕ → Type 0) (u v : World) → ((x y : List ℕ) → D x → c x y → E y) → ((x y : List ℕ) → D x → t x y → E y) →
    Fails c t u v → ((x : List ℕ) → u.may_leave x → D x) → ((x : List ℕ) → u.may_keep x → D x) → ((y : List ℕ) → v.may_leave y → E y) × ((y : List ℕ) → v.may_keep y → E y)
fails_disk D E c t u v calls torn m leave keep = grind arith

pub fails_all : (G H : List ℕ → Type 0) (c t : List ℕ → List ℕ → Type 0) (u v : World) → ((x y : List ℕ) → G x → c x y → H y) → ((x y : List ℕ) → G x → t x y → H y) →
    Fails c t u v → All G u → All H v
fails_all G H c t u v calls torn m a = grind arith

-- a mark was written, or was not
pub marks_all : (G H : List ℕ → Type 0) (mark : List ℕ) (u v : World) → ((x : List ℕ) → G x → H x) → ((x : List ℕ) → G x → length mark ≤ length x) →
    ((x y : List ℕ) → G x → ArePut 0 mark x y → H y) → Fails (AreWholeOrNot 0 mark) (IsTorn 0 mark) u v → All G u → All H v
marks_all G H mark u v none long put f a = grind arith

pub all_as : (G H : List ℕ → Type 0) (w : World) → ((x : List ℕ) → G x → H x) → All G w → All H w
all_as G H w to a = record { held = to w.held a.held; leave = λ c left. to c (a.leave c left); keep = λ c kept. to c (a.keep c kept) }

pub held_all : (bytes : List ℕ) (G : List ℕ → Type 0) (w : World) → G bytes → IsHeld bytes G w → All G w
held_all bytes G w is h = let P : List ℕ → Type 0 = λ xs. G xs in record { held = subst P (sym h.held) is; leave = h.leave; keep = h.keep }

-- a log that leads to a database
pub held_left : (end : LogEnd) (other now old : List ℕ) (tail : ℕ) (cs : List Change) (w : World) → Leads old cs now → Fill (length old) cs → IsLogHeld end other now old tail cs w →
    IsLogLeft end other now w
held_left end other now old tail cs w leads fill h = record { old = old; tail = tail; changes = cs; leads = leads; fill = fill; world = h }
