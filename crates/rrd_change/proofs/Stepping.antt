-- Lemmas on calls one after another.
use Rattle.rrd_change.proofs.Names.{arith, ◌≡◌, ℕ, List, Result, IsErr, Does, Effect, Fails, IsSynced, IsUnsynced, Moves, Steps, Stores, View, World, seen, Syncs, Never}

-- two effects, one after the other, are a third
pub steps_then : (e f g : Effect) (old mid new : View) → ((u v w : World) → e u v → f v w → g u w) → Steps e old mid → Steps f mid new → Steps g old new
steps_then e f g old mid new join s t = grind arith

pub steps_as : (e f : Effect) (old new : View) → ((u v : World) → e u v → f u v) → Steps e old new → Steps f old new
steps_as e f old new to s = record { falls = s.falls; does = λ d x honest. to (old.world d x) (new.world d x) (s.does d x honest) }

pub moves_then : (c d e t u v : List ℕ → List ℕ → Type 0) → ((x y z : List ℕ) → c x y → d y z → e x z) → ((x y z : List ℕ) → t x y → u y z → v x z) →
    (old mid new : World) → Moves c t old mid → Moves d u mid new → Moves e v old new
moves_then c d e t u v calls torn old mid new m n = grind arith

pub moves_as : (c d t u : List ℕ → List ℕ → Type 0) → ((x y : List ℕ) → c x y → d x y) → ((x y : List ℕ) → t x y → u x y) →
    (old new : World) → Moves c t old new → Moves d u old new
moves_as c d t u calls torn old new m = grind arith

-- of a file that is never synced nothing is claimed of the disk
abbrev pub blind : World → World
blind w = record { held = w.held; may_leave = λ c. ⊥; may_keep = λ c. ⊥ }

pub seen_as : (syncs : Syncs) (e : Effect) (old new : View) → ((u v : World) → e u v → e (blind u) (blind v)) → Steps e old new → Steps e (seen syncs old) (seen syncs new)
seen_as syncs e old new to s = grind arith

pub seen_moves : (syncs : Syncs) (c t : List ℕ → List ℕ → Type 0) (old new : View) → Steps (Moves c t) old new → Steps (Moves c t) (seen syncs old) (seen syncs new)
seen_moves syncs c t old new s = seen_as syncs (Moves c t) old new (λ u v m. record { held = m.held; leave = λ z left. absurd left; keep = λ z kept. absurd kept }) s

pub never_steps : (syncs : Syncs) (e f : Effect) (old new : View) → syncs ≡ Never →
    ((u v : World) → ((c : List ℕ) → v.may_leave c → ⊥) → ((c : List ℕ) → v.may_keep c → ⊥) → e u v → f u v) →
    Steps e (seen syncs old) (seen syncs new) → Steps f (seen syncs old) (seen syncs new)
never_steps syncs e f old new is to s = grind arith

-- a call that ended with an error
pub failed : {A E : Type 0} (well : A → Effect) (badly : Effect) (r : Result A E) (old new : View) → IsErr r → Steps badly old new → Does well badly r old new
failed well badly r old new is s = grind arith

-- a call, and then a sync
pub then_sync : {A E : Type 0} (c e t : List ℕ → List ℕ → Type 0) (r : Result A E) (old mid new : View) → ((x y : List ℕ) → c x y → e x y) →
    Steps (Moves c t) old mid → Does (λ x. IsSynced) IsUnsynced r mid new → Does (λ x. Stores c) (Fails e t) r old new
then_sync c e t r old mid new also m s = grind arith

pub moves_fail : (c t : List ℕ → List ℕ → Type 0) (old new : View) → Steps (Moves c t) old new → Steps (Fails c t) old new
moves_fail c t old new m = grind arith

pub seen_does : {A E : Type 0} (syncs : Syncs) (c e t : List ℕ → List ℕ → Type 0) (r : Result A E) (old new : View) → Does (λ x. Moves c t) (Moves e t) r old new →
    Does (λ x. Moves c t) (Moves e t) r (seen syncs old) (seen syncs new)
seen_does syncs c e t r old new s = grind arith

pub nothing : (e : Effect) (v : View) → ((w : World) → e w w) → Steps e v v
nothing e v h = record { falls = λ x honest. honest; does = λ d x honest. h (v.world d x) }

pub does_then : {X E : Type 0} (a : Effect) (b d : X → Effect) (e f : Effect) (r : Result X E) (old mid new : View) → ((x : X) (u v w : World) → a u v → b x v w → d x u w) →
    ((u v w : World) → a u v → e v w → f u w) → Steps a old mid → Does b e r mid new → Does d f r old new
does_then a b d e f r old mid new well badly s t = grind arith

-- one effect of a call that ends well, and another one of the same call if it fails
pub does_of : {X E : Type 0} (a b : X → Effect) (e f : Effect) (r : Result X E) (old new : View) → Does a e r old new → Does b f r old new → Does a f r old new
does_of a b e f r old new s t = grind arith
