-- Pieces that came one after another, and how they lead from stage to stage.
use Rattle.std.specs.Prelude.{◌≡◌, ◌≢◌, ◌++◌, ◌∷◌, ◌<◌, ◌≤◌, ◌⊎◌, ℕ, List, [], take, length, Option, Some, None, IfSome}
use Rattle.rrd_file.proofs.Names.{◌∙◌, sym, ap, subst, refl, append_assoc, append-nil, length-append, arith, take_at, flat_map, Consumes, Keeps, flat_map-cons, Filed, due, CellDue, FileFault, Front, IsBad, IsFault, bad_at, Advances, Gives, Input, IsCut, left, Piece, spell, Runs, Stage, Start, Takes, size, Stands}

-- ---- one piece more

runs_more : (a b c : Stage) (ps : List Piece) (p : Piece) → Runs a ps b → Takes b p c → Runs a (ps ++ p ∷ []) c
runs_more a b c [] p r t = (c, subst (λ (s : Stage). Takes s p c) (sym r) t, refl)
runs_more a b c (q ∷ ps) p r t = (r.0, r.1, runs_more r.0 b c ps p r.2 t)

spelled_end : (ps : List Piece) (p : Piece) (rest : List ℕ) → flat_map spell (ps ++ p ∷ []) ++ rest ≡ flat_map spell ps ++ (spell p ++ rest)
spelled_end [] p rest = ap (λ l. l ++ rest) (flat_map-cons spell p [] ∙ append-nil (spell p))
spelled_end (q ∷ ps) p rest = cc (flat_map-cons spell q (ps ++ p ∷ []), append_assoc (spell q) (flat_map spell (ps ++ p ∷ [])) rest, spelled_end ps p rest, append_assoc (spell q) (flat_map spell ps) (spell p ++ rest), flat_map-cons spell q ps)

pub front_more : (bytes : List ℕ) (s n : Stage) (p : Piece) (rest : List ℕ) → Front bytes s (spell p ++ rest) → Takes s p n → Front bytes n rest
front_more bytes s n p rest f t = grind (arith, f.pieces ++ p ∷ [], runs_more Start s n f.pieces p f.runs t, f.parts ∙ sym (spelled_end f.pieces p rest))

-- ---- what a reader has left

some_is : (x y : List ℕ) → Some x ≡ Some y → x ≡ y
some_is x y e = cc

none_is : {A : Type 0} (x : List ℕ) → None ≡ Some x → A
none_is x e = absurd cc

pub gives_rest : (a b : Option (List ℕ)) (piece rest : List ℕ) → a ≡ Some rest → Consumes a b piece → (after : List ℕ) × (b ≡ Some after) × (rest ≡ piece ++ after)
gives_rest a b piece rest e c = grind arith

pub if_some_at : (a : Option (List ℕ)) (x : List ℕ) (P : List ℕ → Type 0) → a ≡ Some x → IfSome a P → P x
if_some_at a x P e h = subst (λ (o : Option (List ℕ)). IfSome o P) e h

keeps_rest : (a b : Option (List ℕ)) (rest : List ℕ) → a ≡ Some rest → Keeps a b → b ≡ Some rest
keeps_rest a b rest e k = grind arith

-- more came, and none was taken
pub waited_for : (bytes : List ℕ) (s : Stage) (old new : Input) → Stands bytes s old → Keeps (left old) (left new) → new.at ≡ old.at → Stands bytes s new
waited_for bytes s old new st keeps at = grind (arith, st, keeps_rest (left old) (left new) st.rest st.left_is keeps)

-- ---- a piece that came

-- it may come
pub taken : (bytes : List ℕ) (s n : Stage) (p : Piece) (piece : List ℕ) (old new : Input) → Stands bytes s old → Gives old piece new → spell p ≡ piece → Takes s p n → Stands bytes n new
taken bytes s n p piece old new st g e t = grind (arith, gives_rest, front_more, length-append)

-- none that may come is spelled so
pub refused : (bytes : List ℕ) (s : Stage) (piece : List ℕ) (old new : Input) (fault : FileFault) → Stands bytes s old → Gives old piece new → size s ≡ length piece → 0 < length piece
    → ((q : Piece) (n : Stage) → Takes s q n → spell q ≢ piece) → fault ≡ bad_at s old.at → IsBad bytes fault
refused bytes s piece old new fault st g len some none is =
    let after = gives_rest (left old) (left new) piece st.rest st.left_is g.consumed in
    let same : take (size s) st.rest ≡ piece = ap (take (size s)) after.2 ∙ take_at piece after.0 (size s) (sym len) in
    grind (arith, length-append)

-- it did not come whole
pub cut : (bytes : List ℕ) (s : Stage) (n : ℕ) (old : Input) (fault : FileFault) → Stands bytes s old → size s ≡ n → IsCut old n fault → IsFault bytes fault
cut bytes s n old x st len c = grind arith

-- nothing came yet
pub begins : (bytes : List ℕ) (known : Option (List ℕ)) → known ≡ Some bytes → Stands bytes Start (record { waiting = []; behind = known; at = 0 })
begins bytes None e = none_is bytes e
begins bytes (Some xs) e = grind (arith, bytes, e)

-- ---- cells

-- a cell is due and waits, none having come
pub record CellWaits (f : Filed) (first now : Input) : Type 0 where
  pub due_is : due f ≡ CellDue
  pub waits : 16 ≤ length now.waiting
  pub at : now.at ≡ first.at

-- so it is, or one came
abbrev pub CellCame : Filed → Input → Input → Type 0
CellCame f first now = CellWaits f first now ⊎ Advances first now
