-- The pieces of an input come in one way only, as far as they go.
use Rattle.std.specs.Prelude.{◌≡◌, ◌++◌, ◌∷◌, ◌<◌, ℕ, List, [], length, take, ◌≢◌}
use Rattle.rrd_file.proofs.Names.{◌∙◌, sym, ap, subst, arith, append_assoc, length-append, take_at, flat_map-cons, Filed, Front, IsWhole, spelled, Piece, spell, Stage, Start, Body, Runs, Takes, size}
use Rattle.rrd_file.proofs.Lengths.{header_length, part_length}
use Rattle.rrd_file.proofs.OneEntry.{one_next}
use Rattle.rrd_file.proofs.OneSpelling.{one_at}
use Rattle.rrd_file.proofs.SignedBytes.{signed_length}
use Rattle.rrd_file.proofs.Sizes.{sizes}
use Rattle.rrd_file.proofs.Sound.{IsSoundStage, takes_sound}
use Rattle.rrd_file.proofs.Spelled.{append_same}

-- ---- where pieces end

-- no piece may come here that the rest begins with
abbrev pub EndsAt : Stage → List ℕ → Type 0
EndsAt s rest = (p : Piece) (n : Stage) (more : List ℕ) → Takes s p n → rest ≡ spell p ++ more → ⊥

some_bytes : (p : Piece) → 0 < length (spell p)
unfolding spell
some_bytes x = grind (arith, header_length, part_length, signed_length, length-append)

-- where no piece is due
pub ends_done : (s : Stage) (rest : List ℕ) → size s ≡ 0 → EndsAt s rest
ends_done s rest done p n more t e = absurd (omega (arith, done, sizes s p n t, some_bytes p))

-- where the input is cut
pub ends_short : (s : Stage) (rest : List ℕ) → length rest < size s → EndsAt s rest
ends_short s rest short p n more t e = absurd (omega (arith, short, sizes s p n t, length-append (spell p) more, ap length e))

-- where none of the pieces is there that may come
pub ends_bad : (s : Stage) (rest : List ℕ) → ((p : Piece) (n : Stage) → Takes s p n → spell p ≢ take (size s) rest) → EndsAt s rest
ends_bad s rest none p n more t e = none p n t (sym (take_at (spell p) more (size s) (sizes s p n t)) ∙ ap (take (size s)) (sym e))

-- ---- one way

cut : (p : Piece) (ps : List Piece) (a : List ℕ) → spelled (p ∷ ps) ++ a ≡ spell p ++ (spelled ps ++ a)
cut p ps a = ap (λ l. l ++ a) (flat_map-cons spell p ps) ∙ append_assoc (spell p) (spelled ps) a

pub one_end : (s : Stage) (ps qs : List Piece) (t u : Stage) (a b : List ℕ) → IsSoundStage s → Runs s ps t → Runs s qs u → EndsAt t a → EndsAt u b → spelled ps ++ a ≡ spelled qs ++ b → (t ≡ u) × (a ≡ b)
one_end s [] [] t u a b h r k ends end e = (sym r ∙ k, e)
one_end s [] (q ∷ qs) t u a b h r k ends end e = grind (arith, cut)
one_end s (p ∷ ps) [] t u a b h r k ends end e = grind (arith, cut)
one_end s (p ∷ ps) (q ∷ qs) t u a b h r k ends end e =
    let long : length (spell p) ≡ length (spell q) = sizes s p r.0 r.1 ∙ sym (sizes s q k.0 k.1) in
    let both = append_same (spell p) (spelled ps ++ a) (spell q) (spelled qs ++ b) long (sym (cut p ps a) ∙ e ∙ cut q qs b) in
    let piece : p ≡ q = one_at s p q r.0 k.0 h r.1 k.1 both.0 in
    let next : r.0 ≡ k.0 = one_next s q r.0 k.0 (subst (λ (x : Piece). Takes s x r.0) piece r.1) k.1 in
    one_end r.0 ps qs t u a b (takes_sound s p r.0 h r.1) r.2 (subst (λ (x : Stage). Runs x qs u) (sym next) k.2) ends end both.1

-- two fronts of an input and of one that goes on behind it
pub one_front : (bytes more : List ℕ) (s t : Stage) (a b : List ℕ) → Front bytes s a → Front (bytes ++ more) t b → EndsAt s (a ++ more) → EndsAt t b → (s ≡ t) × (a ++ more ≡ b)
one_front bytes more s t a b f g ends end = grind (arith, one_end Start f.pieces g.pieces s t (a ++ more) b tt f.runs g.runs ends end, append_assoc (spelled f.pieces) a more)

pub same_body : (f g : Filed) → Body f ≡ Body g → f ≡ g
same_body f g e = cc

-- a whole file is no front of another
pub one_layout : (bytes more : List ℕ) (f g : Filed) → IsWhole bytes f → IsWhole (bytes ++ more) g → (f ≡ g) × (more ≡ [])
one_layout bytes more f g w v =
    let both = one_front bytes more (Body f) (Body g) [] [] w.front v.front (ends_done (Body f) more w.done) (ends_done (Body g) [] v.done) in
    (same_body f g both.0, both.1)
