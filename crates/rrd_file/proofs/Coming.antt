-- The pieces of an entry, one after another.
use Rattle.std.specs.Prelude.{◌≡◌, ◌≢◌, ◌++◌, ◌∷◌, ◌+◌, ◌<◌, ℕ, suc, List, [], length}
use Rattle.rrd_file.proofs.Names.{◌∙◌, sym, ap, subst, refl, length-append, arith, take_at, get_or, flat_map, EntryDue, Entry, Filed, MayEntry, due, limits, outline_left, with_entry, FileFault, BadEntry, Front, IsBad, IsFault, bad_in_body, Gives, Input, IsCut, left, entry_pieces, OfTag, Piece, Tag, spell, tag_byte, IsShaped, Body, DueInEntry, GoesOn, IsTagWithin, MayTag, Stage, Takes, Within, behind, body_size, first_due, size, size_due, Comes, Stands}
use Rattle.rrd_file.specs.Stages.{Keeps}
use Rattle.rrd_file.proofs.OneShape.{shaped_one, undo_shaped}
use Rattle.rrd_file.proofs.Reached.{cut, front_more, gives_rest, refused}
use Rattle.rrd_file.proofs.Ways.{Step, step_of}
use Rattle.rrd_file.proofs.OneSpelling.{tag_one}

some_due : (d : DueInEntry) → 0 < size_due d
some_due x = grind arith

-- the stage, where something is due
pub inside : (bytes : List ℕ) (f : Filed) (pieces : List Piece) (d : DueInEntry) (later : List DueInEntry) (input : Input) → Comes bytes f pieces (d ∷ later) input → Stands bytes (Within f pieces (d ∷ later)) input
inside bytes f pieces d later input c = grind (arith, c, front_more bytes c.stage (Within f pieces (d ∷ later)) c.last c.rest c.front (c.goes_on (Within f pieces (d ∷ later)) refl))

-- ---- a piece that came

-- it keeps to its rule, and no other that does is spelled so
pub came : (bytes : List ℕ) (f : Filed) (pieces : List Piece) (d : DueInEntry) (later : List DueInEntry) (old new : Input) (p : Piece) (piece : List ℕ)
    → Comes bytes f pieces (d ∷ later) old → Gives old piece new → spell p ≡ piece → size_due d ≡ length piece → Keeps (limits f) f.header.step (outline_left f) d p
    → ((q : Piece) → Keeps (limits f) f.header.step (outline_left f) d q → spell q ≡ spell p → q ≡ p)
    → Comes bytes f (pieces ++ p ∷ []) (behind f.header.step (outline_left f) d p ++ later) new
unfolding Takes size
came bytes f pieces d later old new p piece c g e len k one =
    let st = inside bytes f pieces d later old c in
    grind (arith, gives_rest (left old) (left new) piece st.rest st.left_is g.consumed, some_due, length-append)

-- none that keeps to the rule is spelled so
pub wrong : (bytes : List ℕ) (f : Filed) (pieces : List Piece) (d : DueInEntry) (later : List DueInEntry) (old new : Input) (piece : List ℕ)
    → Comes bytes f pieces (d ∷ later) old → Gives old piece new → size_due d ≡ length piece
    → ((q : Piece) → Keeps (limits f) f.header.step (outline_left f) d q → spell q ≢ piece) → IsBad bytes (BadEntry (suc (length f.entries)))
unfolding Takes size
wrong bytes f pieces d later old new piece c g len none =
    refused bytes (Within f pieces (d ∷ later)) piece old new (BadEntry (suc (length f.entries))) (inside bytes f pieces d later old c) g len (omega (arith, len, some_due d)) (λ q n t. none q t.0) refl

-- it did not come whole
pub cut_within : (bytes : List ℕ) (f : Filed) (pieces : List Piece) (d : DueInEntry) (later : List DueInEntry) (old : Input) (n : ℕ) (fault : FileFault) → Comes bytes f pieces (d ∷ later) old → size_due d ≡ n → IsCut old n fault → IsFault bytes fault
unfolding size
cut_within bytes f pieces d later old n fault c len is = cut bytes (Within f pieces (d ∷ later)) n old fault (inside bytes f pieces d later old c) len is

-- ---- the tag

-- where an entry is due, a piece is its tag
tag_step : {f : Filed} {q : Piece} {next : Stage} → due f ≡ EntryDue → Step (Body f) q next → (u : Tag) × (q ≡ OfTag u) × IsTagWithin (limits f) u × GoesOn f (OfTag u ∷ []) (first_due u) next
tag_step e h = grind arith

byte_of : (t u : Tag) → spell (OfTag u) ≡ spell (OfTag t) → tag_byte u ≡ tag_byte t
unfolding spell
byte_of t u e = ap (λ l. get_or l 0 0) e

pub came_first : (bytes : List ℕ) (f : Filed) (t : Tag) (old new : Input) (piece : List ℕ) → MayTag f t → Stands bytes (Body f) old → Gives old piece new → spell (OfTag t) ≡ piece → length piece ≡ 1 → Comes bytes f (OfTag t ∷ []) (first_due t) new
unfolding Takes size
came_first bytes f t old new piece may st g e len =
    let is_due = may.is_due in
    let after = gives_rest (left old) (left new) piece st.rest st.left_is g.consumed in
    let is : st.rest ≡ spell (OfTag t) ++ after.0 = after.2 ∙ ap (λ l. l ++ after.0) (sym e) in
    record {
      rest = after.0;
      stage = Body f;
      last = OfTag t;
      some = omega (arith, ap length e, len);
      front = subst (Front bytes (Body f)) is st.front;
      whole = ap length e ∙ len ∙ sym (ap body_size is_due);
      goes_on = λ next goes. (may, goes);
      only = λ q next taken same.
          let it = tag_step is_due (step_of (Body f) q next taken) in
          let byte : tag_byte it.0 ≡ tag_byte t = byte_of t it.0 (sym (ap spell it.1) ∙ same) in
          subst (λ (u : Tag). GoesOn f (OfTag u ∷ []) (first_due u) next) (tag_one it.0 t byte) it.3;
      fault_is = λ at. sym (ap (bad_in_body f at) is_due);
      left_is = after.1;
      place = omega (arith, st.place, g.advanced, ap length after.2, length-append piece after.0);
    }

-- no tag is spelled so
pub wrong_tag : (bytes : List ℕ) (f : Filed) (old new : Input) (piece : List ℕ) → due f ≡ EntryDue → Stands bytes (Body f) old → Gives old piece new → length piece ≡ 1 → ((u : Tag) → IsTagWithin (limits f) u → spell (OfTag u) ≢ piece) → IsBad bytes (BadEntry (suc (length f.entries)))
unfolding size
wrong_tag bytes f old new piece is_due st g len none =
    refused bytes (Body f) piece old new (BadEntry (suc (length f.entries))) st g (ap body_size is_due ∙ sym len) (omega (arith, len))
    (λ q n t e. let it = tag_step is_due (step_of (Body f) q n t) in none it.0 it.2 (sym (ap spell it.1) ∙ e)) (sym (ap (bad_in_body f old.at) is_due))

pub cut_tag : (bytes : List ℕ) (f : Filed) (old : Input) (n : ℕ) (fault : FileFault) → due f ≡ EntryDue → Stands bytes (Body f) old → n ≡ 1 → IsCut old n fault → IsFault bytes fault
unfolding size
cut_tag bytes f old n fault is_due st len is = cut bytes (Body f) n old fault st (ap body_size is_due ∙ sym len) is

-- ---- after the last piece

-- the entry may come
pub closed : (bytes : List ℕ) (f new : Filed) (input : Input) (e : Entry) → Comes bytes f (entry_pieces e) [] input → MayEntry f e × (new ≡ with_entry f e) → Stands bytes (Body new) input
closed bytes f new input e c m = grind (arith, c, front_more bytes c.stage (Body new) c.last c.rest c.front (c.goes_on (Body new) (e, refl, m.0, ap Body m.1)))

-- it may not: no entry with these pieces may
pub denied : (bytes : List ℕ) (f : Filed) (input : Input) (e : Entry) → Comes bytes f (entry_pieces e) [] input → IsShaped f e → (MayEntry f e → ⊥) → IsBad bytes (BadEntry (suc (length f.entries)))
denied bytes f input e c shaped never =
    let before = flat_map spell c.front.pieces in
    let long : length bytes ≡ length before + (length (spell c.last) + length c.rest) = ap length c.front.parts ∙ length-append before (spell c.last ++ c.rest) ∙ ap (λ n. length before + n) (length-append (spell c.last) c.rest) in
    record {
      stage = c.stage;
      rest = spell c.last ++ c.rest;
      front = c.front;
      is_due = omega (arith, c.some, c.whole);
      whole = omega (arith, c.whole, length-append (spell c.last) c.rest);
      none = λ q n t same.
          let goes = c.only q n t (same ∙ take_at (spell c.last) c.rest (size c.stage) c.whole) in
          never (subst (MayEntry f) (shaped_one f goes.0 e (undo_shaped f goes.0 goes.2) shaped goes.1) goes.2);
      at = length before;
      place = omega (arith, long, length-append (spell c.last) c.rest);
      fault_is = c.fault_is (length before);
    }
