-- Words of an update that are no options are its samples, and some commands take no words.
use Rattle.std.specs.Prelude.{◌≡◌, ℕ, not, false, true, List, [], ◌∷◌, ◌++◌, Some, None, IfSome, Result, Ok, codes, option_map}
use Rattle.rrd_tool.proofs.Names.{arith, ◌∙◌, refl, ap, sym, ap₂, append_assoc, subst, AllByRecursion, fold, bytes_eq, Row, Shape, Text, Kinds, or_else, check_fault, defaults_fault, built, level_fault, settle_fault, turn_fault, walk_fault, Held, Walk, walk, nothing_held, settled, walk_from, walked, long_of, short_of, rows_at, entered_of, line_of, rrdi_app, name_text, IsReading, IsTaken, Meets, Command, LineFault, many_rule, update_app, are_values, begins_with_minus, samples_of}
use Rattle.clap.specs.Simple.{built_leaf, filled, inherited, with_index}
use Rattle.clap.specs.Walk.{positional, reading_by, with_default}
use Rattle.clap.specs.declared.parser.matches.ValueSource.TheVariants.{CommandLine}
use Rattle.rrd_tool.specs.Arguments.{bare_top}
use Rattle.rrd_tool.proofs.OnLiterals.{shapes_on_literals}
use Rattle.rrd_tool.proofs.Finding.{both}
use Rattle.rrd_tool.proofs.FirstWord.{entered_by, fault_by, named}
use Rattle.rrd_tool.proofs.Subcommand.{read_from}
use Rattle.rrd_tool.specs.declared.commands.Command.TheVariants as command
use Rattle.rrd_tool.specs.declared.commands.name.CommandName.TheVariants as verb

-- the shape of update in the whole command
abbrev shape : Shape
shape = built_leaf (inherited bare_top.top update_app.top)

shape_found : named (built rrdi_app) (name_text verb.Update) ≡ Some shape
unfolding shapes_on_literals
shape_found = refl

-- ---- a word that is no option

abbrev IsValue : Text → Type 0
IsValue word = (long_of word ≡ None) × (short_of word ≡ None) × (bytes_eq word (45 ∷ 45 ∷ []) ≡ false)

no_dashes : (word : Text) → begins_with_minus word ≡ false → bytes_eq word (45 ∷ 45 ∷ []) ≡ false
no_dashes word e = grind arith

is_value : (word : Text) → not (begins_with_minus word) ≡ true → IsValue word
is_value [] e = (refl, refl, no_dashes [] refl)
is_value (b ∷ bs) e = grind arith

all_values : (words : List Text) → are_values words ≡ true → AllByRecursion IsValue words
all_values [] h = tt
all_values (word ∷ words) h =
    let parts = both (not (begins_with_minus word)) (are_values words) h in
    (is_value word parts.0, all_values words parts.1)

-- ---- the walk over such words

-- what is found for samples
abbrev rows : List Text → List Row
rows [] = []
rows (v ∷ vs) = record {
  id = codes "sample";
  values = v ∷ vs;
  count = None;
  source = Some CommandLine;
  reading = reading_by (with_index 1 (filled (many_rule (codes "sample"))));
} ∷ []

-- the walk over some words and one more
abbrev walk_at : List Text → Text → Walk
walk_at ws w = record {
  held = record { rows = rows ws; pending = Some (codes "sample", w ∷ []); skip = 0 };
  waiting = positional;
  position = 1;
  is_trailing = false;
  stopped = None;
}

first_step : (x : Text) → IsValue x → walked shape.rules [] (walk_from nothing_held) x ≡ walk_at [] x
unfolding shapes_on_literals walked
first_step x v = rw (v.2, v.0, v.1) refl

step : (ws : List Text) (w x : Text) → IsValue x → walked shape.rules [] (walk_at ws w) x ≡ walk_at (ws ++ w ∷ []) x
unfolding shapes_on_literals walked
step [] w x v = rw (v.2, v.0, v.1) refl
step (y ∷ ys) w x v = rw (v.2, v.0, v.1) refl

first_turn : (x : Text) → IsValue x → turn_fault shape [] (walk_from nothing_held) x ≡ []
unfolding shapes_on_literals
first_turn x v = rw (v.2, v.0, v.1) refl

turn : (ws : List Text) (w x : Text) → IsValue x → turn_fault shape [] (walk_at ws w) x ≡ []
unfolding shapes_on_literals
turn [] w x v = rw (v.2, v.0, v.1) refl
turn (y ∷ ys) w x v = rw (v.2, v.0, v.1) refl

-- no fault on the way
no_fault : (ws : List Text) (w : Text) (rest : List Text) → AllByRecursion IsValue rest → walk_fault shape [] (walk_at ws w) rest ≡ []
unfolding walk_fault
no_fault ws w [] h = refl
no_fault ws w (x ∷ xs) h = rw (turn ws w x h.0, step ws w x h.0) (no_fault (ws ++ w ∷ []) x xs h.1)

-- the values are all words
abbrev Has : List Text → Held → Type 0
Has words h = ((settled shape.rules h).rows ≡ rows words) × (settle_fault shape.rules shape.args_override_self h ≡ [])

ends : (ws : List Text) (w : Text) → Has (ws ++ w ∷ []) (walk_at ws w).held
unfolding shapes_on_literals
ends [] w = (refl, refl)
ends (y ∷ ys) w = (refl, refl)

walks : (ws : List Text) (w : Text) (rest : List Text) → AllByRecursion IsValue rest → Has (ws ++ w ∷ rest) (fold (walked shape.rules []) (walk_at ws w) rest).held
walks ws w [] h = ends ws w
walks ws w (x ∷ xs) h =
    let Ends : Walk → List Text → Type 0 = λ at words. Has words (fold (walked shape.rules []) at xs).held in
    subst (λ at. Ends at (ws ++ w ∷ x ∷ xs)) (sym (step ws w x h.0))
    (subst (Ends (walk_at (ws ++ w ∷ []) x)) (append_assoc ws (w ∷ []) (x ∷ xs)) (walks (ws ++ w ∷ []) x xs h.1))

none : Has [] nothing_held
unfolding shapes_on_literals
none = (refl, refl)

walk_has : (rest : List Text) → AllByRecursion IsValue rest → Has rest (walk shape.rules [] nothing_held rest).held
walk_has [] h = none
walk_has (x ∷ xs) h =
    subst (λ at. Has (x ∷ xs) (fold (walked shape.rules []) at xs).held) (sym (first_step x h.0)) (walks [] x xs h.1)

walk_passes : (rest : List Text) → AllByRecursion IsValue rest → walk_fault shape [] (walk_from nothing_held) rest ≡ []
unfolding walk_fault
walk_passes [] h = refl
walk_passes (x ∷ xs) h = rw (first_turn x h.0, first_step x h.0) (no_fault [] x xs h.1)

-- ---- the command

-- the faults of the words, of the last value, and of what is found
abbrev faults : Kinds → Kinds → List Row → Kinds
faults first last found =
    or_else first (or_else [] (or_else last (or_else (defaults_fault found shape.rules) (check_fault shape (fold with_default found shape.rules) false))))

no_faults : (words : List Text) → faults [] [] (rows words) ≡ []
unfolding shapes_on_literals
no_faults [] = refl
no_faults (x ∷ xs) = refl

level_is : (rest : List Text) → AllByRecursion IsValue rest → level_fault shape [] nothing_held rest false [] ≡ []
level_is rest h =
    let has = walk_has rest h in
    let end = (walk shape.rules [] nothing_held rest).held in
    ap (λ first. faults first (settle_fault shape.rules shape.args_override_self end) (settled shape.rules end).rows) (walk_passes rest h)
    ∙ ap₂ (faults []) has.1 has.0
    ∙ no_faults rest

defaulted : (words : List Text) → fold with_default (rows words) shape.rules ≡ rows words
unfolding shapes_on_literals
defaulted [] = refl
defaulted (x ∷ xs) = refl

name_is : shape.name ≡ name_text verb.Update
unfolding shapes_on_literals
name_is = refl

rows_are : (rest : List Text) → AllByRecursion IsValue rest → rows_at shape rest ≡ (name_text verb.Update, rows rest)
rows_are rest h =
    ap₂ (λ name found. (name, found)) name_is (ap (λ found. fold with_default found shape.rules) (walk_has rest h).0 ∙ defaulted rest)

-- the faults of a parse of the whole command, by those of update
abbrev whole : Kinds → Kinds
whole below =
    let top = (built rrdi_app).top in
    or_else [] (or_else below (or_else [] (or_else (defaults_fault [] top.rules) (check_fault top (fold with_default [] top.rules) true))))

module _ (rest : List Text) (h : AllByRecursion IsValue rest) where
  taken : IsTaken (name_text verb.Update ∷ rest)
  unfolding shapes_on_literals
  taken = fault_by rrdi_app (name_text verb.Update) rest refl refl ∙ ap whole (level_is rest h)

  enters : entered_of (name_text verb.Update ∷ rest) ≡ Some (name_text verb.Update, rows rest)
  unfolding shapes_on_literals entered_of
  enters =
      entered_by rrdi_app (name_text verb.Update) rest refl refl ∙ ap (option_map (λ s. rows_at s rest)) shape_found
      ∙ ap (λ e. Some e) (rows_are rest h)

-- what the rows are read as
read_rows : (rest : List Text) (now : ℕ) → line_of (Some (name_text verb.Update, rows rest)) now ≡ Some (samples_of None rest now)
unfolding shapes_on_literals
read_rows [] now = refl
read_rows (x ∷ xs) now = refl

-- the reading of an update whose words are values
pub update_read : (rest : List Text) (now : ℕ) (r : Result Command LineFault) → are_values rest ≡ true → Meets (samples_of None rest now) r
    → IsReading (name_text verb.Update ∷ rest) now r
update_read rest now r plain meets =
    let h : AllByRecursion IsValue rest = all_values rest plain in
    read_from (name_text verb.Update ∷ rest) now (Some (name_text verb.Update, rows rest)) r (taken rest h) (sym (enters rest h))
    (subst (λ read. IfSome read (λ command. Meets command r)) (sym (read_rows rest now)) meets)

-- ---- a name alone

pub last_alone : (now : ℕ) → IsReading (name_text verb.Last ∷ []) now (Ok command.Last)
unfolding shapes_on_literals entered_of walk_fault walked
last_alone now = (refl, refl)

pub lastupdate_alone : (now : ℕ) → IsReading (name_text verb.LastUpdate ∷ []) now (Ok command.LastUpdate)
unfolding shapes_on_literals entered_of walk_fault walked
lastupdate_alone now = (refl, refl)

pub info_alone : (now : ℕ) → IsReading (name_text verb.Info ∷ []) now (Ok command.Info)
unfolding shapes_on_literals entered_of walk_fault walked
info_alone now = (refl, refl)

pub revert_alone : (now : ℕ) → IsReading (name_text verb.Revert ∷ []) now (Ok command.Revert)
unfolding shapes_on_literals entered_of walk_fault walked
revert_alone now = (refl, refl)
