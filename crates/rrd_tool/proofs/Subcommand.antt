-- What the parts of a subcommand's matches say of the whole, and that there is one.
use Rattle.std.specs.Prelude.{◌≡◌, ℕ, Bool, List, Option, Some, None, [], true, false, is_some, option_map, Result, Ok, Err, IfSome, Box}
use Rattle.rrd_tool.proofs.Names.{arith, ◌∙◌, ap, ap₂, refl, sym, App, Kinds, Row, Shape, Text, built, fault_of, rows_of, found_of, subcommand_of, subcommand_rows, check_fault, entered_fault, level_fault, Held, Names, answers_to, finished, nothing_held, stop_after, walk, argument_words, entered, label_of, names_of, rows_at, AllByRecursion, find, SubCommand, out-SubCommand, box_value, rrdi_app, line_of, values_of, name_in, Unread, IsTaken, entered_of, IsReading, Meets, Command, LineFault, Usage, BadWord, OutOfMemory}
use Rattle.rrd_tool.proofs.OnLiterals.{shapes_on_literals}
use Rattle.rrd_tool.proofs.Finding.{all_pass, found_among}

enters : (s : Shape) (rows : List Row) (has : Bool) → s.subcommand_required ≡ true → check_fault s rows has ≡ [] → has ≡ true
enters s rows true r h = refl
enters s rows false r h = grind arith

level_last : (s : Shape) (names : Names) (h : Held) (words : List Text) (has : Bool) (below : Kinds)
    → level_fault s names h words has below ≡ [] → check_fault s (finished s.rules (walk s.rules names h words).held) has ≡ []
level_last s names h words has below e = grind arith

-- words that a command with a required subcommand takes name one
app_enters : (a : App) (words : List Text) → (built a).top.subcommand_required ≡ true → fault_of a words ≡ []
    → is_some (subcommand_of a words) ≡ true
app_enters a words r e =
    let w = argument_words a words in
    let at = walk (built a).top.rules (names_of (built a)) nothing_held w in
    enters (built a).top (finished (built a).top.rules at.held) (is_some (subcommand_of a words)) r
    (level_last (built a).top (names_of (built a)) nothing_held w (is_some (subcommand_of a words))
    (entered_fault (built a) at.stopped) e)

rrdi_wants : (built rrdi_app).top.subcommand_required ≡ true
unfolding shapes_on_literals
rrdi_wants = refl

module _ {Z : Type 0} where
  pub joined : (sub : Option (Box SubCommand Z)) (name : Text) (rows : List Row)
      → Some name ≡ option_map (λ b. (out-SubCommand (box_value b)).name.now) sub
      → Some rows ≡ option_map (λ p. p.1) (subcommand_rows sub) → subcommand_rows sub ≡ Some (name, rows)
  joined None name rows e f = cc
  joined (Some b) name rows e f =
      let first : (out-SubCommand (box_value b)).name.now ≡ name = cc in
      let second : rows_of (found_of (out-SubCommand (box_value b)).matches) ≡ rows = cc in
      ap₂ (λ n r. Some (n, r)) first second

-- ---- its name

-- each subcommand's name is one of the commands'
abbrev IsNamed : Shape → Type 0
IsNamed s = is_some (name_in s.name) ≡ true

all_named : AllByRecursion IsNamed (built rrdi_app).subs
unfolding shapes_on_literals
all_named = all_pass (λ s. is_some (name_in s.name)) (built rrdi_app).subs refl

some_mapped : {A B : Type 0} (f : A → B) (o : Option A) → is_some o ≡ true → is_some (option_map f o) ≡ true
some_mapped f None h = absurd cc
some_mapped f (Some x) h = refl

found_reads : (now : ℕ) (words : List Text) (found : Option Shape) → IfSome found IsNamed → is_some (option_map (λ s. rows_at s words) found) ≡ true
    → is_some (line_of (option_map (λ s. rows_at s words) found) now) ≡ true
found_reads now words None named h = absurd cc
found_reads now words (Some s) named h = some_mapped (λ name. values_of name (rows_at s words).1 now) (name_in s.name) named

entered_reads : (now : ℕ) (stop : Option (Text × List Text)) → is_some (entered (built rrdi_app) stop) ≡ true → is_some (line_of (entered (built rrdi_app) stop) now) ≡ true
entered_reads now None h = absurd cc
entered_reads now (Some p) h =
    found_reads now p.1 (find (λ s. answers_to p.0 (label_of s)) (built rrdi_app).subs) (found_among (λ s. answers_to p.0 (label_of s)) IsNamed (built rrdi_app).subs all_named) h

pub taken_enters : (words : List Text) → IsTaken words → is_some (entered_of words) ≡ true
unfolding entered_of
taken_enters words h = app_enters rrdi_app words rrdi_wants h

-- so words that clap takes are read as a command
pub taken_reads : (words : List Text) (now : ℕ) → IsTaken words → is_some (line_of (entered_of words) now) ≡ true
unfolding entered_of
taken_reads words now h =
    entered_reads now (stop_after (built rrdi_app).top.rules (names_of (built rrdi_app)) (argument_words rrdi_app words)) (app_enters rrdi_app words rrdi_wants h)

-- what the matches' subcommand is read as is what the words are read as
read_by : (words : List Text) (now : ℕ) (line : Option (Result Command Unread)) (r : Result Command LineFault)
    → IsTaken words → line_of (entered_of words) now ≡ line → is_some line ≡ true → IfSome line (λ read. Meets read r) → IsReading words now r
read_by words now None r t e s h = absurd cc
read_by words now (Some read) (Ok c) t e s h = (t, e ∙ ap (λ x. Some x) h)
read_by words now (Some read) (Err Usage) t e s h = absurd h
read_by words now (Some read) (Err OutOfMemory) t e s h = tt
read_by words now (Some read) (Err (BadWord q n)) t e s h = (t, e ∙ ap (λ x. Some x) h)

pub read_from : (words : List Text) (now : ℕ) (sub : Option (Text × List Row)) (r : Result Command LineFault)
    → IsTaken words → sub ≡ entered_of words → IfSome (line_of sub now) (λ read. Meets read r) → IsReading words now r
read_from words now sub r t e h =
    read_by words now (line_of sub now) r t (ap (λ o. line_of o now) (sym e)) (ap (λ o. is_some (line_of o now)) e ∙ taken_reads words now t) h
