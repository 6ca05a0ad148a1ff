-- Words whose first is no subcommand's name are refused.
use Rattle.std.specs.Prelude.{◌≡◌, Bool, not, ◌&&◌, true, false, ℕ, List, [], ◌∷◌, Option, Some, None, IfSome, is_some, length, map, option_map, drop, encode_utf8, slice_get}
use Rattle.rrd_tool.proofs.Names.{arith, ◌∙◌, ap, sym, refl, AllByRecursion, find, bytes_eq, chars, bytes_eq-Decides, Kinds, Shape, Text, fault_of, or_else, built_fault, bundle_fault, bundle_step_fault, flags_fault, long_fault, short_fault, stray_fault, step_fault, turn_fault, use_fault, walk_fault, Held, Names, Rule, after_flag, answers_to, arg_by_index, arg_by_long, arg_by_short, bundle, bundle_met, bundle_step, has_long, has_short, idle, nothing_held, plain, subcommand_met, takes_values, walk_from, walked, long_of, short_of, built, names_of, DisplayHelp, IsRefused, first_name, entered_of, rrdi_app, command_names, name_in, name_text, CommandName}
use Rattle.clap.specs.Walk.{Outcome}
use Rattle.rrd_tool.proofs.OnLiterals.{shapes_on_literals}
use Rattle.rrd_tool.proofs.Finding.{found_among, none_passes}
use Rattle.rrd_tool.proofs.Subcommand.{taken_enters}

first_empty : (a b : Kinds) → or_else a b ≡ [] → a ≡ []
first_empty [] b h = refl
first_empty (k ∷ ks) b h = h

-- ---- a first word that is no name

-- an argument that takes no value and asks for help
abbrev AsksForHelp : Bool → Rule → Type 0
AsksForHelp again a = (takes_values a ≡ false) × (use_fault again a [] [] ≡ DisplayHelp ∷ [])

no_long : (rules : List Rule) (again : Bool) (found : Option Rule) (value : Option Text) → IfSome found (AsksForHelp again)
    → long_fault rules again found value nothing_held ≡ [] → ⊥
no_long rules again None value asks e = cc
no_long rules again (Some a) (Some v) asks e = let bad = rw asks.0 at e in cc
no_long rules again (Some a) None asks e = let bad = rw (asks.0, asks.1) at e in cc

no_short : (rules : List Rule) (again : Bool) (found : Option Rule) (rest : Text) (next : Held → Kinds) → IfSome found (AsksForHelp again)
    → short_fault rules again found rest nothing_held next ≡ [] → ⊥
no_short rules again None rest next asks e = cc
no_short rules again (Some a) rest next asks e = let bad = rw (asks.0, asks.1) at e in cc

module _ (s : Shape) (names : Names) (index : arg_by_index s.rules 1 ≡ None) (leaf : s.is_leaf ≡ false) (asks : AllByRecursion (AsksForHelp s.args_override_self) s.rules) where
  strays : stray_fault s ≡ [] → ⊥
  strays e = let bad = rw leaf at e in cc

  module _ (word : Text) (met : subcommand_met names idle word ≡ None) (dashes : bytes_eq word (45 ∷ 45 ∷ []) ≡ false) where
    abbrev turn : Kinds
    turn = turn_fault s names (walk_from nothing_held) word

    plain_turn : long_of word ≡ None → short_of word ≡ None → turn ≡ [] → ⊥
    plain_turn long short e = strays (rw (met, dashes, long, short, index) at e)

    long_turn : (p : Text × Option Text) → long_of word ≡ Some p → turn ≡ [] → ⊥
    long_turn p long e =
        let found = arg_by_long s.rules p.0 in
        let among = found_among (λ a. not (is_some a.index) && has_long a p.0) (AsksForHelp s.args_override_self) s.rules asks in
        no_long s.rules s.args_override_self found p.1 among (first_empty (long_fault s.rules s.args_override_self found p.1 nothing_held) _ (rw (met, dashes, long) at e))

    -- what the step after flags comes to
    abbrev step_kinds : Held × Outcome → Kinds
    step_kinds m = step_fault s 1 (after_flag s.rules idle word m.0 m.1).0 (after_flag s.rules idle word m.0 m.1).1

    letter_turn : (found : Option ℕ) (flags : Text) (k : ℕ)
        → or_else (bundle_step_fault s.rules s.args_override_self found flags 0 nothing_held (flags_fault s.rules s.args_override_self k))
        (step_kinds (bundle_step s.rules found flags 0 plain nothing_held (bundle_met s.rules k))) ≡ [] → ⊥
    letter_turn None flags k e = strays (rw index at e)
    letter_turn (Some x) flags k e =
        let found = arg_by_short s.rules x in
        let among = found_among (λ a. not (is_some a.index) && has_short a x) (AsksForHelp s.args_override_self) s.rules asks in
        let rest = drop (length (encode_utf8 x)) flags in
        no_short s.rules s.args_override_self found rest (flags_fault s.rules s.args_override_self k rest 0) among (first_empty _ _ e)

    flags_turn : (flags : Text) → or_else (bundle_fault s.rules s.args_override_self flags nothing_held) (step_kinds (bundle s.rules flags nothing_held)) ≡ [] → ⊥
    unfolding flags_fault bundle_met
    flags_turn [] e = strays (rw index at e)
    flags_turn (x ∷ xs) e = letter_turn (slice_get (chars (x ∷ xs)) 0) (x ∷ xs) (length xs) e

    short_turn : (flags : Text) → long_of word ≡ None → short_of word ≡ Some flags → turn ≡ [] → ⊥
    short_turn flags long short e = flags_turn flags (rw (met, dashes, long, short) at e)

    by_short : (short : Option Text) → long_of word ≡ None → short_of word ≡ short → turn ≡ [] → ⊥
    by_short None long short e = plain_turn long short e
    by_short (Some flags) long short e = short_turn flags long short e

    by_long : (long : Option (Text × Option Text)) → long_of word ≡ long → turn ≡ [] → ⊥
    by_long None long e = by_short (short_of word) long refl e
    by_long (Some p) long e = long_turn p long e

    turn_refuses : turn ≡ [] → ⊥
    turn_refuses e = by_long (long_of word) refl e

other_way : (a b : Text) → bytes_eq a b ≡ false → bytes_eq b a ≡ false
other_way a b e = go (bytes_eq b a) refl
  where
    go : (r : Bool) → bytes_eq b a ≡ r → r ≡ false
    go false t = refl
    go true t =
        let same : b ≡ a = (bytes_eq-Decides b a).0 t in
        grind arith

-- a word that is no name is none of the subcommands'
none_among : (word : Text) (names : List CommandName) → AllByRecursion (λ name. bytes_eq word (name_text name) ≡ false) names
    → find (answers_to word) (map (λ name. (name_text name, [])) names) ≡ None
none_among word [] h = refl
none_among word (name ∷ names) h = rw (other_way word (name_text name) h.0) (none_among word names h.1)

rrdi_names : names_of (built rrdi_app) ≡ map (λ name. (name_text name, [])) command_names
unfolding shapes_on_literals
rrdi_names = refl

none_met : (word : Text) → name_in word ≡ None → subcommand_met (names_of (built rrdi_app)) idle word ≡ None
none_met word none =
    let differ = none_passes (λ item. bytes_eq word (name_text item)) command_names none in
    ap (option_map (λ s. s.0)) (ap (find (answers_to word)) rrdi_names ∙ none_among word command_names differ)

rrdi_index : arg_by_index (built rrdi_app).top.rules 1 ≡ None
unfolding shapes_on_literals
rrdi_index = refl

rrdi_leaf : (built rrdi_app).top.is_leaf ≡ false
unfolding shapes_on_literals
rrdi_leaf = refl

rrdi_words : (words : List Text) → fault_of rrdi_app words ≡ built_fault (built rrdi_app) nothing_held words
unfolding rrdi_app
rrdi_words words = refl

rrdi_asks : AllByRecursion (AsksForHelp (built rrdi_app).top.args_override_self) (built rrdi_app).top.rules
unfolding shapes_on_literals
rrdi_asks = ((refl, refl), tt)

-- the walk over words that are taken has no fault
walk_taken : (words : List Text) → fault_of rrdi_app words ≡ [] → walk_fault (built rrdi_app).top (names_of (built rrdi_app)) (walk_from nothing_held) words ≡ []
walk_taken words taken = first_empty _ _ (sym (rrdi_words words) ∙ taken)

-- `--`, with words after it or without
dashes_refused : (rest : List Text) → IsRefused ((45 ∷ 45 ∷ []) ∷ rest)
unfolding shapes_on_literals entered_of walk_fault walked
dashes_refused [] taken = let bad : false ≡ true = taken_enters ((45 ∷ 45 ∷ []) ∷ []) taken in cc
dashes_refused (word ∷ rest) taken = let bad = walk_taken ((45 ∷ 45 ∷ []) ∷ word ∷ rest) taken in cc

other_refused : (word : Text) (rest : List Text) → name_in word ≡ None → bytes_eq word (45 ∷ 45 ∷ []) ≡ false → IsRefused (word ∷ rest)
unfolding walk_fault
other_refused word rest unnamed dashes taken =
    turn_refuses (built rrdi_app).top (names_of (built rrdi_app)) rrdi_index rrdi_leaf rrdi_asks word (none_met word unnamed) dashes
    (first_empty _ _ (walk_taken (word ∷ rest) taken))

word_refused : (word : Text) (rest : List Text) → name_in word ≡ None → IsRefused (word ∷ rest)
word_refused word rest unnamed = go (bytes_eq word (45 ∷ 45 ∷ [])) refl
  where
    go : (r : Bool) → bytes_eq word (45 ∷ 45 ∷ []) ≡ r → IsRefused (word ∷ rest)
    go false t = other_refused word rest unnamed t
    go true t = rw ((bytes_eq-Decides word (45 ∷ 45 ∷ [])).0 t) (dashes_refused rest)

-- words whose first is no name are refused
pub unnamed_refused : (words : List Text) → first_name words ≡ None → IsRefused words
unfolding shapes_on_literals entered_of
unnamed_refused [] unnamed taken = let bad : false ≡ true = taken_enters [] taken in cc
unnamed_refused (word ∷ rest) unnamed taken = word_refused word rest unnamed taken
