-- Where the first word names a subcommand, the other subcommands change nothing.
use Rattle.std.specs.Prelude.{◌≡◌, true, false, List, [], ◌∷◌, Option, Some, is_some, option_map, find}
use Rattle.rrd_tool.proofs.Names.{◌∙◌, refl, ap, ap₂, sym, fold, option_map_or, App, Kinds, Shape, Text, fault_of, is_simple, is_simple_and_free, subcommand_of, or_else, built_fault, check_fault, defaults_fault, entered_fault, is_free_app, level_fault, other_fault, settle_fault, step_fault, walk_fault, Names, Walk, after_step, answers_to, finished, idle, nothing_held, settled, subcommand_met, subcommand_or_other, walk, walk_from, walked, argument_words, built, entered, label_of, names_of, rows_at, both, walk_stopped, stopped_fault, Serves, rrdi_app}

-- the walk over a name and the words after it
abbrev at_name : Text → List Text → Walk
at_name name rest = record (walk_from nothing_held) { stopped = Some (name, rest) }

module _ (s : Shape) (names : Names) (word name : Text) (rest : List Text) (met : subcommand_met names idle word ≡ Some name) where
  walk_is : walk s.rules names nothing_held (word ∷ rest) ≡ at_name name rest
  unfolding walked
  walk_is =
      ap (λ o. let step = subcommand_or_other s.rules o idle 1 word nothing_held in
      fold (walked s.rules names) (after_step s.rules word (walk_from nothing_held) step.0 step.1) rest) met
      ∙ sym (walk_stopped s.rules names (walk_from nothing_held) name [] rest)

  walk_fault_is : walk_fault s names (walk_from nothing_held) (word ∷ rest) ≡ or_else (or_else (other_fault s (Some name) word nothing_held) []) []
  unfolding walk_fault walked
  walk_fault_is =
      ap (λ o. let step = subcommand_or_other s.rules o idle 1 word nothing_held in
      or_else (or_else (other_fault s o word nothing_held) (step_fault s 1 step.0 step.1))
      (walk_fault s names (after_step s.rules word (walk_from nothing_held) step.0 step.1) rest)) met
      ∙ ap (or_else (or_else (other_fault s (Some name) word nothing_held) [])) (stopped_fault s names (walk_from nothing_held) (name, []) rest)

-- the subcommand of that name
abbrev pub named : App → Text → Option Shape
named a name = find (λ s. answers_to name (label_of s)) a.subs

-- a parse of a name and the words after it, by the command's own shape and the named subcommand
abbrev pub level : Shape → Kinds → Text → List Text → Option Shape → Kinds
level t first name rest found =
    or_else first
    (or_else (option_map_or (λ s. level_fault s [] nothing_held rest false []) found [])
    (or_else (settle_fault t.rules t.args_override_self nothing_held)
    (or_else (defaults_fault (settled t.rules nothing_held).rows t.rules)
    (check_fault t (finished t.rules nothing_held) (is_some (option_map (λ s. rows_at s rest) found))))))

module _ (a : App) (word name : Text) (rest : List Text) (met : subcommand_met (names_of a) idle word ≡ Some name) where
  fault_is : built_fault a nothing_held (word ∷ rest) ≡ level a.top (or_else (or_else (other_fault a.top (Some name) word nothing_held) []) []) name rest (named a name)
  fault_is = ap₂ (λ first (w : Walk).
      or_else first
      (or_else (entered_fault a w.stopped)
      (or_else (settle_fault a.top.rules a.top.args_override_self w.held)
      (or_else (defaults_fault (settled a.top.rules w.held).rows a.top.rules)
      (check_fault a.top (finished a.top.rules w.held) (is_some (entered a w.stopped)))))))
      (walk_fault_is a.top (names_of a) word name rest met) (walk_is a.top (names_of a) word name rest met)

  entered_is : entered a (walk a.top.rules (names_of a) nothing_held (word ∷ rest)).stopped ≡ option_map (λ s. rows_at s rest) (named a name)
  entered_is = ap (λ (w : Walk). entered a w.stopped) (walk_is a.top (names_of a) word name rest met)

-- a command whose words begin with a subcommand's name enters that subcommand
module _ (a : App) (name : Text) (rest : List Text) (met : subcommand_met (names_of (built a)) idle name ≡ Some name) (alone : a.top.no_binary_name ≡ true) where
  words_of : argument_words a (name ∷ rest) ≡ name ∷ rest
  words_of = rw alone refl

  pub fault_by : fault_of a (name ∷ rest) ≡ level (built a).top (or_else (or_else (other_fault (built a).top (Some name) name nothing_held) []) []) name rest (named (built a) name)
  fault_by = ap (built_fault (built a) nothing_held) words_of ∙ fault_is (built a) name name rest met

  pub entered_by : subcommand_of a (name ∷ rest) ≡ option_map (λ s. rows_at s rest) (named (built a) name)
  entered_by =
      ap (λ ws. entered (built a) (walk (built a).top.rules (names_of (built a)) nothing_held ws).stopped) words_of ∙ entered_is (built a) name name rest met

-- the two commands have the same subcommand of that name, and differ in nothing else than other subcommands
abbrev pub Alike : App → App → Text → Type 0
Alike a b name = (subcommand_met (names_of (built a)) idle name ≡ Some name) × (subcommand_met (names_of (built b)) idle name ≡ Some name)
    × ((built a).top ≡ (built b).top) × (named (built a) name ≡ named (built b) name)
    × (a.top.no_binary_name ≡ true) × (b.top.no_binary_name ≡ true) × (is_simple_and_free a ≡ true)

module _ (a b : App) (name : Text) (rest : List Text) (h : Alike a b name) where
  same_fault : fault_of a (name ∷ rest) ≡ fault_of b (name ∷ rest)
  same_fault =
      fault_by a name rest h.0 h.4
      ∙ ap₂ (λ t found. level t (or_else (or_else (other_fault t (Some name) name nothing_held) []) []) name rest found) h.2 h.3
      ∙ sym (fault_by b name rest h.1 h.5)

  same_subcommand : subcommand_of a (name ∷ rest) ≡ subcommand_of b (name ∷ rest)
  same_subcommand =
      entered_by a name rest h.0 h.4 ∙ ap (option_map (λ s. rows_at s rest)) h.3 ∙ sym (entered_by b name rest h.1 h.5)

-- a command that is alike serves
pub serves : (a : App) (name : Text) → Alike a rrdi_app name → (rest : List Text) → Serves a (name ∷ rest)
serves a name h rest =
    (same_fault a rrdi_app name rest h, same_subcommand a rrdi_app name rest h, (both (is_simple a) (is_free_app (built a)) h.6).0, h.6)
