-- How a database keeps to the run, command by command and line by line.
use Rattle.std.specs.Prelude.{◌≡◌, ◌≢◌, ◌∷◌, [], ℕ, Bool, true, false, List, Option, Some, None, Result, Ok, Err, length, option_map}
use Rattle.rrd_tool.proofs.Names.{◌∙◌, inl, inr, ap, ap₂, sym, refl, subst, append-nil, arith, Appends, Keeps, WriteFault, CreateSpec, Refusal, create_verdict, created, CreatedIsValid, Content, Entry, State, Stored, Changed, Reverted, Stands, stored_after, Action, verdict, ActsOn, Begins, fault_of, Appends-kept, Turn, Effect, Makes, Changes, Reverts, Shows, StandsFor, stored_next, stored_of, next, text_on, verdict_on, first_state, Affects, Comes, IsFault, Performs, Asks, line_turns, Prints, fault_line, is_empty, text_in, words_of, IsReading, command_of, effect_turn, reading_turn, refusal_turn, text_turn, turn, unless_short, words_turn, rrdi_app, Command, LineFault, Usage, BadWord, OutOfMemory, Part, Outcome, Fault, Line, Refused, NoDatabase, Output}
use Rattle.rrd_tool.proofs.SaidLemmas.{unwritten_some}

-- ---- the database

-- the database is the one that the state makes
pub stands_kept : (kept : Option Stored) (state : Option State) → StandsFor kept state → kept ≡ option_map stored_of state
stands_kept None None h = refl
stands_kept (Some kept) (Some state) h = ap₂ (λ now journal. let k : Stored = record { content = now; journal = journal } in Some k) h.content_is h.journal_is
stands_kept x y h = absurd h

no_refusal : (verdict : Option Refusal) → option_map Refused verdict ≡ None → verdict ≡ None
no_refusal None h = refl
no_refusal (Some r) h = absurd cc

-- ---- a command

-- what a command comes to, carried to facts that follow from those on the database
comes_as : (verdict : Option Fault) (text : List ℕ) (effect : Effect) (Moved Moved' Same Same' : Type 0) (c0 c1 : Option (List ℕ)) (changed : Bool) (fault : Option Fault)
    → (verdict ≡ None → Moved → Moved') → (Same → Same') → Comes verdict text effect Moved Same c0 c1 changed fault → Comes verdict text effect Moved' Same' c0 c1 changed fault
comes_as verdict text effect Moved Moved' Same Same' c0 c1 changed (Some (Line fault)) f g h = (h.0, g h.1, h.2, h.3)
comes_as verdict text effect Moved Moved' Same Same' c0 c1 changed (Some (Refused fault)) f g h = (h.0, g h.1, h.2, h.3)
comes_as verdict text effect Moved Moved' Same Same' c0 c1 changed (Some NoDatabase) f g h = (h.0, g h.1, h.2, h.3)
comes_as verdict text effect Moved Moved' Same Same' c0 c1 changed x f g h = (h.0, f h.0 h.1, h.2, h.3)

-- by the laws of new databases, of those that begin a run, and of one action
module _ (created_is_valid : (spec : CreateSpec) → CreatedIsValid spec) (database_begins : (base : Content) (brought : List Entry) → Begins base brought) (action_goes_on : (state : State) (kept : Stored) (action : Action) → ActsOn state kept action) where
  created_stands : (spec : CreateSpec) → create_verdict spec ≡ None → Stands (first_state (created spec)) (record { content = created spec; journal = [] })
  created_stands spec h = database_begins (created spec) [] (record { content_is = created_is_valid spec h; journal_is = tt; few = omega arith })

  -- what is accepted keeps it so
  pub stands_next : (effect : Effect) (kept : Option Stored) (state : Option State) → verdict_on kept effect ≡ None → StandsFor kept state → StandsFor (stored_next kept effect) (next state effect)
  stands_next (Makes spec) kept state h s = created_stands spec (no_refusal (create_verdict spec) h)
  stands_next (Changes command) None state h s = absurd cc
  stands_next Reverts None state h s = absurd cc
  stands_next (Shows show) None state h s = absurd cc
  stands_next (Changes command) (Some kept) None h s = absurd s
  stands_next (Changes command) (Some kept) (Some state) h s =
      let accepted : verdict kept.content command ≡ None = no_refusal (verdict kept.content command) h in
      let moved : Stands _ (stored_after kept (Changed command)) = action_goes_on state kept (Changed command) s in
      rw accepted at moved
  stands_next Reverts (Some kept) None h s = absurd s
  stands_next Reverts (Some kept) (Some state) h s = action_goes_on state kept Reverted s
  stands_next (Shows show) (Some kept) None h s = absurd s
  stands_next (Shows show) (Some kept) (Some state) h s = s

  -- a command over the database is the command of the run
  pub runs_on : (effect : Effect) (kept kept1 : Option Stored) (state : Option State) (c0 c1 : Option (List ℕ)) (changed : Bool) (fault : Option Fault) → StandsFor kept state
      → Comes (verdict_on kept effect) (text_on kept effect) effect (kept1 ≡ stored_next kept effect) (kept1 ≡ kept) c0 c1 changed fault
      → Comes (verdict_on (option_map stored_of state) effect) (text_on (option_map stored_of state) effect) effect (StandsFor kept1 (next state effect)) (StandsFor kept1 state) c0 c1 changed fault
  runs_on effect kept kept1 state c0 c1 changed fault s h =
      let Here : Option Stored → Type 0 = λ k. Comes (verdict_on k effect) (text_on k effect) effect (StandsFor kept1 (next state effect)) (StandsFor kept1 state) c0 c1 changed fault in
      let here : Here kept = comes_as (verdict_on kept effect) (text_on kept effect) effect (kept1 ≡ stored_next kept effect) (StandsFor kept1 (next state effect)) (kept1 ≡ kept) (StandsFor kept1 state) c0 c1 changed fault
      (λ accepted moved. subst (λ (k : Option Stored). StandsFor k (next state effect)) (sym moved) (stands_next effect kept state accepted s))
      (λ same. subst (λ (k : Option Stored). StandsFor k state) (sym same) s)
      h in
      subst Here (stands_kept kept state s) here

-- ---- its turn

abbrev effect_turns : Option State → Effect → Bool → Turn (Option State)
effect_turns state effect is_short = unless_short state (effect_turn state effect) is_short

module _ (state : Option State) (effect : Effect) (kept1 : Option Stored) (c0 c1 : Option (List ℕ)) (changed : Bool) where
  abbrev ComesTo : Option Fault → Type 0
  ComesTo fault = Comes (verdict_on (option_map stored_of state) effect) (text_on (option_map stored_of state) effect) effect (StandsFor kept1 (next state effect)) (StandsFor kept1 state) c0 c1 changed fault

  abbrev Performed : Option (List ℕ) → Result (Option Fault) WriteFault → Type 0
  Performed c2 r = (s1 : Option State) × StandsFor kept1 s1 × Performs fault_line (effect_turns state effect) s1 c0 c2 r

  -- it was done
  pub done_performs : ComesTo None → Performed c1 (Ok None)
  done_performs h = (next state effect, h.1, (text_on (option_map stored_of state) effect, rw h.0 refl, h.3))

  -- it was done, and what it printed was handed on
  pub flushed_performs : (c2 : Option (List ℕ)) → ComesTo None → Keeps c1 c2 → Performed c2 (Ok None)
  flushed_performs c2 h k = (next state effect, h.1, (text_on (option_map stored_of state) effect, rw h.0 refl, Appends-kept c0 c1 c2 (text_on (option_map stored_of state) effect) h.3 k))

  -- it was done, and handing on what it printed failed
  pub unflushed_performs : (c2 : Option (List ℕ)) (e : WriteFault) → ComesTo None → is_empty (text_on (option_map stored_of state) effect) ≡ false → Keeps c1 c2 → Performed c2 (Err e)
  unflushed_performs c2 e h some k = (next state effect, h.1, (text_on (option_map stored_of state) effect, rw h.0 refl, (text_on (option_map stored_of state) effect, [], sym (append-nil (text_on (option_map stored_of state) effect)), Appends-kept c0 c1 c2 (text_on (option_map stored_of state) effect) h.3 k), some))

  -- it was done, and a write failed
  pub unwritten_performs : (e : WriteFault) → ComesTo (Some Output) → Performed c1 (Err e)
  unwritten_performs e h = (next state effect, h.1, (text_on (option_map stored_of state) effect, rw h.0 refl, (h.3.0, h.3.1 ∷ h.3.2, h.3.3, h.3.4), unwritten_some (text_on (option_map stored_of state) effect) h.3.0 h.3.1 h.3.2 h.3.3))

  fault_performs : (fault : Fault) → IsFault (verdict_on (option_map stored_of state) effect) effect fault → StandsFor kept1 state → Keeps c0 c1 → Performed c1 (Ok (Some fault))
  fault_performs fault h s k = elim h [
    | inl e ↦ (state, s, (false, rw e refl, k))
    | inr short ↦ (state, s, (true, ap (λ (f : Fault). refusal_turn state f) (sym short.1), k))
  ]

  -- it was refused
  pub refused_performs : (fault : Fault) → fault ≢ Output → ComesTo (Some fault) → Performed c1 (Ok (Some fault))
  refused_performs Output n h = absurd (n refl)
  refused_performs (Line fault) n h = fault_performs (Line fault) h.0 h.1 h.3
  refused_performs (Refused fault) n h = fault_performs (Refused fault) h.0 h.1 h.3
  refused_performs NoDatabase n h = fault_performs NoDatabase h.0 h.1 h.3

-- turns that are the same are performed the same
pub performs_as : (turns asked : Bool → Turn (Option State)) (s1 : Option State) (c0 c1 : Option (List ℕ)) (r : Result (Option Fault) WriteFault) → ((is_short : Bool) → turns is_short ≡ asked is_short) → Performs fault_line asked s1 c0 c1 r → Performs fault_line turns s1 c0 c1 r
performs_as turns asked s1 c0 c1 (Ok None) same h = (h.0, same false ∙ h.1, h.2)
performs_as turns asked s1 c0 c1 (Ok (Some fault)) same h = (h.0, same h.0 ∙ h.1, h.2)
performs_as turns asked s1 c0 c1 (Err e) same h = (h.0, same false ∙ h.1, h.2, h.3)

-- ---- what a line asks for

empty_true : {A : Type 0} (xs : List A) → xs ≡ [] → is_empty xs ≡ true
empty_true [] h = refl
empty_true (x ∷ xs) h = absurd cc

empty_false : {A : Type 0} (xs : List A) → ¬ (xs ≡ []) → is_empty xs ≡ false
empty_false [] h = absurd (h refl)
empty_false (x ∷ xs) h = refl

-- what was read is what the words ask for, unless memory was wanting
command_read : (words : List (List ℕ)) (now : ℕ) (command : Command) → IsReading words now (Ok command) → command_of words now ≡ Ok command
unfolding command_of
command_read words now command h = rw (empty_true (fault_of rrdi_app words) h.0, h.1) refl

usage_read : (words : List (List ℕ)) (now : ℕ) → IsReading words now (Err Usage) → command_of words now ≡ Err Usage
unfolding command_of
usage_read words now h = rw (empty_false (fault_of rrdi_app words) h) refl

word_read : (words : List (List ℕ)) (now : ℕ) (part : Part) (number : ℕ) → IsReading words now (Err (BadWord part number)) → command_of words now ≡ Err (BadWord part number)
unfolding command_of
word_read words now part number h = rw (empty_true (fault_of rrdi_app words) h.0, h.1) refl

-- a line that is no text
pub asks_usage : (now : ℕ) (line : List ℕ) → text_in line ≡ None → Asks now line (Err Usage)
unfolding turn
asks_usage now line h = (false, λ state. ap (λ t. text_turn now state t false) h)

-- a text without words
pub asks_nothing : (now : ℕ) (line text : List ℕ) → text_in line ≡ Some text → words_of text ≡ [] → Asks now line (Ok None)
unfolding turn
asks_nothing now line text h e state = ap (λ t. text_turn now state t false) h ∙ ap (λ ws. words_turn now state ws false) e

-- a text with words
worded : (now : ℕ) (line text : List ℕ) (words : List (List ℕ)) (state : Option State) (is_short : Bool) → text_in line ≡ Some text → words_of text ≡ words → is_empty words ≡ false
    → line_turns now state line is_short ≡ unless_short state (reading_turn state (command_of words now)) is_short
unfolding turn
worded now line text [] state is_short h e n = absurd (let bad : true ≡ false = n in cc)
worded now line text (word ∷ words) state is_short h e n = ap (λ t. text_turn now state t is_short) h ∙ ap (λ ws. words_turn now state ws is_short) e

pub asks_short : (now : ℕ) (line text : List ℕ) → text_in line ≡ Some text → is_empty (words_of text) ≡ false → Asks now line (Err OutOfMemory)
asks_short now line text h n = (true, λ state. worded now line text (words_of text) state true h refl n)

pub asks_command : (now : ℕ) (line text : List ℕ) (words : List (List ℕ)) (command : Command) → text_in line ≡ Some text → words_of text ≡ words → is_empty words ≡ false → IsReading words now (Ok command) → Asks now line (Ok (Some command))
asks_command now line text words command h e n r state is_short =
    worded now line text words state is_short h e n ∙ ap (λ c. unless_short state (reading_turn state c) is_short) (command_read words now command r)

pub asks_fault : (now : ℕ) (line text : List ℕ) (words : List (List ℕ)) (fault : LineFault) → text_in line ≡ Some text → words_of text ≡ words → is_empty words ≡ false → IsReading words now (Err fault) → Asks now line (Err fault)
asks_fault now line text words OutOfMemory h e n r = (true, λ state. worded now line text words state true h e n)
asks_fault now line text words Usage h e n r = (false, λ state. worded now line text words state false h e n ∙ ap (λ c. reading_turn state c) (usage_read words now r))
asks_fault now line text words (BadWord part number) h e n r = (false, λ state. worded now line text words state false h e n ∙ ap (λ c. reading_turn state c) (word_read words now part number r))

pub no_length : (words : List (List ℕ)) → length words ≡ 0 → words ≡ []
no_length [] h = refl
no_length (word ∷ words) h = absurd (omega arith)

pub some_length : (words : List (List ℕ)) → (length words ≡ 0 → ⊥) → is_empty words ≡ false
some_length [] h = absurd (h refl)
some_length (word ∷ words) h = refl

-- ---- what prints

-- a command that shows a text which was printed
pub shown_comes : (kept : Stored) (show : Stored → Result (List ℕ) Refusal) (text : List ℕ) (c0 c1 : Option (List ℕ)) (outcome : Outcome)
    → show kept ≡ Ok text → Prints kept c0 c1 text outcome → Affects (Some kept) (Shows show) c0 c1 outcome
shown_comes kept show text c0 c1 outcome e p = grind arith

-- ---- what prints nothing

pub appends_nothing : (c : Option (List ℕ)) → Appends c c []
appends_nothing None = tt
appends_nothing (Some bytes) = sym (append-nil bytes)
