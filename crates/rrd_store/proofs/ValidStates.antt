-- A state whose database is valid leads to such states only, command by command and line by line.
use Rattle.rrd_store.proofs.Names.{◌≡◌, ◌∷◌, [], ℕ, Bool, true, false, List, Option, Some, None, Result, Ok, Err, inl, inr, sym, refl, subst, arith, option_map, CreateSpec, Refusal, create_verdict, created, Entry, Content, ActsOn, Begins, DatabaseStays, RevertStays, CreatedIsValid, Action, Reverted, Stands, State, Stored, stored_after, newest, IsValidDatabase, verdict, Ran, Stopped, Tally, Told, no_lines, state_after, RunOver, command_of, reading_turn, text_turn, turn, verdict_turn, words_turn, effect, Changes, Effect, Makes, Reverts, Shows, StandsFor, stored_next, stored_of, next, verdict_on, text_in, words_of, StreamFault, Command, Fault, Refused, LineFault, IsValidState}
use Rattle.rrd_spec.specs.Commands.{DatabaseChange as Change}
use Rattle.rrd_spec.specs.Journal.Survivors.{Changed}
use Rattle.rrd_file.specs.Laws.{IsValidStored}
use Rattle.rrd_tool.specs.declared.batch.StreamFault.TheVariants as stream

-- what the laws of databases say
pub record Staying : Type 0 where
  pub created : (spec : CreateSpec) → CreatedIsValid spec
  pub begins : (base : Content) (brought : List Entry) → Begins base brought
  pub acts : (state : State) (kept : Stored) (action : Action) → ActsOn state kept action
  pub changed : (now : Content) (journal : List Entry) (command : Change) → DatabaseStays now journal command
  pub reverted : (now : Content) (journal : List Entry) → RevertStays now journal

-- the state's database is valid, and this is so where there is none
abbrev pub Valid : Type 0 → Option State → Type 0
Valid None_is None = None_is
Valid None_is (Some s) = IsValidState newest s

-- ---- the database of a state

pub is_kept : (s : State) (d : Stored) → Stands s d → d ≡ stored_of s
is_kept s d h = λ i. record { content = h.content_is i; journal = h.journal_is i }

pub valid_state : (s : State) (d : Stored) → Stands s d → IsValidStored d → IsValidState newest s
valid_state s d h v = subst (λ (k : Stored). Stands s k × IsValidStored k) (is_kept s d h) (h, v)

no_refusal : (verdict : Option Refusal) → option_map Refused verdict ≡ None → verdict ≡ None
no_refusal None h = refl
no_refusal (Some r) h = absurd cc

-- ---- a command

-- the database is valid, and this is so where there is none
abbrev pub ValidKept : Type 0 → Option Stored → Type 0
ValidKept None_is None = None_is
ValidKept None_is (Some d) = IsValidStored d

valid_by : (N : Type 0) (kept : Option Stored) (s : Option State) → StandsFor kept s → ValidKept N kept → Valid N s
valid_by N None None h v = v
valid_by N None (Some s) h v = absurd h
valid_by N (Some d) None h v = absurd h
valid_by N (Some d) (Some s) h v = valid_state s d h v

kept_valid : (N : Type 0) (s : Option State) → Valid N s → ValidKept N (option_map stored_of s)
kept_valid N None v = v
kept_valid N (Some s) v = v.1

-- the database of a state stands for it
pub kept_stands : (N : Type 0) (s : Option State) → Valid N s → StandsFor (option_map stored_of s) s
kept_stands N None v = tt
kept_stands N (Some s) v = v.0

module _ (laws : Staying) where
  created_valid : (spec : CreateSpec) → create_verdict spec ≡ None → IsValidDatabase (created spec) []
  created_valid spec h = record { content_is = laws.created spec h; journal_is = tt; few = omega arith }

  -- a valid database with its journal begins one
  pub first_valid : (base : Content) (brought : List Entry) → IsValidDatabase base brought → IsValidState newest (record { base = base; brought = brought; survivors = []; revertible = 0 })
  first_valid base brought v = valid_state (record { base = base; brought = brought; survivors = []; revertible = 0 }) (record { content = base; journal = brought }) (laws.begins base brought v) v

  -- what is accepted leads on
  stands_next : (e : Effect) (kept : Option Stored) (s : Option State) → verdict_on kept e ≡ None → StandsFor kept s → StandsFor (stored_next kept e) (next s e)
  stands_next (Makes spec) kept s h k = laws.begins (created spec) [] (created_valid spec (no_refusal (create_verdict spec) h))
  stands_next (Changes command) None s h k = absurd cc
  stands_next Reverts None s h k = absurd cc
  stands_next (Shows show) None s h k = absurd cc
  stands_next (Changes command) (Some d) None h k = absurd k
  stands_next (Changes command) (Some d) (Some s) h k =
      let accepted : verdict d.content command ≡ None = no_refusal (verdict d.content command) h in
      let moved : Stands _ (stored_after d (Changed command)) = laws.acts s d (Changed command) k in
      rw accepted at moved
  stands_next Reverts (Some d) None h k = absurd k
  stands_next Reverts (Some d) (Some s) h k = laws.acts s d Reverted k
  stands_next (Shows show) (Some d) None h k = absurd k
  stands_next (Shows show) (Some d) (Some s) h k = k

  module _ (N : Type 0) where
    next_is_stored : (e : Effect) (kept : Option Stored) → verdict_on kept e ≡ None → ValidKept N kept → ValidKept N (stored_next kept e)
    next_is_stored (Makes spec) kept h v = created_valid spec (no_refusal (create_verdict spec) h)
    next_is_stored (Changes command) None h v = absurd cc
    next_is_stored Reverts None h v = absurd cc
    next_is_stored (Shows show) None h v = absurd cc
    next_is_stored (Changes command) (Some d) h v = laws.changed d.content d.journal command v (no_refusal (verdict d.content command) h)
    next_is_stored Reverts (Some d) h v = laws.reverted d.content d.journal v
    next_is_stored (Shows show) (Some d) h v = v

    -- the database of the state goes to that of the next one
    pub next_stands : (e : Effect) (s : Option State) → Valid N s → verdict_on (option_map stored_of s) e ≡ None → StandsFor (stored_next (option_map stored_of s) e) (next s e)
    next_stands e s v h = stands_next e (option_map stored_of s) s h (kept_stands N s v)

    pub next_valid : (e : Effect) (s : Option State) → Valid N s → verdict_on (option_map stored_of s) e ≡ None → Valid N (next s e)
    next_valid e s v h = valid_by N (stored_next (option_map stored_of s) e) (next s e) (next_stands e s v h) (next_is_stored e (option_map stored_of s) h (kept_valid N s v))

    -- ---- a line

    verdict_valid : (s : Option State) (e : Effect) (fault : Option Fault) → verdict_on (option_map stored_of s) e ≡ fault → Valid N s → Valid N (verdict_turn s e fault).state
    verdict_valid s e (Some fault) h v = v
    verdict_valid s e None h v = next_valid e s v h

    reading_valid : (s : Option State) (read : Result Command LineFault) → Valid N s → Valid N (reading_turn s read).state
    reading_valid s (Ok command) v = verdict_valid s (effect command) (verdict_on (option_map stored_of s) (effect command)) refl v
    reading_valid s (Err fault) v = v

    words_valid : (now : ℕ) (s : Option State) (words : List (List ℕ)) (is_short : Bool) → Valid N s → Valid N (words_turn now s words is_short).state
    words_valid now s [] is_short v = v
    words_valid now s (word ∷ words) true v = v
    words_valid now s (word ∷ words) false v = reading_valid s (command_of (word ∷ words) now) v

    text_valid : (now : ℕ) (s : Option State) (text : Option (List ℕ)) (is_short : Bool) → Valid N s → Valid N (text_turn now s text is_short).state
    text_valid now s None is_short v = v
    text_valid now s (Some text) is_short v = words_valid now s (words_of text) is_short v

    turn_valid : (now : ℕ) (s : Option State) (told : Told) → Valid N s → Valid N (turn now s told).state
    unfolding turn
    turn_valid now s told v = text_valid now s (text_in told.line) told.is_short v

    -- ---- a run over lines

    lines_valid : (now : ℕ) (s : Option State) (told : List Told) → Valid N s → Valid N (state_after (turn now) s told)
    lines_valid now s [] v = v
    lines_valid now s (p ∷ ps) v = lines_valid now (turn now s p).state ps (turn_valid now s p v)

    module _ (now : ℕ) (s0 s1 : Option State) (t0 t1 : Tally) (c0 c1 : Option (List ℕ)) (v : Valid N s0) where
      ran_valid : (lines : List (List ℕ)) → Ran (turn now) s0 s1 t0 t1 c0 c1 lines → Valid N s1
      ran_valid lines h = subst (Valid N) (sym h.state) (lines_valid now s0 h.told v)

      stopped_valid : (lines : List (List ℕ)) → Stopped (turn now) s0 s1 t0 t1 c0 c1 lines → Valid N s1
      stopped_valid lines h = subst (Valid N) (sym h.state) (turn_valid now (state_after (turn now) s0 h.told) h.last (lines_valid now s0 h.told v))

    pub run_valid : (now : ℕ) (seen : List ℕ) (r1 : Option (List ℕ)) (s0 s1 : Option State) (t : Tally) (c0 c1 : Option (List ℕ)) (fault : Option StreamFault)
        → RunOver now seen r1 s0 s1 t c0 c1 fault → Valid N s0 → Valid N s1
    run_valid now seen r1 s0 s1 t c0 c1 None h v = ran_valid now s0 s1 no_lines t c0 c1 v _ h.1
    run_valid now seen r1 s0 s1 t c0 c1 (Some stream.Read) h v = ran_valid now s0 s1 no_lines t c0 c1 v _ h
    run_valid now seen r1 s0 s1 t c0 c1 (Some stream.Write) h v = elim h [
      | inl stopped ↦ stopped_valid now s0 s1 no_lines t c0 c1 v _ stopped
      | inr last ↦ stopped_valid now s0 s1 no_lines t c0 c1 v _ last.1
    ]
    run_valid now seen r1 s0 s1 t c0 c1 (Some stream.OutOfMemory) h v = subst (Valid N) (sym h.1) v
