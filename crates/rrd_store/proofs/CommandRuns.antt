-- A command over the file of a state leads to the file of the state that the definitions compute.
use Rattle.rrd_store.proofs.Names.{◌≡◌, ◌∙◌, ◌++◌, ◌∷◌, [], ℕ, Bool, true, false, List, Option, Some, None, Result, Ok, Err, sym, ap, refl, subst, append-nil, Appends, Keeps, result_err, Stored, effect, Changes, Effect, Makes, Reverts, Shows, is_change, stored_next, next, text_on, verdict_on, StandsFor, CreateSpec, Comes, database_left, fault_left, has_changed, is_empty, Command, Fault, Line, NoDatabase, Output, Refused, LineFault, Held, Leaves, Missing, Answers, AnswersRead, Filing, Holds, IsDone, MayStop, ReadsFile, as_written, database_in, kept_next, state_in, EndsBy, FindsOne, RunsAs, RunsFrom, StartsBy, TaskFault}
use Rattle.rrd_store.proofs.Found.{IsLeft, Reading, found_is, left_after, may_stop, same_left, stays_left, unleft, valid_held}
use Rattle.rrd_store.proofs.ValidStates.{Staying, Valid, next_stands, next_valid}
use Rattle.rrd_store.specs.declared.faults.TaskFault.TheVariants as task

-- ---- what a command's effect says of the next state

-- what changes no database leads to the same state
same_shown : (e : Effect) (s : Option Filing) → false ≡ is_change e → kept_next s e ≡ s
same_shown (Makes spec) s h = absurd cc
same_shown (Changes command) s h = absurd cc
same_shown Reverts s h = absurd cc
same_shown (Shows show) s h = refl

-- what changes it leads to one that is written
next_written : (e : Effect) (s : Option Filing) → true ≡ is_change e → as_written (next (state_in s) e) ≡ kept_next s e
next_written (Makes spec) s h = refl
next_written (Changes command) s h = refl
next_written Reverts s h = refl
next_written (Shows show) s h = absurd cc

some_behind : (front : List ℕ) (b : ℕ) (rest : List ℕ) → is_empty (front ++ b ∷ rest) ≡ false
some_behind [] b rest = refl
some_behind (a ∷ front) b rest = refl

unwritten_some : (text front : List ℕ) (b : ℕ) (rest : List ℕ) → text ≡ front ++ b ∷ rest → is_empty text ≡ false
unwritten_some text front b rest h = ap is_empty h ∙ some_behind front b rest

-- ---- what it came to

-- the same whatever the database was before it
comes_any : (verdict : Option Fault) (text : List ℕ) (e : Effect) (Moved Same : Type 0) (c0 c1 : Option (List ℕ)) (changed : Bool) (fault : Option Fault)
    → Comes verdict text e Moved Same c0 c1 changed fault → Comes verdict text e Moved (Unit {0}) c0 c1 changed fault
comes_any verdict text e Moved Same c0 c1 changed None h = h
comes_any verdict text e Moved Same c0 c1 changed (Some Output) h = h
comes_any verdict text e Moved Same c0 c1 changed (Some (Line fault)) h = (h.0, tt, h.2, h.3)
comes_any verdict text e Moved Same c0 c1 changed (Some (Refused fault)) h = (h.0, tt, h.2, h.3)
comes_any verdict text e Moved Same c0 c1 changed (Some NoDatabase) h = (h.0, tt, h.2, h.3)

-- what was found is the state's database; what makes one may have found any
abbrev pub SameFor : Effect → Option Filing → Option Stored → Type 0
SameFor (Makes spec) s found = Unit {0}
SameFor (Changes command) s found = found ≡ database_in s
SameFor Reverts s found = found ≡ database_in s
SameFor (Shows show) s found = found ≡ database_in s

module _ (c0 c1 : Option (List ℕ)) (db : Option Stored) (changed : Bool) (fault : Option Fault) where
  -- over this database, whatever it was
  abbrev pub ComesOver : Option Stored → Effect → Type 0
  ComesOver kept e = Comes (verdict_on kept e) (text_on kept e) e (db ≡ stored_next kept e) (Unit {0}) c0 c1 changed fault

  comes_over : (e : Effect) (kept found : Option Stored) → found ≡ kept → Comes (verdict_on found e) (text_on found e) e (db ≡ stored_next found e) (db ≡ found) c0 c1 changed fault → ComesOver kept e
  comes_over e kept found same h = subst (λ (k : Option Stored). ComesOver k e) same (comes_any (verdict_on found e) (text_on found e) e (db ≡ stored_next found e) (db ≡ found) c0 c1 changed fault h)

  -- what was found is the database of the state, or it isn't asked for
  pub comes_in : (e : Effect) (s : Option Filing) (found : Option Stored) → SameFor e s found → Comes (verdict_on found e) (text_on found e) e (db ≡ stored_next found e) (db ≡ found) c0 c1 changed fault → ComesOver (database_in s) e
  comes_in (Makes spec) s found f h = comes_any (verdict_on found (Makes spec)) (text_on found (Makes spec)) (Makes spec) (db ≡ stored_next found (Makes spec)) (db ≡ found) c0 c1 changed fault h
  comes_in (Changes command) s found f h = comes_over (Changes command) (database_in s) found f h
  comes_in Reverts s found f h = comes_over Reverts (database_in s) found f h
  comes_in (Shows show) s found f h = comes_over (Shows show) (database_in s) found f h

-- so it prints what the state's database does
text_in : (e : Effect) (s : Option Filing) (found : Option Stored) → SameFor e s found → text_on found e ≡ text_on (database_in s) e
text_in (Makes spec) s found f = refl
text_in (Changes command) s found f = refl
text_in Reverts s found f = refl
text_in (Shows show) s found f = ap (λ (k : Option Stored). text_on k (Shows show)) f

-- ---- what is left of it

-- what is known before a command: where it is accepted it leads to a valid state, and if it changes nothing the storage
-- that stays has what is kept
pub record Before (old new : Held) (s : Option Filing) (e : Effect) : Type 0 where
  pub stands : verdict_on (database_in s) e ≡ None → StandsFor (stored_next (database_in s) e) (next (state_in s) e)
  pub valid : verdict_on (database_in s) e ≡ None → Valid (old ≡ Missing) (next (state_in s) e)
  pub same : false ≡ is_change e → new ≡ old → IsLeft old new (kept_next s e) None

-- over the file of a state
pub before_kept : Staying → Reading → (old new : Held) (s : Option Filing) → Holds old s → (e : Effect) → Before old new s e
before_kept stays laws old new s held e =
    let valid = valid_held laws old s held in
    record {
      stands = next_stands stays (old ≡ Missing) e (state_in s) valid;
      valid = next_valid stays (old ≡ Missing) e (state_in s) valid;
      same = λ shown k. same_left old new s (kept_next s e) held (same_shown e s shown) k;
    }

-- a create over bytes that are no database
pub before_made : Staying → (old new : Held) (spec : CreateSpec) → Before old new None (Makes spec)
before_made stays old new spec = record {
  stands = next_stands stays (Unit {0}) (Makes spec) None tt;
  valid = next_valid stays (Unit {0}) (Makes spec) None tt;
  same = λ shown k. absurd cc;
}

module _ (old new : Held) (s : Option Filing) (e : Effect) (c0 c1 : Option (List ℕ)) where
  abbrev pub Answered : Result (Unit {0}) TaskFault → Type 0
  Answered end = (s1 : Option Filing) × Answers s e s1 c0 c1 end × IsLeft old new s1 (result_err end)

  -- the database after it was written, or not
  changed_answers : (db : Option Stored) (end : Result (Unit {0}) TaskFault) → Leaves db (Some old) (Some new) end
      → IsDone s e (kept_next s e) × Appends c0 c1 (text_on (database_in s) e) → Answers s e (kept_next s e) c0 c1 end
  changed_answers db (Ok x) k h = h
  changed_answers db (Err task.CannotWrite) k h = h
  changed_answers db (Err task.CannotOpen) k h = absurd (let e = unleft (Some old) (Some new) db task.CannotOpen k in cc)
  changed_answers db (Err (task.File fault)) k h = absurd (let e = unleft (Some old) (Some new) db (task.File fault) k in cc)
  changed_answers db (Err (task.Command fault)) k h = absurd (let e = unleft (Some old) (Some new) db (task.Command fault) k in cc)
  changed_answers db (Err (task.Stream fault)) k h = absurd (let e = unleft (Some old) (Some new) db (task.Stream fault) k in cc)

  -- it ended by this fault
  by_fault : (fault : Fault) (s1 : Option Filing) (end : Result (Unit {0}) TaskFault) → Answers s e s1 c0 c1 (Err (task.Command fault))
      → (end ≡ Err (task.Command fault)) × (new ≡ old) → Answered end
  by_fault fault s1 end a k =
      subst (λ (r : Result (Unit {0}) TaskFault). Answered r) (sym k.0) (s1, a, stays_left old new s1 (task.Command fault) k.1 tt)

  -- it was done
  done : Before old new s e → (db : Option Stored) (changed : Bool) (end : Result (Unit {0}) TaskFault) → ComesOver c0 c1 db changed None (database_in s) e
      → EndsBy None changed db (text_on (database_in s) e) (Some old) (Some new) end → Answered end
  done before db true end h k =
      let state = state_in s in
      let moved : StandsFor db (next state e) = subst (λ (d : Option Stored). StandsFor d (next state e)) (sym h.1) (before.stands h.0) in
      let left = left_after old new db (next state e) end moved (before.valid h.0) k in
      (kept_next s e, changed_answers db end k ((h.0, refl), h.3), subst (λ (x : Option Filing). IsLeft old new x (result_err end)) (next_written e s h.2) left)
  done before db false (Ok x) h k = (kept_next s e, ((h.0, refl), h.3), before.same h.2 k)
  done before db false (Err fault) h k =
      let text = text_on (database_in s) e in
      by_fault Output (kept_next s e) (Err fault) ((h.0, refl), (text, [], sym (append-nil text), h.3), k.1) (ap (λ (f : TaskFault). Err f) k.0, k.2)

  pub ended : Before old new s e → (db : Option Stored) (changed : Bool) (fault : Option Fault) (end : Result (Unit {0}) TaskFault) → ComesOver c0 c1 db changed fault (database_in s) e
      → EndsBy fault changed db (text_on (database_in s) e) (Some old) (Some new) end → Answered end
  ended before db changed None end h k = done before db changed end h k
  ended before db changed (Some Output) end h k =
      let print = h.3 in
      by_fault Output (kept_next s e) end ((h.0, refl), (print.0, print.1 ∷ print.2, print.3, print.4), unwritten_some (text_on (database_in s) e) print.0 print.1 print.2 print.3) k
  ended before db changed (Some (Line fault)) end h k = by_fault (Line fault) s end (h.0, (refl, h.3)) k
  ended before db changed (Some (Refused fault)) end h k = by_fault (Refused fault) s end (h.0, (refl, h.3)) k
  ended before db changed (Some NoDatabase) end h k = by_fault NoDatabase s end (h.0, (refl, h.3)) k

  -- ---- the file could not be read

  stopped_by : (fault : TaskFault) → ReadsFile e → MayStop s fault → Keeps c0 c1 → new ≡ old → Answered (Err fault)
  stopped_by (task.File fault) r m k n = (s, (r, m, (refl, k)), stays_left old new s (task.File fault) n tt)
  stopped_by task.CannotOpen r m k n = (s, (r, m, (refl, k)), stays_left old new s task.CannotOpen n tt)
  stopped_by task.CannotWrite r m k n = absurd m
  stopped_by (task.Command fault) r m k n = absurd m
  stopped_by (task.Stream fault) r m k n = absurd m

  pub stopped : (fault : TaskFault) (end : Result (Unit {0}) TaskFault) → ReadsFile e → MayStop s fault → (end ≡ Err fault) × (new ≡ old) × Keeps c0 c1 → Answered end
  stopped fault end r m k = subst (λ (x : Result (Unit {0}) TaskFault). Answered x) (sym k.0) (stopped_by fault r m k.2 k.1)

-- ---- one command, from where it started

-- the database that a command found is that of the state, or it was stopped as the state's file may stop it
abbrev pub StartsIn : Effect → Option Filing → Result (Option Stored) TaskFault → Type 0
StartsIn e s (Ok found) = SameFor e s found
StartsIn e s (Err fault) = ReadsFile e × MayStop s fault

module _ (old new : Held) (s : Option Filing) (c0 c1 : Option (List ℕ)) (end : Result (Unit {0}) TaskFault) where
  pub started : (command : Command) (start : Result (Option Stored) TaskFault) → Before old new s (effect command) → StartsIn (effect command) s start
      → RunsFrom command start (Some old) (Some new) c0 c1 end → Answered old new s (effect command) c0 c1 end
  started command (Err fault) before f h = stopped old new s (effect command) c0 c1 fault end f.0 f.1 h
  started command (Ok found) before f h =
      let came = comes_in c0 c1 (database_left h.0) (has_changed h.0) (fault_left h.0) (effect command) s found f h.1 in
      let ends = subst (λ (t : List ℕ). EndsBy (fault_left h.0) (has_changed h.0) (database_left h.0) t (Some old) (Some new) end) (text_in (effect command) s found f) h.2 in
      ended old new s (effect command) c0 c1 before (database_left h.0) (has_changed h.0) (fault_left h.0) end came ends

  -- words that are no command
  pub unread_words : (fault : LineFault) → (end ≡ Err (task.Command (Line fault))) × (new ≡ old) × Keeps c0 c1
      → (s1 : Option Filing) × AnswersRead s (Err fault) s1 c0 c1 end × IsLeft old new s1 (result_err end)
  unread_words fault h =
      let left = stays_left old new s (task.Command (Line fault)) h.1 tt in
      (s, (h.0, (refl, h.2)), subst (λ (x : Result (Unit {0}) TaskFault). IsLeft old new s (result_err x)) (sym h.0) left)

-- ---- over the file of a state

module _ (stays : Staying) (laws : Reading) (old : Held) (s : Option Filing) (held : Holds old s) where
  found_one : (found : Option Stored) → FindsOne (Some old) (Ok found) → found ≡ database_in s
  found_one None f = absurd f
  found_one (Some d) f = found_is laws old s (Some d) held f

  starts_in : (e : Effect) (start : Result (Option Stored) TaskFault) → StartsBy e (Some old) start → StartsIn e s start
  starts_in (Makes spec) (Ok found) f = tt
  starts_in (Makes spec) (Err fault) f = absurd cc
  starts_in (Changes command) (Ok found) f = found_one found f
  starts_in (Changes command) (Err fault) f = (tt, may_stop laws old s fault held f)
  starts_in Reverts (Ok found) f = found_one found f
  starts_in Reverts (Err fault) f = (tt, may_stop laws old s fault held f)
  starts_in (Shows show) (Ok found) f = found_one found f
  starts_in (Shows show) (Err fault) f = (tt, may_stop laws old s fault held f)

  pub command_computed : (new : Held) (read : Result Command LineFault) (c0 c1 : Option (List ℕ)) (end : Result (Unit {0}) TaskFault) → RunsAs read (Some old) (Some new) c0 c1 end
      → (s1 : Option Filing) × AnswersRead s read s1 c0 c1 end × IsLeft old new s1 (result_err end)
  command_computed new (Err fault) c0 c1 end h = unread_words old new s c0 c1 end fault h
  command_computed new (Ok command) c0 c1 end h =
      started old new s c0 c1 end command h.0 (before_kept stays laws old new s held (effect command)) (starts_in (effect command) h.0 h.1) h.2
