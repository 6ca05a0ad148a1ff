-- Over bytes that are no database a create goes on as over no file, and each other run is refused.
use Rattle.rrd_store.proofs.Names.{arith, ◌≡◌, ◌⊎◌, ◌∙◌, ℕ, List, Option, Some, None, Result, Ok, Err, sym, ap, refl, subst, inl, inr, Keeps, result_err, CreateSpec, Stored, effect, IsReading, reading, Changes, Effect, Makes, Reverts, Shows, Unread, Command, Line, LineFault, IsFileBatch, Bytes, Finds, Held, IsNoFile, ByBatch, ByCommand, ByRequest, Did, IsCreate, IsOfBytes, OutputStays, Run, fault_of, fault_of_batch, FindsOne, RunsAs, RunsFrom, StartsBy, FileBatchEnd, TaskFault}
use Rattle.rrd_store.proofs.CommandRuns.{Answered, Before, StartsIn, before_made, started, unread_words}
use Rattle.rrd_store.proofs.FileRuns.{LeadsIn}
use Rattle.rrd_store.proofs.ValidStates.{Staying}
use Rattle.rrd_store.specs.declared.faults.TaskFault.TheVariants as task

-- ---- what the words mean

abbrev command_or : Command → Option (Result Command Unread) → Command
command_or or None = or
command_or or (Some (Ok command)) = command
command_or or (Some (Err unread)) = or

abbrev read_or : Command → Result Command LineFault → Command
read_or or (Ok command) = command
read_or or (Err fault) = or

-- what was read of the words is what they mean
read_means : (words : List (List ℕ)) (now : ℕ) (command : Command) → IsReading words now (Ok command) → reading words now ≡ Some (Ok command)
read_means words now command r = r.1

-- ---- runs that are refused

module _ (bytes : List ℕ) (none : IsNoFile bytes) (new : Held) where
  of_bytes : (fault : TaskFault) → Finds (Some (Bytes bytes)) (Err fault) → IsOfBytes bytes fault
  of_bytes (task.File fault) f = f
  of_bytes task.CannotOpen f = tt
  of_bytes task.CannotWrite f = absurd f
  of_bytes (task.Command fault) f = absurd f
  of_bytes (task.Stream fault) f = absurd f

  nothing_found : (found : Option Stored) → Finds (Some (Bytes bytes)) (Ok found) → ⊥
  nothing_found None f = f
  nothing_found (Some d) f = none d f

  module _ (c0 c1 : Option (List ℕ)) where
    -- the file stays, nothing is printed, and the run ends with the fault of the bytes
    abbrev pub Refused : Option TaskFault → Type 0
    Refused ended = (new ≡ Bytes bytes) × Keeps c0 c1 × (fault : TaskFault) × (ended ≡ Some fault) × IsOfBytes bytes fault

    module _ (command : Command) (end : Result (Unit {0}) TaskFault) where
      stopped : (fault : TaskFault) → IsOfBytes bytes fault → RunsFrom command (Err fault) (Some (Bytes bytes)) (Some new) c0 c1 end → Refused (result_err end)
      stopped fault is h = (h.1, h.2, fault, ap result_err h.0, is)

      not_found : (start : Result (Option Stored) TaskFault) → FindsOne (Some (Bytes bytes)) start → RunsFrom command start (Some (Bytes bytes)) (Some new) c0 c1 end → Refused (result_err end)
      not_found (Ok None) f h = absurd f
      not_found (Ok (Some d)) f h = absurd (none d f)
      not_found (Err fault) f h = stopped fault (of_bytes fault f) h

      refused_from : (e : Effect) → ((spec : CreateSpec) → e ≡ Makes spec → ⊥) → (start : Result (Option Stored) TaskFault) → StartsBy e (Some (Bytes bytes)) start
          → RunsFrom command start (Some (Bytes bytes)) (Some new) c0 c1 end → Refused (result_err end)
      refused_from (Makes spec) other start f h = absurd (other spec refl)
      refused_from (Changes change) other start f h = not_found start f h
      refused_from Reverts other start f h = not_found start f h
      refused_from (Shows show) other start f h = not_found start f h

    command_refused : (read : Result Command LineFault) (end : Result (Unit {0}) TaskFault) → ((command : Command) (spec : CreateSpec) → read ≡ Ok command → effect command ≡ Makes spec → ⊥)
        → RunsAs read (Some (Bytes bytes)) (Some new) c0 c1 end → Refused (result_err end)
    command_refused (Err fault) end other h = (h.1, h.2, task.Command (Line fault), ap result_err h.0, tt)
    command_refused (Ok command) end other h = refused_from command end (effect command) (λ spec e. other command spec refl e) h.0 h.1 h.2

    batch_refused : (now numbered : ℕ) (r0 r1 : Option (List ℕ)) (end : Result FileBatchEnd TaskFault) → IsFileBatch now numbered (Some (Bytes bytes)) (Some new) r0 r1 c0 c1 end → Refused (fault_of_batch end)
    batch_refused now numbered r0 r1 (Err fault) h = (h.1, h.3, fault, refl, of_bytes fault h.0)
    batch_refused now numbered r0 r1 (Ok end) h = absurd (nothing_found h.0 h.1)

  read_is : (words : List (List ℕ)) (now : ℕ) (read : Result Command LineFault) (command : Command) → IsReading words now read → read ≡ Ok command → reading words now ≡ Some (Ok command)
  read_is words now read command r e = read_means words now command (subst (λ (x : Result Command LineFault). IsReading words now x) e r)

  pub run_refused : (run : Run) → ¬ IsCreate run → Did (Bytes bytes) run new
      → (new ≡ Bytes bytes) × OutputStays run × (fault : TaskFault) × (fault_of run ≡ Some fault) × IsOfBytes bytes fault
  run_refused (ByCommand r) other h =
      command_refused r.out_before r.out_after h.0 r.end (λ command spec read e. other (command, read_is r.words r.now h.0 command h.1 read, spec, e)) h.2
  run_refused (ByRequest r) other h =
      command_refused r.out_before r.out_after (Ok r.command) r.end (λ command spec read e. other (spec, ap effect (ap (read_or r.command) read) ∙ e)) h
  run_refused (ByBatch r) other h = batch_refused r.out_before r.out_after r.now r.numbered r.in_before r.in_after r.end h

-- ---- creates

-- whether a command makes a database
made_or_not : (words : List (List ℕ)) (now : ℕ) (command : Command) → reading words now ≡ Some (Ok command) → (e : Effect) → effect command ≡ e
    → ((c : Command) × (reading words now ≡ Some (Ok c)) × (spec : CreateSpec) × (effect c ≡ Makes spec))
    ⊎ ((c : Command) × (reading words now ≡ Some (Ok c)) × (spec : CreateSpec) × (effect c ≡ Makes spec) → ⊥)
made_or_not words now command is (Makes spec) e = inl (command, is, spec, e)
made_or_not words now command is (Changes change) e = grind arith
made_or_not words now command is Reverts e = grind arith
made_or_not words now command is (Shows show) e = grind arith

words_make : (words : List (List ℕ)) (now : ℕ) (read : Option (Result Command Unread)) → reading words now ≡ read
    → ((c : Command) × (reading words now ≡ Some (Ok c)) × (spec : CreateSpec) × (effect c ≡ Makes spec))
    ⊎ ((c : Command) × (reading words now ≡ Some (Ok c)) × (spec : CreateSpec) × (effect c ≡ Makes spec) → ⊥)
words_make words now None is = inr (λ made. let bad = sym made.1 ∙ is in cc)
words_make words now (Some (Err unread)) is = inr (λ made. let bad = sym made.1 ∙ is in cc)
words_make words now (Some (Ok command)) is = made_or_not words now command is (effect command) refl

request_makes : (command : Command) (e : Effect) → effect command ≡ e
    → ((spec : CreateSpec) × (effect command ≡ Makes spec)) ⊎ ((spec : CreateSpec) × (effect command ≡ Makes spec) → ⊥)
request_makes command (Makes spec) is = inl (spec, is)
request_makes command (Changes change) is = inr (λ made. let bad : Makes made.0 ≡ Changes change = sym made.1 ∙ is in cc)
request_makes command Reverts is = inr (λ made. let bad : Makes made.0 ≡ Reverts = sym made.1 ∙ is in cc)
request_makes command (Shows show) is = inr (λ made. let bad : Makes made.0 ≡ Shows show = sym made.1 ∙ is in cc)

pub is_create : (run : Run) → IsCreate run ⊎ (IsCreate run → ⊥)
is_create (ByCommand r) = words_make r.words r.now (reading r.words r.now) refl
is_create (ByRequest r) = request_makes r.command (effect r.command) refl
is_create (ByBatch r) = inr (λ x. x)

module _ (stays : Staying) (old new : Held) (c0 c1 : Option (List ℕ)) (end : Result (Unit {0}) TaskFault) where
  none_started : (e : Effect) (spec : CreateSpec) → e ≡ Makes spec → (start : Result (Option Stored) TaskFault) → StartsBy e (Some old) start → StartsIn e None start
  none_started (Makes made) spec is (Ok found) f = tt
  none_started (Makes made) spec is (Err fault) f = absurd cc
  none_started (Changes change) spec is start f = absurd cc
  none_started Reverts spec is start f = absurd cc
  none_started (Shows show) spec is start f = absurd cc

  -- it goes on as over no file
  create_answers : (command : Command) (spec : CreateSpec) → effect command ≡ Makes spec → (start : Result (Option Stored) TaskFault) → StartsBy (effect command) (Some old) start
      → RunsFrom command start (Some old) (Some new) c0 c1 end → Answered old new None (effect command) c0 c1 end
  create_answers command spec is start f h =
      let before : Before old new None (effect command) = subst (λ (e : Effect). Before old new None e) (sym is) (before_made stays old new spec) in
      started old new None c0 c1 end command start before (none_started (effect command) spec is start f) h

create_reads : (stays : Staying) (old new : Held) (words : List (List ℕ)) (now : ℕ) (c0 c1 : Option (List ℕ)) (end : Result (Unit {0}) TaskFault) (made : Command) (spec : CreateSpec)
    → reading words now ≡ Some (Ok made) → effect made ≡ Makes spec → (read : Result Command LineFault) → IsReading words now read → RunsAs read (Some old) (Some new) c0 c1 end
    → LeadsIn old new None (ByCommand (record { words = words; now = now; out_before = c0; out_after = c1; end = end }))
create_reads stays old new words now c0 c1 end made spec is makes (Err fault) r h =
    let came = unread_words old new None c0 c1 end fault h in
    (came.0, (Err fault, r, came.1), came.2)
create_reads stays old new words now c0 c1 end made spec is makes (Ok command) r h =
    let same : command ≡ made = ap (command_or made) (sym (read_means words now command r) ∙ is) in
    let came = create_answers stays old new c0 c1 end command spec (ap effect same ∙ makes) h.0 h.1 h.2 in
    (came.0, (Ok command, r, came.1), came.2)

pub create_leads : Staying → (old new : Held) (run : Run) → IsCreate run → Did old run new → LeadsIn old new None run
create_leads stays old new (ByCommand r) is h = grind (arith, create_reads stays old new r.words r.now r.out_before r.out_after r.end is.0 is.2 is.1 is.3 h.0 h.1 h.2)
create_leads stays old new (ByRequest r) is h =
    create_answers stays old new r.out_before r.out_after r.end r.command is.0 is.1 h.0 h.1 h.2
create_leads stays old new (ByBatch r) is h = absurd is
