-- What a file stands for after a run, after a kill, and after any list of them.
use Rattle.rrd_store.proofs.Names.{◌≡◌, ◌∷◌, [], ℕ, List, Option, Some, None, sym, refl, subst, inl, inr, Stored, stored_of, Bytes, HasNone, Held, IsNoFile, ByBatch, ByCommand, ByRequest, Damaged, Did, Ended, Event, Filing, HappenedAll, Holds, IsFileOf, Keeping, KeepsNone, Killed, Leads, LeadsAll, LeadsKilled, Run, RunIsComputed, RunsFollowSpecification, Standing, StandsBy, WasKilled, fault_of, first_of, TaskFault}
use Rattle.rrd_store.proofs.Damaged.{Layouts}
use Rattle.rrd_store.proofs.FileRuns.{LeadsIn, batch_leads, command_leads, first_held, request_leads}
use Rattle.rrd_store.proofs.Found.{IsFailed, IsLeft, Reading}
use Rattle.rrd_store.proofs.NoDatabase.{create_leads, is_create, run_refused}
use Rattle.rrd_store.proofs.ValidStates.{Staying}
use Rattle.rrd_store.specs.declared.faults.TaskFault.TheVariants as task

-- what the laws say that all of this stands on
pub record Laws : Type 0 where
  pub stays : Staying
  pub reading : Reading
  pub layouts : Layouts

-- ---- after one run

module _ (laws : Laws) where
  -- over no database no database is kept
  none_kept : (old : Held) (t : Standing) → IsFileOf old t → HasNone old → KeepsNone t
  none_kept old (Keeping None) file none = tt
  none_kept old (Keeping (Some k)) file none =
      subst HasNone file.0 none (stored_of k.state) (laws.layouts.read k.version (stored_of k.state) file.1.1)
  none_kept old (Damaged bytes) file none = tt

  module _ (old new : Held) (t : Standing) (file : IsFileOf old t) where
    same_file : new ≡ old → IsFileOf new t
    same_file same = subst (λ (b : Held). IsFileOf b t) (sym same) file

    failed_standing : (s1 : Option Filing) → IsFailed old new s1 → (t1 : Standing) × StandsBy t s1 (Some task.CannotWrite) t1 × IsFileOf new t1
    failed_standing None h = absurd h
    failed_standing (Some k) h = elim h [
      | inl same ↦ (t, inl refl, same_file same)
      | inr other ↦ elim other [
        | inl all ↦ (Keeping (Some k), inr (inl refl), all)
        | inr none ↦ (Damaged none.1, inr (inr (none_kept old t file none.0, none.1, refl)), (none.2, none.3))
      ]
    ]

    standing : (s1 : Option Filing) (fault : Option TaskFault) → IsLeft old new s1 fault → (t1 : Standing) × StandsBy t s1 fault t1 × IsFileOf new t1
    standing s1 None h = (Keeping s1, refl, h)
    standing s1 (Some task.CannotWrite) h = failed_standing s1 h
    standing s1 (Some task.CannotOpen) h = (t, refl, same_file h)
    standing s1 (Some (task.File fault)) h = (t, refl, same_file h)
    standing s1 (Some (task.Command fault)) h = (t, refl, same_file h)
    standing s1 (Some (task.Stream fault)) h = (t, refl, same_file h)

  known_run : (old new : Held) (s : Option Filing) (run : Run) → Holds old s → Did old run new → LeadsIn old new s run
  known_run old new s (ByCommand r) held h = command_leads laws.stays laws.reading old new s r held h
  known_run old new s (ByRequest r) held h = request_leads laws.stays laws.reading old new s r held h
  known_run old new s (ByBatch r) held h = batch_leads laws.stays laws.reading old new s r held h

  -- over bytes that are no database
  damaged_leads : (bytes : List ℕ) (new : Held) (run : Run) → IsNoFile bytes → Did (Bytes bytes) run new → (t1 : Standing) × Leads (Damaged bytes) run t1 × IsFileOf new t1
  damaged_leads bytes new run none h = elim (is_create run) [
    | inl made ↦
        let came = create_leads laws.stays (Bytes bytes) new run made h in
        let after = standing (Bytes bytes) new (Damaged bytes) (refl, none) came.0 (fault_of run) came.2 in
        (after.0, inl (made, came.0, came.1, after.1), after.2)
    | inr other ↦
        let refused = run_refused bytes none new run other h in
        (Damaged bytes, inr (other, (refused.1, refused.2, refused.3, refused.4), refl), (refused.0, none))
  ]

  -- over any file that stands for something
  run_leads : (old new : Held) (t : Standing) (run : Run) → IsFileOf old t → Did old run new → (t1 : Standing) × Leads t run t1 × IsFileOf new t1
  run_leads old new (Keeping s) run file h =
      let came = known_run old new s run file h in
      let after = standing old new (Keeping s) file came.0 (fault_of run) came.2 in
      (after.0, (came.0, came.1, after.1), after.2)
  run_leads old new (Damaged bytes) run file h =
      damaged_leads bytes new run file.1 (subst (λ (b : Held). Did b run new) file.0 h)

  -- ---- after a kill

  kill_leads : (old : Held) (t : Standing) (run : Run) (new : Held) → IsFileOf old t → WasKilled old run new → (t1 : Standing) × LeadsKilled t run t1 × IsFileOf new t1
  kill_leads old t run new file h = elim h [
    | inl same ↦ (t, inl refl, subst (λ (b : Held). IsFileOf b t) (sym same) file)
    | inr other ↦ elim other [
      | inl did ↦
          let after = run_leads old new t run file did in
          (after.0, inr (inl after.1), after.2)
      | inr none ↦ (Damaged none.1, inr (inr (none_kept old t file none.0, none.1, refl)), (none.2, none.3))
    ]
  ]

  -- ---- one after another

  pub run_computed : (old : Held) (t : Standing) (event : Event) (new : Held) → RunIsComputed old t event new
  run_computed old t (Ended run) new file h = run_leads old new t run file h
  run_computed old t (Killed run) new file h = kill_leads old t run new file h

  events_from : (old : Held) (t : Standing) (events : List Event) (new : Held) → IsFileOf old t → HappenedAll old events new → (last : Standing) × LeadsAll t events last × IsFileOf new last
  events_from old t [] new file h = (t, refl, subst (λ (b : Held). IsFileOf b t) (sym h) file)
  events_from old t (event ∷ events) new file h =
      let one = run_computed old t event h.0 file h.1 in
      let more = events_from h.0 one.0 events new one.2 h.2 in
      (more.0, (one.0, one.1, more.1), more.2)

  pub runs_computed : (old : Held) (first : Option Stored) (events : List Event) (new : Held) → RunsFollowSpecification old first events new
  runs_computed old first events new is h =
      events_from old (Keeping (first_of old first is)) events new (first_held laws.stays laws.reading old first is) h
