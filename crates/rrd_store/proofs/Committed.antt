-- Of a list of runs, those that committed lead to the last state alone.
use Rattle.std.proofs.Common.{arith}
use Rattle.std.proofs.Common.{◌≡◌, ◌∙◌, ◌⊎◌, ℕ, List, [], ◌∷◌, Option, Some, None, inl, inr, refl, sym, ap, subst}
use Rattle.rrd_store.specs.Commits.{CommittedAlone, ComputesAll, HoldsOrNone, MayBeIn, MayBeOut, MayCommit, MayNotCommit, run_of, state_of}
use Rattle.rrd_store.specs.Runs.{Computes, Damaged, Ended, Event, Filing, IsFileOf, Keeping, KeepsNone, Killed, Leads, LeadsBy, Run, Standing, StandsBy, fault_of}
use Rattle.rrd_store.specs.Storages.{Held}
use Rattle.rrd_store.specs.declared.faults.TaskFault.{TaskFault}
use Rattle.rrd_store.specs.declared.faults.TaskFault.TheVariants as task

none_of : (t : Standing) → KeepsNone t → state_of t ≡ None
none_of (Keeping None) none = refl
none_of (Keeping (Some k)) none = absurd none
none_of (Damaged bytes) none = refl

-- ---- one run

module _ (t t1 : Standing) where
  -- a run that ended by this fault is left out, or leads from the one state to the other
  abbrev Goes : Run → Option TaskFault → Type 0
  Goes run fault = (MayNotCommit fault × (state_of t1 ≡ state_of t)) ⊎ (MayCommit fault × Computes (state_of t) run (state_of t1))

  spoilt_none : KeepsNone t → (bytes : List ℕ) → t1 ≡ Damaged bytes → state_of t1 ≡ state_of t
  spoilt_none none bytes spoilt = ap state_of spoilt ∙ sym (none_of t none)

  goes_by : (run : Run) (s1 : Option Filing) → Computes (state_of t) run s1 → (fault : Option TaskFault) → StandsBy t s1 fault t1 → Goes run fault
  goes_by run s1 computes None h = inr (tt, subst (λ (k : Standing). Computes (state_of t) run (state_of k)) (sym h) computes)
  goes_by run s1 computes (Some task.CannotWrite) h = elim h [
    | inl same ↦ inl (tt, ap state_of same)
    | inr other ↦ elim other [
      | inl new ↦ inr (tt, subst (λ (k : Standing). Computes (state_of t) run (state_of k)) (sym new) computes)
      | inr spoilt ↦ inl (tt, spoilt_none spoilt.0 spoilt.1 spoilt.2)
    ]
  ]
  goes_by run s1 computes (Some task.CannotOpen) h = inl (tt, ap state_of h)
  goes_by run s1 computes (Some (task.File fault)) h = inl (tt, ap state_of h)
  goes_by run s1 computes (Some (task.Command fault)) h = inl (tt, ap state_of h)
  goes_by run s1 computes (Some (task.Stream fault)) h = inl (tt, ap state_of h)

run_goes : (t : Standing) (run : Run) (t1 : Standing) → Leads t run t1 → Goes t t1 run (fault_of run)
run_goes (Keeping s) run t1 h = goes_by (Keeping s) t1 run h.0 h.1 (fault_of run) h.2
run_goes (Damaged bytes) run t1 h = grind arith

-- the same of an event
abbrev GoesBy : Standing → Event → Standing → Type 0
GoesBy t event t1 = (MayBeOut event × (state_of t1 ≡ state_of t)) ⊎ (MayBeIn event × Computes (state_of t) (run_of event) (state_of t1))

event_goes : (t : Standing) (event : Event) (t1 : Standing) → LeadsBy t event t1 → GoesBy t event t1
event_goes t (Ended run) t1 h = run_goes t run t1 h
event_goes t (Killed run) t1 h = grind (arith, run_goes)

-- ---- a list

pub committed_alone : (t : Standing) (events : List Event) (t1 : Standing) → CommittedAlone t events t1
committed_alone t [] t1 h = ([], refl, ap state_of h)
committed_alone t (event ∷ later) t1 h =
    let rest = committed_alone h.0 later t1 h.2 in
    elim (event_goes t event h.0 h.1) [
      | inl out ↦ (rest.0, inl (out.0, rest.1), subst (λ (s : Option Filing). ComputesAll s rest.0 (state_of t1)) out.1 rest.2)
      | inr goes ↦ (run_of event ∷ rest.0, inr (goes.0, rest.0, refl, rest.1), (state_of h.0, goes.1, rest.2))
    ]

-- what a file stands for, by its state
pub holds_state : (held : Held) (t : Standing) → IsFileOf held t → HoldsOrNone held (state_of t)
holds_state held (Keeping None) file = subst (λ (h : Held). HoldsOrNone h None) (sym file) tt
holds_state held (Keeping (Some k)) file = file
holds_state held (Damaged bytes) file = subst (λ (h : Held). HoldsOrNone h None) (sym file.0) file.1
