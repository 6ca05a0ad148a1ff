-- What a command came to stays so where its output is only handed on.
use Rattle.rrd_store.proofs.Names.{◌∙◌, refl, ℕ, Bool, List, Option, Some, None, [], append-nil, sym, Appends, Keeps, AppendsFront, Appends-kept, Stored, effect, Effect, Comes, Executes, fault_left, has_changed, Command, Outcome, Held, Stays, Fault, Line, NoDatabase, Output, Refused}

pub appends_nothing : (a : Option (List ℕ)) → Appends a a []
appends_nothing None = tt
appends_nothing (Some x) = sym (append-nil x)

pub keeps_same : (a : Option (List ℕ)) → Keeps a a
keeps_same None = tt
keeps_same (Some x) = refl

pub stays_same : (a : Option Held) → Stays a a
stays_same None = tt
stays_same (Some x) = refl

pub keeps_kept : (a b c : Option (List ℕ)) → Keeps a b → Keeps b c → Keeps a c
keeps_kept None b c p q = tt
keeps_kept (Some x) None c p q = absurd p
keeps_kept (Some x) (Some y) None p q = absurd q
keeps_kept (Some x) (Some y) (Some z) p q = q ∙ p

pub front_kept : (a b c : Option (List ℕ)) (bs : List ℕ) → AppendsFront a b bs → Keeps b c → AppendsFront a c bs
front_kept a b c bs p q = (p.0, p.1, p.2, p.3, Appends-kept a b c p.0 p.4 q)

comes_kept : (verdict : Option Fault) (text : List ℕ) (effect : Effect) (Moved Same : Type 0)
    (a b c : Option (List ℕ)) (changed : Bool) (fault : Option Fault)
    → Comes verdict text effect Moved Same a b changed fault → Keeps b c
    → Comes verdict text effect Moved Same a c changed fault
comes_kept verdict text effect Moved Same a b c changed None p q = (p.0, p.1, p.2, Appends-kept a b c text p.3 q)
comes_kept verdict text effect Moved Same a b c changed (Some Output) p q = (p.0, p.1, p.2, front_kept a b c text p.3 q)
comes_kept verdict text effect Moved Same a b c changed (Some (Line fault)) p q = (p.0, p.1, p.2, keeps_kept a b c p.3 q)
comes_kept verdict text effect Moved Same a b c changed (Some (Refused fault)) p q = (p.0, p.1, p.2, keeps_kept a b c p.3 q)
comes_kept verdict text effect Moved Same a b c changed (Some NoDatabase) p q = (p.0, p.1, p.2, keeps_kept a b c p.3 q)

pub executes_kept : (kept : Option Stored) (command : Command) (a b c : Option (List ℕ)) (outcome : Outcome)
    → Executes kept command a b outcome → Keeps b c → Executes kept command a c outcome
executes_kept kept command a b c outcome p q = comes_kept _ _ (effect command) _ _ a b c (has_changed outcome) (fault_left outcome) p q
