-- What is found in the file of a state, and what is left in it.
use Rattle.rrd_store.proofs.Names.{◌≡◌, ◌⊎◌, ◌∙◌, [], ℕ, List, Option, Some, None, Result, Ok, Err, sym, ap, refl, subst, inl, inr, Content, Entry, DatabaseIsWithin, Version, State, Stored, FileFault, IsAnswer, IsFile, FileIsLayout, HasOneAnswer, IsOfFile, LayoutIsNoOther, layout, layout_in, result_err, StandsFor, stored_of, Bytes, Finds, HasNone, Held, IsNoFile, Leaves, Missing, Reads, Filing, Holds, IsUnread, MayStop, as_written, database_in, state_in, TaskFault, Stream, File, CannotOpen, CannotWrite}
use Rattle.rrd_store.specs.declared.faults.TaskFault.TheVariants.{Command}
use Rattle.rrd_store.proofs.ValidStates.{Valid, is_kept}

-- what the laws of the layout say
pub record Reading : Type 0 where
  pub no_other : (version : Version) (d : Stored) → LayoutIsNoOther version d
  pub is_layout : (bytes : List ℕ) (d : Stored) → FileIsLayout bytes d
  pub one : (bytes : List ℕ) → HasOneAnswer bytes
  pub within : (version : Version) (now : Content) (journal : List Entry) → DatabaseIsWithin version now journal

pub file_layout : Reading → (bytes : List ℕ) (d : Stored) (file : IsFile bytes d) → bytes ≡ layout_in file.version d
file_layout laws bytes d file = laws.is_layout bytes d file

-- ---- answers

abbrev database_or : Stored → Result Stored FileFault → Stored
database_or or (Ok d) = d
database_or or (Err fault) = or

abbrev pub bytes_of : Held → List ℕ
bytes_of Missing = []
bytes_of (Bytes bytes) = bytes

abbrev pub held_or : Held → Option Held → Held
held_or or None = or
held_or or (Some held) = held

module _ (laws : Reading) where
  -- the answer to the bytes of a state
  one_database : (bytes : List ℕ) (k : Filing) → Holds (Bytes bytes) (Some k) → (x : Result Stored FileFault) → IsAnswer bytes x → IsOfFile x → x ≡ Ok (stored_of k.state)
  one_database bytes k h x a of =
      let same : bytes ≡ layout_in k.version (stored_of k.state) = ap bytes_of h.0 in
      laws.no_other k.version (stored_of k.state) h.1.1 x (subst (λ (b : List ℕ). IsAnswer b x) same a) of

  found_same : (bytes : List ℕ) (k : Filing) (d : Stored) → Holds (Bytes bytes) (Some k) → IsFile bytes d → d ≡ stored_of k.state
  found_same bytes k d h file = ap (database_or (stored_of k.state)) (one_database bytes k h (Ok d) file tt)

  unread : (held : Held) (s : Option Filing) (fault : FileFault) → Holds held s → Reads (Some held) (Err fault) → IsUnread s fault
  unread Missing s fault h a = absurd a
  unread (Bytes bytes) None fault h a = absurd cc
  unread (Bytes bytes) (Some k) fault h a = λ of. let same = one_database bytes k h (Err fault) a of in absurd cc

  -- the fault that was found
  pub may_stop : (held : Held) (s : Option Filing) (fault : TaskFault) → Holds held s → Finds (Some held) (Err fault) → MayStop s fault
  may_stop held s (File fault) h f = unread held s fault h f
  may_stop held s CannotOpen h f = tt
  may_stop held s CannotWrite h f = absurd f
  may_stop held s (Command fault) h f = absurd f
  may_stop held s (Stream fault) h f = absurd f

  -- the database that was found
  pub found_is : (held : Held) (s : Option Filing) (found : Option Stored) → Holds held s → Finds (Some held) (Ok found) → found ≡ database_in s
  found_is held None None h f = refl
  found_is Missing s (Some d) h f = absurd f
  found_is (Bytes bytes) s None h f = absurd f
  found_is Missing (Some k) None h f = absurd (let bad = h.0 in cc)
  found_is (Bytes bytes) None (Some d) h f = absurd cc
  found_is (Bytes bytes) (Some k) (Some d) h f = ap (λ (x : Stored). Some x) (found_same bytes k d h f)

-- ---- what is left

-- the file after a write that failed: it is as it was, or has the new bytes; or, where there was no database, bytes that
-- are none
abbrev pub IsFailed : Held → Held → Option Filing → Type 0
IsFailed old new None = ⊥
IsFailed old new (Some k) =
    (new ≡ old)
    ⊎ (Holds new (Some k) ⊎ (HasNone old × (bytes : List ℕ) × (new ≡ Bytes bytes) × IsNoFile bytes))

-- the file after a run that led to this, by the fault that it ended with
abbrev pub IsLeft : Held → Held → Option Filing → Option TaskFault → Type 0
IsLeft old new s None = Holds new s
IsLeft old new s (Some CannotWrite) = IsFailed old new s
IsLeft old new s (Some CannotOpen) = new ≡ old
IsLeft old new s (Some (File fault)) = new ≡ old
IsLeft old new s (Some (Command fault)) = new ≡ old
IsLeft old new s (Some (Stream fault)) = new ≡ old

pub valid_held : Reading → (old : Held) (s : Option Filing) → Holds old s → Valid (old ≡ Missing) (state_in s)
valid_held laws old None h = h
valid_held laws old (Some k) h = (h.1.0, laws.within k.version (stored_of k.state).content (stored_of k.state).journal h.1.1)

-- only a failed write leaves it elsewhere
pub unleft : (old new : Option Held) (last : Option Stored) (fault : TaskFault) → Leaves {T = Unit {0}} last old new (Err fault) → fault ≡ CannotWrite
unleft old new None fault k = absurd k
unleft old new (Some d) CannotWrite k = refl
unleft old new (Some d) CannotOpen k = absurd k
unleft old new (Some d) (File fault) k = absurd k
unleft old new (Some d) (Command fault) k = absurd k
unleft old new (Some d) (Stream fault) k = absurd k

module _ (old new : Held) where
  -- the database in the end is in the file
  left_held : {T : Type 0} (last : Option Stored) (s : Option State) (x : T) → StandsFor last s → Valid (old ≡ Missing) s → Leaves last (Some old) (Some new) (Ok x) → Holds new (as_written s)
  left_held None None x h v k = k ∙ v
  left_held None (Some s) x h v k = absurd h
  left_held (Some d) None x h v k = absurd h
  left_held (Some d) (Some s) x h v k = (ap (held_or Missing) k ∙ ap (λ (e : Stored). Bytes (layout e)) (is_kept s d h), v)

  -- where a write failed it may be
  left_failed : (last : Option Stored) (s : Option State) → StandsFor last s → Valid (old ≡ Missing) s → Leaves {T = Unit {0}} last (Some old) (Some new) (Err CannotWrite) → IsFailed old new (as_written s)
  left_failed None s h v k = absurd k
  left_failed (Some d) None h v k = absurd h
  left_failed (Some d) (Some s) h v k = elim k [
    | inl same ↦ inl same
    | inr other ↦ inr (elim other [
      | inl all ↦ inl (left_held (Some d) (Some s) (tt {0}) h v all)
      | inr none ↦ inr (none.0, none.1, ap (held_or Missing) none.2, none.3)
    ])
  ]

  -- the file after a write of the database, by its end
  pub left_after : (last : Option Stored) (s : Option State) (end : Result (Unit {0}) TaskFault) → StandsFor last s → Valid (old ≡ Missing) s → Leaves last (Some old) (Some new) end → IsLeft old new (as_written s) (result_err end)
  left_after last s (Ok x) h v k = left_held last s x h v k
  left_after last s (Err CannotWrite) h v k = left_failed last s h v k
  left_after last s (Err CannotOpen) h v k = absurd (let e = unleft (Some old) (Some new) last CannotOpen k in cc)
  left_after last s (Err (File fault)) h v k = absurd (let e = unleft (Some old) (Some new) last (File fault) k in cc)
  left_after last s (Err (Command fault)) h v k = absurd (let e = unleft (Some old) (Some new) last (Command fault) k in cc)
  left_after last s (Err (Stream fault)) h v k = absurd (let e = unleft (Some old) (Some new) last (Stream fault) k in cc)

-- not because of a failed write
abbrev pub IsUnwritten : TaskFault → Type 0
IsUnwritten CannotWrite = ⊥
IsUnwritten CannotOpen = Unit {0}
IsUnwritten (File fault) = Unit {0}
IsUnwritten (Command fault) = Unit {0}
IsUnwritten (Stream fault) = Unit {0}

-- the file stays
pub stays_left : (old new : Held) (s : Option Filing) (fault : TaskFault) → new ≡ old → IsUnwritten fault → IsLeft old new s (Some fault)
stays_left old new s CannotWrite h u = absurd u
stays_left old new s CannotOpen h u = h
stays_left old new s (File fault) h u = h
stays_left old new s (Command fault) h u = h
stays_left old new s (Stream fault) h u = h

-- so does what is kept
pub same_left : (old new : Held) (s s1 : Option Filing) → Holds old s → s1 ≡ s → new ≡ old → IsLeft old new s1 None
same_left old new s s1 h same k = subst (λ (x : Option Filing). Holds new x) (sym same) (subst (λ (b : Held). Holds b s) (sym k) h)
