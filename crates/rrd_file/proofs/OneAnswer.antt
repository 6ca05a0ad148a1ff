-- An input has one answer, but for failures of the reader and of memory.
use Rattle.std.specs.Prelude.{◌≡◌, ◌++◌, ◌+◌, ◌-◌, ◌<◌, ℕ, List, [], Bool, length, if◌then◌else◌, nat_lt, Result, Ok, Err}
use Rattle.rrd_file.proofs.Names.{◌∙◌, sym, ap, subst, arith, lt-ltb, le-ltb, take_all, Version, Filed, filed, DatabaseChange, Entry, FiledOnce, Content, RevertTakesBack, Limits, limits_of, IsValidWithin, Stored, FileFault, NotOurs, Truncated, Trailing, Front, IsAnswer, IsBad, IsFault, IsFile, IsTrailing, IsTruncated, IsWhole, bad_at, RevertRestoresBytes, RevertRestoresBytesButOldest, IsOfFile, layout, layout_in, Stage, Start, Body, size}
use Rattle.rrd_file.specs.Laws.{IsValidIn}
use Rattle.rrd_file.proofs.Came.{whole_is_layout}
use Rattle.rrd_file.proofs.OneEnd.{EndsAt, ends_bad, ends_done, ends_short, one_end, one_layout, same_body}
use Rattle.rrd_file.proofs.ValidRuns.{Outlining, valid_is_whole}

-- ---- faults

abbrev choose : Bool → Bool → FileFault → FileFault → FileFault → FileFault
choose some short cut bad more = if some then (if short then cut else bad) else more

-- the fault of an input of so many bytes that ends at a stage, with the rest
abbrev fault_of : Stage → List ℕ → ℕ → FileFault
fault_of s rest total = choose (nat_lt 0 (size s)) (nat_lt (length rest) (size s)) (Truncated total) (bad_at s (total - length rest)) (Trailing (total - length rest))

-- the input goes on to a stage, no further, and not to its end
record Stops (bytes : List ℕ) (fault : FileFault) : Type 0 where
  pub stage : Stage
  pub rest : List ℕ
  pub front : Front bytes stage rest
  pub ends : EndsAt stage rest
  pub more : 0 < size stage + length rest
  pub fault_is : fault ≡ fault_of stage rest (length bytes)

bad_stops : (bytes : List ℕ) (fault : FileFault) → IsBad bytes fault → Stops bytes fault
bad_stops bytes fault h = grind (arith, lt-ltb 0 (size h.stage) h.is_due, le-ltb (length h.rest) (size h.stage) h.whole, ends_bad h.stage h.rest h.none)

truncated_stops : (bytes : List ℕ) (at : ℕ) → IsTruncated bytes at → Stops bytes (Truncated at)
truncated_stops bytes at h = grind (arith, lt-ltb (length h.rest) (size h.stage) h.short, ends_short h.stage h.rest h.short)

trailing_stops : (bytes : List ℕ) (at : ℕ) → IsTrailing bytes at → Stops bytes (Trailing at)
trailing_stops bytes at h = grind (arith, ends_done h.stage h.rest h.done)

stops : (bytes : List ℕ) (x : FileFault) → IsFault bytes x → IsOfFile (Err x) → Stops bytes x
stops bytes NotOurs h k = bad_stops bytes NotOurs h
stops bytes x h k = grind (arith, bad_stops, truncated_stops, trailing_stops)

-- ---- two answers

-- two fronts that end
same_end : (bytes : List ℕ) (s t : Stage) (a b : List ℕ) → Front bytes s a → Front bytes t b → EndsAt s a → EndsAt t b → (s ≡ t) × (a ≡ b)
same_end bytes s t a b f g ends end = one_end Start f.pieces g.pieces s t a b tt f.runs g.runs ends end (sym f.parts ∙ g.parts)

one_fault : (bytes : List ℕ) (x y : FileFault) → Stops bytes x → Stops bytes y → x ≡ y
one_fault bytes x y h k = grind (arith, same_end bytes h.stage k.stage h.rest k.rest h.front k.front h.ends k.ends)

no_fault : (bytes : List ℕ) (f : Filed) (x : FileFault) → IsWhole bytes f → Stops bytes x → ⊥
no_fault bytes f x w h =
    let same = same_end bytes (Body f) h.stage [] h.rest w.front h.front (ends_done (Body f) [] w.done) h.ends in
    absurd (omega (arith, h.more, w.done, ap size same.0, ap length same.1))

-- no two valid databases have the same lists
abbrev pub OneDatabase : Type 0
OneDatabase = (limits : Limits) (version : Version) (d e : Stored) → FiledOnce limits version d e

one_filed : OneDatabase → (v w : Version) (d e : Stored) → IsValidIn v d → IsValidIn w e → filed v d ≡ filed w e → d ≡ e
one_filed one v w d e a b same =
    let version : w ≡ v = sym (ap (λ (f : Filed). f.header.version) same) in
    one (limits_of v) v d e a.content_is (subst (λ x. IsValidWithin (limits_of x) e.content) version b.content_is) (same ∙ ap (λ x. filed x e) version)

one_file : OneDatabase → (bytes : List ℕ) (d e : Stored) → IsFile bytes d → IsFile bytes e → d ≡ e
one_file one bytes d e f g =
    let same = same_end bytes (Body (filed f.version d)) (Body (filed g.version e)) [] [] f.whole.front g.whole.front (ends_done (Body (filed f.version d)) [] f.whole.done) (ends_done (Body (filed g.version e)) [] g.whole.done) in
    one_filed one f.version g.version d e f.valid g.valid (same_body (filed f.version d) (filed g.version e) same.0)

pub one_answer : OneDatabase → (bytes : List ℕ) (x y : Result Stored FileFault) → IsAnswer bytes x → IsAnswer bytes y → IsOfFile x → IsOfFile y → x ≡ y
one_answer one bytes (Ok d) (Ok e) h k a b = ap Ok (one_file one bytes d e h k)
one_answer one bytes (Ok d) (Err y) h k a b = absurd (no_fault bytes (filed h.version d) y h.whole (stops bytes y k b))
one_answer one bytes (Err x) (Ok e) h k a b = absurd (no_fault bytes (filed k.version e) x k.whole (stops bytes x h a))
one_answer one bytes (Err x) (Err y) h k a b = ap Err (one_fault bytes x y (stops bytes x h a) (stops bytes y k b))

-- ---- layouts

pub layout_is_file : Outlining → (version : Version) (d : Stored) → IsValidIn version d → IsAnswer (layout_in version d) (Ok d)
layout_is_file laws version d v = record { version = version; whole = valid_is_whole laws version d.content d.journal v; valid = v }

pub layout_is_no_other : Outlining → OneDatabase → (version : Version) (d : Stored) → IsValidIn version d → (x : Result Stored FileFault) → IsAnswer (layout_in version d) x → IsOfFile x → x ≡ Ok d
layout_is_no_other laws one version d v x h a = one_answer one (layout_in version d) x (Ok d) h (layout_is_file laws version d v) a tt

pub file_is_layout : (bytes : List ℕ) (d : Stored) (file : IsFile bytes d) → bytes ≡ layout_in file.version d
file_is_layout bytes d file = whole_is_layout bytes (filed file.version d) file.whole

pub layouts_differ : Outlining → OneDatabase → (v w : Version) (d e : Stored) (more : List ℕ) → IsValidIn v d → IsValidIn w e → layout_in v d ++ more ≡ layout_in w e → (v ≡ w) × (d ≡ e) × (more ≡ [])
layouts_differ laws one v w d e more a b same =
    let its = subst (λ (bytes : List ℕ). IsWhole bytes (filed w e)) (sym same) (valid_is_whole laws w e.content e.journal b) in
    let both = one_layout (layout_in v d) more (filed v d) (filed w e) (valid_is_whole laws v d.content d.journal a) its in
    (ap (λ (f : Filed). f.header.version) both.0, one_filed one v w d e a b both.0, both.1)

-- ---- reverts

pub revert_restores_bytes_but_oldest : ((now : Content) (journal : List Entry) (command : DatabaseChange) → RevertTakesBack now journal command) → (d : Stored) (command : DatabaseChange) → RevertRestoresBytesButOldest d command
revert_restores_bytes_but_oldest back d command v accepted = ap layout (back d.content d.journal command v accepted)

pub revert_restores_bytes : ((now : Content) (journal : List Entry) (command : DatabaseChange) → RevertTakesBack now journal command) → (d : Stored) (command : DatabaseChange) → RevertRestoresBytes d command
revert_restores_bytes back d command v accepted room = grind (arith, take_all, revert_restores_bytes_but_oldest)
