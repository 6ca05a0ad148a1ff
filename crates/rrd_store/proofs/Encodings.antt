-- The bytes of a file that stay in memory are those of the database before a command.
use Rattle.std.proofs.Common.{arith}
use Rattle.std.proofs.Common.{◌≡◌, ◌∙◌, ℕ, Bool, false, true, List, [], Option, Some, None, IfErr, IfOk, IfSome, Result, Ok, Err, Bor, refl, sym, ap, subst}
use Rattle.std.specs.Option.{option_copied}
use Rattle.std.specs.Result.{result_err}
use Rattle.rrd_spec.specs.Journal.Survivors.{Stored}
use Rattle.rrd_spec.specs.Laws.Updates.{UpdateIsLater}
use Rattle.rrd_spec.specs.History.{Content}
use Rattle.rrd_spec.specs.Validity.{IsValid}
use Rattle.rrd_spec.specs.declared.requests.update.Update.{Update}
use Rattle.rrd_file.specs.Encoded.{Encodes, bytes_in}
use Rattle.rrd_file.specs.Faults.{IsFile, IsValidStored}
use Rattle.rrd_file.specs.Laws.{EncodedIsLayout}
use Rattle.rrd_file.specs.Layout.{layout}
use Rattle.rrd_file.specs.Spans.{AgreesOutside}
use Rattle.rrd_file.specs.declared.encoded.Encoded.{Encoded}
use Rattle.rrd_file.specs.declared.span.Span.{Span}
use Rattle.rrd_tool.specs.Commands.{effect}
use Rattle.rrd_tool.specs.Execution.{Executes, database_left, has_changed}
use Rattle.rrd_tool.specs.declared.commands.Command.{Command}
use Rattle.rrd_tool.specs.declared.execution.Outcome.{Outcome}
use Rattle.rrd_tool.specs.declared.execution.Outcome.TheVariants.{Printed, Changed, Refused as WasRefused}
use Rattle.rrd_store.specs.Encoding.{AreOf, IsBefore, IsBeforeCommand, IsOf, encoded_by, encoded_in}
use Rattle.rrd_store.specs.Sessions.{HasBytes, first_there, kept_by, kept_unless}
use Rattle.rrd_store.specs.Single.{Ends}
use Rattle.rrd_store.specs.Storages.{Becomes, Bytes, DiffersWithin, Held, IsAnyFile, Leaves, Missing, Stays}
use Rattle.rrd_store.specs.declared.encoding.Encoding.{Encoding}
use Rattle.rrd_store.specs.declared.faults.TaskFault.{TaskFault}
use Rattle.rrd_store.specs.declared.faults.TaskFault.TheVariants as task
use Rattle.rrd_tool.proofs.Moved.{changed_once, executes_same, updates}
use Rattle.rrd_tool.specs.Batch.Moved.{IsChangedBy, IsUpdate, with_change}
use Rattle.rrd_tool.specs.declared.changed_by.ChangedBy.{ChangedBy}
use Rattle.rrd_tool.specs.declared.changed_by.ChangedBy.TheVariants.{Nothing, Updates, Anything}
use Rattle.rrd_store.proofs.Sessions.{stays_same}

some_same : {A : Type 0} (x y : A) → Some x ≡ Some y → x ≡ y
some_same x y e = cc

-- the bytes from before what has changed the database
before_changed : (e : Encoded) (by : ChangedBy) (found left : Option Stored) → IsOf e found → IsChangedBy by found left → IsBefore e by left
before_changed e Nothing found left of is = grind arith
before_changed e (Updates count) found left of is = grind arith
before_changed e Anything found left of is = grind arith

pub before_lines : (encoded : Option Encoded) (by : ChangedBy) (found left : Option Stored) → IfSome encoded (λ e. IsOf e found) → IsChangedBy by found left
    → IfSome encoded (λ e. IsBefore e by left)
before_lines None by found left of is = tt
before_lines (Some e) by found left of is = before_changed e by found left of is

-- the bytes from before a command
before_command : (e : Encoded) (is_update : Bool) (found : Option Stored) (command : Command) (a b : Option (List ℕ)) (outcome : Outcome)
    → Executes found command a b outcome → IsOf e found → ((d : Stored) → found ≡ Some d → IsValid d.content) → (is_update ≡ true → IsUpdate (effect command))
    → ((base : Content) (update : Update) → UpdateIsLater base update) → IsBeforeCommand e (with_change Nothing is_update) outcome
before_command e is_update found command a b (Changed new) executed of valid is law =
    let by : IsChangedBy (with_change Nothing is_update) found (Some new) =
    changed_once Nothing is_update found found (Some new)
    (λ yes. let u = is yes in updates found command u.0 a b new u.1 valid law executed) refl in
    record { same = λ no. absurd cc; changed = λ yes. before_changed e (with_change Nothing is_update) found (Some new) of by }
before_command e is_update found command a b outcome executed of valid is law = record {
  same = λ no. subst (IsOf e) (sym (executes_same found command a b outcome executed no)) of;
  changed = λ yes. absurd cc;
}

-- the bytes of the database that a command left are those of the database that stays in memory
first_is : (left other : Option Stored) (e : Encoded) (d : Stored) → IsOf e left → first_there left other ≡ Some d → Encodes e d
first_is None other e d of kept = absurd (let no = of.is in cc)
first_is (Some x) other e d of kept = grind arith

pub kept_is : (other : Option Stored) (outcome : Outcome) (end : Result (Unit {0}) TaskFault) (e : Encoded) (d : Stored) → IsOf e (database_left outcome) → kept_by other outcome end ≡ Some d → Encodes e d
kept_is other outcome (Ok x) e d of kept = first_is (database_left outcome) other e d of kept
kept_is other outcome (Err task.CannotWrite) e d of kept = absurd cc
kept_is other outcome (Err task.CannotOpen) e d of kept = first_is (database_left outcome) other e d of kept
kept_is other outcome (Err (task.Command fault)) e d of kept = first_is (database_left outcome) other e d of kept
kept_is other outcome (Err (task.Stream fault)) e d of kept = first_is (database_left outcome) other e d of kept
kept_is other outcome (Err (task.File fault)) e d of kept = first_is (database_left outcome) other e d of kept

-- ---- the same of bytes that there may be

pub before_of : (encoded : Option Encoded) (is_update : Bool) (by : ChangedBy) (found : Option Stored) (command : Command) (a b : Option (List ℕ)) (outcome : Outcome)
    → by ≡ with_change Nothing is_update → Executes found command a b outcome → IfSome encoded (λ e. IsOf e found) → IfSome found IsValidStored
    → (is_update ≡ true → IsUpdate (effect command)) → ((base : Content) (update : Update) → UpdateIsLater base update) → IfSome encoded (λ e. IsBeforeCommand e by outcome)
before_of None is_update by found command a b outcome by_is executed of valid is law = tt
before_of (Some e) is_update by found command a b outcome by_is executed of valid is law =
    subst (λ (k : ChangedBy). IsBeforeCommand e k outcome) (sym by_is)
    (before_command e is_update found command a b outcome executed of (λ d same. (subst (λ (k : Option Stored). IfSome k IsValidStored) same valid).content_is) is law)

pub taken_is : (encoded taken : Option Encoded) (database : Option Stored) (d : Stored) → taken ≡ encoded → database ≡ Some d → AreOf encoded database → IfSome taken (λ e. IsOf e database)
taken_is None taken database d same is of = subst (λ (o : Option Encoded). IfSome o (λ e. IsOf e database)) (sym same) tt
taken_is (Some x) taken database d same is of =
    subst (λ (o : Option Encoded). IfSome o (λ e. IsOf e database)) (sym same) (record { here = d; is = is; encodes = of x d refl is })

-- the same are the file of a database
pub taken_file : (encoded taken : Option Encoded) (database : Option Stored) (d : Stored) → taken ≡ encoded → database ≡ Some d → AreOf encoded database
    → IsFile (layout d) d → ((e : Encoded) (k : Stored) → EncodedIsLayout e k) → IfSome taken (λ e. IsAnyFile (bytes_in e))
taken_file None taken database d same is of file law = subst (λ (o : Option Encoded). IfSome o (λ e. IsAnyFile (bytes_in e))) (sym same) tt
taken_file (Some x) taken database d same is of file law =
    subst (λ (o : Option Encoded). IfSome o (λ e. IsAnyFile (bytes_in e))) (sym same)
    (d, subst (λ (bytes : List ℕ). IsFile bytes d) (sym (law x d (of x d refl is))) file)

-- ---- the bytes that the storage represents

pub has_none : (held : Option Held) → HasBytes held None
has_none None = tt
has_none (Some held) = tt

-- what the storage represents differs from the new bytes within the spans
pub may_differ : (held : Option Held) (before : Encoded) (spans : List Span) (bytes : List ℕ)
    → HasBytes held (Some before) → IsAnyFile (bytes_in before) → AgreesOutside spans (bytes_in before) bytes → DiffersWithin spans held bytes
may_differ None before spans bytes has file agrees = tt
may_differ (Some Missing) before spans bytes has file agrees = absurd cc
may_differ (Some (Bytes old)) before spans bytes has file agrees = grind arith

-- what the storage represents is the same
pub may_stay : (held : Option Held) (before : Encoded) (bytes : List ℕ) → HasBytes held (Some before) → IsAnyFile (bytes_in before) → bytes ≡ bytes_in before → DiffersWithin [] held bytes
may_stay held before bytes has file same = may_differ held before [] bytes has file (subst (AgreesOutside [] (bytes_in before)) (sym same) (record { each = λ k inside none. (inside, refl) }))

-- the same of bytes that there may be
pub may_lent : (encoding : Option Encoding) (lent : Option (Bor Encoding)) (P : Encoding → Type 0) → option_copied lent ≡ encoding → IfSome encoding P → IfSome lent (λ e. P e.now)
may_lent encoding None P same may = tt
may_lent encoding (Some e) P same may = subst (λ (o : Option Encoding). IfSome o P) (sym same) may

-- ---- after a command

kept_if : (new : Option Held) (encoding : Option Encoding) (end : Result (Unit {0}) TaskFault) → HasBytes new (encoded_in encoding) → HasBytes new (encoded_by encoding end)
kept_if new encoding (Ok x) has = has
kept_if new encoding (Err task.CannotWrite) has = has_none new
kept_if new encoding (Err task.CannotOpen) has = has
kept_if new encoding (Err (task.Command fault)) has = has
kept_if new encoding (Err (task.Stream fault)) has = has
kept_if new encoding (Err (task.File fault)) has = has

module _ (mid new : Option Held) (unknown : mid ≡ None → new ≡ None) where
  stayed : (encoding : Option Encoding) (before : Option Encoded) (end : Result (Unit {0}) TaskFault) → Stays mid new → HasBytes mid before → encoded_in encoding ≡ before
      → HasBytes new (encoded_by encoding end)
  stayed encoding before end stays has same =
      kept_if new encoding end (subst (λ (held : Option Held). HasBytes held (encoded_in encoding)) (sym (stays_same mid new unknown stays)) (subst (HasBytes mid) (sym same) has))

  became : (old : Option Held) (e : Encoded) (d : Stored) → mid ≡ old → Becomes old new (layout d) → bytes_in e ≡ layout d → HasBytes new (Some e)
  became None e d is becomes same = subst (λ (held : Option Held). HasBytes held (Some e)) (sym (unknown is)) tt
  became (Some old) e d is becomes same = subst (λ (held : Option Held). HasBytes held (Some e)) (sym becomes) (ap (λ (l : List ℕ). Bytes l) (sym same))

  wrote : (encoding : Option Encoding) (d : Stored) → Becomes mid new (layout d) → IfSome encoding (λ e. IsOf e.encoded (Some d)) → ((e : Encoded) (d : Stored) → EncodedIsLayout e d) → HasBytes new (encoded_in encoding)
  wrote None d becomes of law = has_none new
  wrote (Some e) d becomes of law =
      let same : of.here ≡ d = some_same of.here d (sym of.is) in
      became mid e.encoded d refl becomes (law e.encoded d (subst (Encodes e.encoded) same of.encodes))

  changed_bytes : (encoding : Option Encoding) (d : Stored) (end : Result (Unit {0}) TaskFault) → Leaves (Some d) mid new end → IfSome encoding (λ e. IsOf e.encoded (Some d)) → ((e : Encoded) (d : Stored) → EncodedIsLayout e d)
      → HasBytes new (encoded_by encoding end)
  changed_bytes encoding d (Ok x) left of law = wrote encoding d left of law
  changed_bytes encoding d (Err task.CannotWrite) left of law = has_none new
  changed_bytes encoding d (Err task.CannotOpen) left of law = absurd left
  changed_bytes encoding d (Err (task.Command fault)) left of law = absurd left
  changed_bytes encoding d (Err (task.Stream fault)) left of law = absurd left
  changed_bytes encoding d (Err (task.File fault)) left of law = absurd left

  printed : (d : Stored) (text : List ℕ) (end : Result (Unit {0}) TaskFault) → Ends (Printed d) text mid new end → Stays mid new
  printed d text (Ok x) ends = ends
  printed d text (Err fault) ends = ends.2

  pub kept_bytes : (encoding : Option Encoding) (before : Option Encoded) (outcome : Outcome) (text : List ℕ) (end : Result (Unit {0}) TaskFault) → Ends outcome text mid new end → HasBytes mid before
      → (has_changed outcome ≡ false → encoded_in encoding ≡ before) → IfSome encoding (λ e. IsOf e.encoded (database_left outcome)) → ((e : Encoded) (d : Stored) → EncodedIsLayout e d)
      → HasBytes new (encoded_by encoding end)
  kept_bytes encoding before (Printed d) text end ends has same of law = stayed encoding before end (printed d text end ends) has (same refl)
  kept_bytes encoding before (Changed d) text end ends has same of law = changed_bytes encoding d end ends of law
  kept_bytes encoding before (WasRefused database fault) text end ends has same of law = stayed encoding before end ends.1 has (same refl)

-- ---- the bytes that stay in memory are those of the database that stays

pub both_kept : (other : Option Stored) (outcome : Outcome) (end : Result (Unit {0}) TaskFault) (encoding : Option Encoding) (encoded : Option Encoded) (kept : Option Stored)
    → IfSome encoding (λ e. IsOf e.encoded (database_left outcome)) → encoded ≡ encoded_by encoding end → kept ≡ kept_by other outcome end → AreOf encoded kept
both_kept other outcome end encoding encoded kept of encoded_is kept_is = grind arith

-- ---- after a batch

-- the bytes that a batch has written are those of the database that stays
pub written_are : (stored : Result (Option Encoded) TaskFault) (fault : Option TaskFault) (encoded : Option Encoded) (last kept : Option Stored) → fault ≡ result_err stored
    → IfOk stored (λ (e : Option Encoded). encoded ≡ e) → IfErr stored (λ (f : TaskFault). encoded ≡ None) → IfOk stored (λ (e : Option Encoded). AreOf e last) → kept ≡ kept_unless fault last → AreOf encoded kept
written_are (Ok x) fault encoded last kept fault_is ok err of kept_is =
    let kept_last : kept ≡ last = kept_is ∙ ap (λ (f : Option TaskFault). kept_unless f last) fault_is in
    λ e d some_e some_d. of e d (sym ok ∙ some_e) (sym kept_last ∙ some_d)
written_are (Err f) fault encoded last kept fault_is ok err of kept_is = λ e d some_e some_d. absurd (let no = sym err ∙ some_e in cc)
