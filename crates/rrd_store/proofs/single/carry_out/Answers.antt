use Rattle.rrd_store.proofs.Common.{List, ℕ, Bool, Option, Some, Result, TaskFault, Bytes, Held, Outcome, layout, effect, text_on, MayReplace, Ends, before_of, may_lent, executes_kept}
use Rattle.std.proofs.Common.{IsTrue}
use Rattle.rrd_store.specs.Single.{HoldsOfChange}
use Rattle.rrd_store.proofs.Safe.{printed_stays, whole_ends}
use Rattle.rrd_store.proofs.single.carry_out.Goals as goal

-- what holds where the change is read whole
change_holds : (outcome : Outcome) (text : List ℕ) (old new : Option Held) (end : Result (Unit {0}) TaskFault) (Q : List ℕ → Bool) → Ends outcome text old new end
    → ((b : List ℕ) → Ends outcome text old (Some (Bytes b)) end → IsTrue (Q b)) → HoldsOfChange Q outcome
change_holds outcome text old new end Q ends holds = λ database changed left. holds (layout database) (whole_ends outcome text old new end database changed left ends)

pub encoded_after-encoding-requires : goal.encoded_after-encoding-requires
encoded_after-encoding-requires g c =
    before_of c.args.before c.is_update.result c.and-changed_by.result c.args.database c.args.command (g.W.Write.contents c.args.out.now) (g.W.Write.contents c.execute-outcome.new.out) c.execute-outcome.result
    c.and-changed_by.ensures c.execute-outcome.ensures.kept c.requires.of c.requires.valid c.is_update.ensures c.updates_keep_newest_rows.ensures

pub returns-clause-sound : goal.returns-clause-sound
returns-clause-sound g c s honest sound had =
    let held = g.P.Storage.contents s c.args.storage.now in
    c.finish-end.ensures.sound s honest sound (may_lent c.encoded_after-encoding.result c.as_ref.result (MayReplace held) c.as_ref.ensures.value (c.encoded_after-encoding.ensures.may held had c.requires.file))

pub returns-clause-done : goal.returns-clause-done
returns-clause-done g c =
    executes_kept c.args.database c.args.command (g.W.Write.contents c.args.out.now) (g.W.Write.contents c.execute-outcome.new.out) (g.W.Write.contents c.finish-end.new.out) c.execute-outcome.result
    c.execute-outcome.ensures.kept c.finish-end.ensures.out

pub returns-clause-ends : goal.returns-clause-ends
returns-clause-ends g c s honest sound had =
    let held = g.P.Storage.contents s c.args.storage.now in
    let lent = may_lent c.encoded_after-encoding.result c.as_ref.result (MayReplace held) c.as_ref.ensures.value (c.encoded_after-encoding.ensures.may held had c.requires.file) in
    c.finish-end.ensures.storage s honest sound lent (text_on c.args.database (effect c.args.command)) c.execute-outcome.ensures.says

-- if the change is read whole, the run is one of the definitions
pub returns-clause-safe : goal.returns-clause-safe
returns-clause-safe g c s d q honest sound had holds safe =
    let old = g.P.Storage.contents s c.args.storage.now in
    let new = g.P.Storage.contents s c.finish-end.new.storage in
    let outcome = c.execute-outcome.result in
    let text = text_on c.args.database (effect c.args.command) in
    let lent = may_lent c.encoded_after-encoding.result c.as_ref.result (MayReplace old) c.as_ref.ensures.value (c.encoded_after-encoding.ensures.may old had c.requires.file) in
    let done = executes_kept c.args.database c.args.command (g.W.Write.contents c.args.out.now) (g.W.Write.contents c.execute-outcome.new.out) (g.W.Write.contents c.finish-end.new.out) outcome c.execute-outcome.ensures.kept c.finish-end.ensures.out in
    let ends : Ends outcome text old new c.finish-end.result = c.finish-end.ensures.storage s honest sound lent text c.execute-outcome.ensures.says in
    c.finish-end.ensures.safe s d q honest lent (change_holds outcome text old new c.finish-end.result q ends (λ b whole. holds b (outcome, done, whole))) safe

pub returns-clause-stored : goal.returns-clause-stored
returns-clause-stored g c s d q r ok honest sound had holds stays safe =
    let old = g.P.Storage.contents s c.args.storage.now in
    let new = g.P.Storage.contents s c.finish-end.new.storage in
    let outcome = c.execute-outcome.result in
    let text = text_on c.args.database (effect c.args.command) in
    let lent = may_lent c.encoded_after-encoding.result c.as_ref.result (MayReplace old) c.as_ref.ensures.value (c.encoded_after-encoding.ensures.may old had c.requires.file) in
    let done = executes_kept c.args.database c.args.command (g.W.Write.contents c.args.out.now) (g.W.Write.contents c.execute-outcome.new.out) (g.W.Write.contents c.finish-end.new.out) outcome c.execute-outcome.ensures.kept c.finish-end.ensures.out in
    let ends : Ends outcome text old new c.finish-end.result = c.finish-end.ensures.storage s honest sound lent text c.execute-outcome.ensures.says in
    c.finish-end.ensures.stored s d q r ok honest lent (change_holds outcome text old new c.finish-end.result r ends (λ b whole. holds b (outcome, done, whole)))
    (λ same. stays (printed_stays outcome text old new c.finish-end.result ok same ends)) safe
