use Rattle.rrd_store.proofs.Common.{◌≡◌, ◌∙◌, ℕ, List, IfSome, Option, Some, Ok, Err, refl, sym, subst, err_from_is_err_and, IsValidStored, Stored, newest, effect, text_on, Executes, IsRead, beside, started, Bytes, Ends, Held, RunsFrom, Stays, both_kept, kept_bytes, keeps_same, stays_same, executes_same, kept_read, ok_same}
use Rattle.rrd_store.proofs.session.Session.run_command.Goals as goal

pub returns-in_err-database-clause-run : goal.returns-in_err-database-clause-run
returns-in_err-database-clause-run g c s honest sound memory =
    let p = err_from_is_err_and c.from_residual.result c.from_residual.ensures.1 in
    let old = g.P.Storage.contents s c.args.self.now.storage in
    let storage : Stays old (g.P.Storage.contents s c.start.new.self.storage) = rw (c.start.ensures.stays s honest sound) (stays_same old) in
    let out = keeps_same (g.W.Write.contents c.args.out.now) in
    rw (p.1, p.2) (Err c.in_err-database.field-0.0, c.in_err-database.ensures.start s honest sound memory.read, (refl, storage, out))

-- the database in memory is found
pub returns-in_err-database-clause-on : goal.returns-in_err-database-clause-on
returns-in_err-database-clause-on g c d same s honest sound memory = absurd (let found = (c.in_err-database.ensures.same d same).0 in cc)

pub returns-clause-sound : goal.returns-clause-sound
returns-clause-sound g c s honest sound memory =
    let before = c.carry_out-carried.ensures.falls s honest in
    c.carry_out-carried.ensures.sound s honest (c.start.ensures.sound s before sound)
    (c.take_encoded-encoded.ensures.bytes (g.P.Storage.contents s c.start.new.self.storage) (c.start.ensures.bytes s before sound memory.bytes))

pub returns-clause-memory : goal.returns-clause-memory
returns-clause-memory g c s honest sound memory =
    let before = c.carry_out-carried.ensures.falls s honest in
    let stays = c.start.ensures.stays s before sound in
    let mid = g.P.Storage.contents s c.start.new.self.storage in
    let new = g.P.Storage.contents s c.carry_out-carried.new.storage in
    let carried = c.carry_out-carried.result in
    let text = text_on c.in_ok-database.database (effect c.args.command) in
    let had = c.take_encoded-encoded.ensures.bytes mid (c.start.ensures.bytes s before sound memory.bytes) in
    let ends = c.carry_out-carried.ensures.ends s honest (c.start.ensures.sound s before sound) had in
    let beside_it : IsRead mid c.take-other.result = rw (stays, c.take-other.ensures.value) (c.start.ensures.read s before sound memory.read) in
    let found : IsRead mid c.in_ok-database.database = rw stays (c.in_ok-database.ensures.found s before sound memory.read) in
    record {
      read = rw c.database_kept.ensures (kept_read mid new c.take-other.result (c.carry_out-carried.ensures.unknown s) beside_it carried.outcome text carried.end ends
          (λ unchanged. subst (λ (k : Option Stored). IsRead mid k) (sym (executes_same c.in_ok-database.database c.args.command _ _ carried.outcome c.carry_out-carried.ensures.done unchanged)) found)
          (λ d is. subst (λ (k : Option Stored). IfSome k IsValidStored) is c.outcome_is_valid.ensures)
          (λ d. c.layout_is_file.ensures.read newest d));
      bytes = rw c.encoded_kept.ensures (kept_bytes mid new (c.carry_out-carried.ensures.unknown s) carried.encoding c.take_encoded-encoded.result carried.outcome text carried.end ends had
          c.carry_out-carried.ensures.same c.carry_out-carried.ensures.encoded c.encoded_is_layout.ensures);
    }

pub returns-clause-run : goal.returns-clause-run
returns-clause-run g c s honest sound memory =
    let before = c.carry_out-carried.ensures.falls s honest in
    let mid = g.P.Storage.contents s c.start.new.self.storage in
    let had = c.take_encoded-encoded.ensures.bytes mid (c.start.ensures.bytes s before sound memory.bytes) in
    let carried = c.carry_out-carried.result in
    let found = c.in_ok-database.database in
    let ends : Ends carried.outcome (text_on found (effect c.args.command)) (g.P.Storage.contents s c.args.self.now.storage) (g.P.Storage.contents s c.carry_out-carried.new.storage) carried.end =
    rw (c.start.ensures.stays s before sound) at (c.carry_out-carried.ensures.ends s honest (c.start.ensures.sound s before sound) had) in
    (Ok found, c.in_ok-database.ensures.start s before sound memory.read, (carried.outcome, c.carry_out-carried.ensures.done, ends))

pub returns-clause-on : goal.returns-clause-on
returns-clause-on g c d same s honest sound memory =
    let before = c.carry_out-carried.ensures.falls s honest in
    let mid = g.P.Storage.contents s c.start.new.self.storage in
    let had = c.take_encoded-encoded.ensures.bytes mid (c.start.ensures.bytes s before sound memory.bytes) in
    let carried = c.carry_out-carried.result in
    let command = c.args.command in
    let out_old = g.W.Write.contents c.args.out.now in
    let out_new = g.W.Write.contents c.carry_out-carried.new.out in
    let old = g.P.Storage.contents s c.args.self.now.storage in
    let new = g.P.Storage.contents s c.carry_out-carried.new.storage in
    let ends : Ends carried.outcome (text_on c.in_ok-database.database (effect command)) old new carried.end =
    rw (c.start.ensures.stays s before sound) at (c.carry_out-carried.ensures.ends s honest (c.start.ensures.sound s before sound) had) in
    let begun = c.in_ok-database.ensures.same d same in
    let runs : Executes (started (effect command) d) command out_old out_new carried.outcome × Ends carried.outcome (text_on (started (effect command) d) (effect command)) old new carried.end =
    subst (λ (k : Option Stored). Executes k command out_old out_new carried.outcome × Ends carried.outcome (text_on k (effect command)) old new carried.end)
    (ok_same c.in_ok-database.database (started (effect command) d) begun.0) (c.carry_out-carried.ensures.done, ends) in
    let other : c.take-other.result ≡ beside (effect command) d = c.take-other.ensures.value ∙ begun.1 in
    (carried.outcome, runs.0, runs.1, rw (sym other) c.database_kept.ensures)

pub invariant_of-self-2 : goal.invariant_of-self-2
invariant_of-self-2 g c =
    let carried = c.carry_out-carried.result in
    record {
      encoded_is = both_kept c.take-other.result carried.outcome carried.end carried.encoding c.encoded_kept.result c.database_kept.result
          c.carry_out-carried.ensures.encoded c.encoded_kept.ensures c.database_kept.ensures;
    }

pub returns-clause-safe : goal.returns-clause-safe
returns-clause-safe g c s d q honest sound memory holds safe =
    let before = c.carry_out-carried.ensures.falls s honest in
    let had = c.take_encoded-encoded.ensures.bytes (g.P.Storage.contents s c.start.new.self.storage) (c.start.ensures.bytes s before sound memory.bytes) in
    let found = c.in_ok-database.database in
    let From : List ℕ → Option Held → Type 0 = λ b old. RunsFrom c.args.command (Ok found) old (Some (Bytes b)) (g.W.Write.contents c.args.out.now) (g.W.Write.contents c.carry_out-carried.new.out) c.carry_out-carried.result.end in
    c.carry_out-carried.ensures.safe s d q honest (c.start.ensures.sound s before sound) had
    (λ b ran. holds b (Ok found, c.in_ok-database.ensures.start s before sound memory.read, subst (From b) (c.start.ensures.stays s before sound) ran))
    (c.start.ensures.safe s d q before safe)

pub returns-clause-stored : goal.returns-clause-stored
returns-clause-stored g c s d q t ok honest sound memory holds stays safe =
    let before = c.carry_out-carried.ensures.falls s honest in
    let had = c.take_encoded-encoded.ensures.bytes (g.P.Storage.contents s c.start.new.self.storage) (c.start.ensures.bytes s before sound memory.bytes) in
    let found = c.in_ok-database.database in
    let new = g.P.Storage.contents s c.carry_out-carried.new.storage in
    let kept = c.start.ensures.stays s before sound in
    let From : List ℕ → Option Held → Type 0 = λ b old. RunsFrom c.args.command (Ok found) old (Some (Bytes b)) (g.W.Write.contents c.args.out.now) (g.W.Write.contents c.carry_out-carried.new.out) c.carry_out-carried.result.end in
    c.carry_out-carried.ensures.stored s d q t ok honest (c.start.ensures.sound s before sound) had
    (λ b ran. holds b (Ok found, c.in_ok-database.ensures.start s before sound memory.read, subst (From b) kept ran))
    (λ same. c.start.ensures.safe s d t before (stays (subst (λ (old : Option Held). Stays old new) kept same)))
    (c.start.ensures.safe s d q before safe)
