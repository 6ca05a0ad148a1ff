use Rattle.rrd_store.proofs.Common.{Option, Some, Ok, Err, refl, subst, err_from_is_err_and, Bytes, Ends, Held, RunsFrom, Stays, effect, keeps_same, stays_same, text_on}
use Rattle.rrd_store.specs.Sessions.{HasBytes}
use Rattle.rrd_store.proofs.single.run_file_command.Goals as goal

pub returns-in_err-command-clause-run : goal.returns-in_err-command-clause-run
returns-in_err-command-clause-run g c s honest sound =
    let p = err_from_is_err_and c.from_residual.result c.from_residual.ensures.1 in
    let storage = stays_same (g.P.Storage.contents s c.args.storage.now) in
    let out = keeps_same (g.W.Write.contents c.args.out.now) in
    rw (p.1, p.2) (Err c.in_err-command.field-0.0, c.in_err-command.ensures, (refl, storage, out))

pub returns-in_err-database-clause-run : goal.returns-in_err-database-clause-run
returns-in_err-database-clause-run g c s honest sound =
    let p = err_from_is_err_and c.from_residual-in_err-database.result c.from_residual-in_err-database.ensures.1 in
    let old = g.P.Storage.contents s c.args.storage.now in
    let storage : Stays old (g.P.Storage.contents s c.start.new.storage) = rw (c.start.ensures.stays s honest sound) (stays_same old) in
    let out = keeps_same (g.W.Write.contents c.args.out.now) in
    rw (p.1, p.2) (Ok c.in_ok-command.command, c.in_ok-command.ensures, (Err c.in_err-database.field-0.0, c.in_err-database.ensures.fault s honest sound, (refl, storage, out)))

pub returns : goal.returns
returns g c =
    let command = c.in_ok-command.command in
    let found = c.in_ok-database.field-0.database in
    let begun = c.start.ensures in
    let carried = c.carry_out-carried.ensures in
    let done = c.carry_out-carried.result in
    let new : Option Held → Option Held = λ s. g.P.Storage.contents s c.carry_out-carried.new.storage in
    let From : Option Held → Option Held → Type 0 = λ last old. RunsFrom command (Ok found) old last (g.W.Write.contents c.args.out.now) (g.W.Write.contents c.carry_out-carried.new.out) done.end in
    let had : (s : Option Held) → g.P.Storage.is_honest s c.carry_out-carried.new.storage → g.P.Storage.is_sound s c.args.storage.now → HasBytes (g.P.Storage.contents s c.start.new.storage) c.take_encoded-before.result =
    λ s honest sound. c.take_encoded-before.ensures.bytes (g.P.Storage.contents s c.start.new.storage) (c.in_ok-database.ensures.bytes s (carried.falls s honest) sound) in
    record {
      falls = λ s honest. begun.falls s (carried.falls s honest);
      sound = λ s honest sound. carried.sound s honest (begun.sound s (carried.falls s honest) sound) (had s honest sound);
      safe = λ s d q honest sound holds safe.
          let started = carried.falls s honest in
          carried.safe s d q honest (begun.sound s started sound) (had s honest sound)
          (λ b ran. holds b (Ok command, c.in_ok-command.ensures, (Ok found, c.in_ok-database.ensures.start s started sound, subst (From (Some (Bytes b))) (begun.stays s started sound) ran)))
          (begun.safe s d q started safe);
      stored = λ s d q r ok honest sound holds stays safe.
          let started = carried.falls s honest in
          carried.stored s d q r ok honest (begun.sound s started sound) (had s honest sound)
          (λ b ran. holds b (Ok command, c.in_ok-command.ensures, (Ok found, c.in_ok-database.ensures.start s started sound, subst (From (Some (Bytes b))) (begun.stays s started sound) ran)))
          (λ same. begun.safe s d r started (stays (subst (λ (old : Option Held). Stays old (new s)) (begun.stays s started sound) same)))
          (begun.safe s d q started safe);
      run = λ s honest sound.
          let started = carried.falls s honest in
          let ends : Ends done.outcome (text_on found (effect command)) (g.P.Storage.contents s c.args.storage.now) (new s) done.end =
          subst (λ (old : Option Held). Ends done.outcome (text_on found (effect command)) old (new s) done.end) (begun.stays s started sound) (carried.ends s honest (begun.sound s started sound) (had s honest sound)) in
          (Ok command, c.in_ok-command.ensures, (Ok found, c.in_ok-database.ensures.start s started sound, (done.outcome, carried.done, ends)));
    }
