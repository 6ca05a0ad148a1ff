use Rattle.rrd_store.proofs.Common.{Option, Some, subst, RunsLines, Bytes, Held, Stays}
use Rattle.rrd_store.specs.Sessions.{HasBytes}
use Rattle.rrd_store.proofs.stored_batch.run_file_batch.Goals as goal

pub returns : goal.returns
returns g c =
    let found = c.in_ok-database.field-0.database in
    let load = c.load_to_update.ensures in
    let ran = c.run_on-end.ensures in
    let new : Option Held → Option Held = λ s. g.P.Storage.contents s c.run_on-end.new.storage in
    let Lines : Option Held → Option Held → Type 0 = λ last old. RunsLines c.args.now c.args.numbered found old last (g.R.Read.remaining c.args.reader.now) (g.R.Read.remaining c.run_on-end.new.reader)
    (g.W.Write.contents c.args.out.now) (g.W.Write.contents c.run_on-end.new.out) c.run_on-end.result.0 in
    let has : (s : Option Held) → g.P.Storage.is_honest s c.run_on-end.new.storage → g.P.Storage.is_sound s c.args.storage.now → HasBytes (g.P.Storage.contents s c.load_to_update.new.self) c.take_encoded-before.result =
    λ s honest sound. c.take_encoded-before.ensures.bytes (g.P.Storage.contents s c.load_to_update.new.self) (c.in_ok-database.ensures.bytes s (ran.falls s honest) sound) in
    record {
      falls = λ s honest. load.falls s (ran.falls s honest);
      sound = λ s honest sound. ran.sound s honest (load.sound s (ran.falls s honest) sound) (has s honest sound);
      safe = λ s d q honest sound holds safe.
          let loaded = ran.falls s honest in
          ran.safe s d q honest (load.sound s loaded sound) (has s honest sound)
          (λ b runs. holds b (found, c.in_ok-database.ensures.found s loaded sound, subst (Lines (Some (Bytes b))) (load.stays s loaded sound) runs)) (load.safe s d q loaded safe);
      stored = λ s d q r ok honest sound holds stays safe.
          let loaded = ran.falls s honest in
          ran.stored s d q r ok honest (load.sound s loaded sound) (has s honest sound)
          (λ b runs. holds b (found, c.in_ok-database.ensures.found s loaded sound, subst (Lines (Some (Bytes b))) (load.stays s loaded sound) runs))
          (λ same. load.safe s d r loaded (stays (subst (λ (old : Option Held). Stays old (new s)) (load.stays s loaded sound) same))) (load.safe s d q loaded safe);
      run = λ s honest sound.
          let loaded = ran.falls s honest in
          (found, c.in_ok-database.ensures.found s loaded sound, subst (Lines (new s)) (load.stays s loaded sound) (ran.run s honest (load.sound s loaded sound) (has s honest sound)).0);
    }
