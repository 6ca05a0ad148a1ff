use Rattle.rrd_disk.proofs.Common.{◌≡◌, ◌∙◌, List, [], ap, sym, subst, Event, IsRun, StoresMaking, StoresRun, SurvivesMaking, SurvivesRun, run_from, run_makes, run_makes_stored, run_stored, run_survives, batch_run}
use Rattle.rrd_disk.proofs.runs.run_batch_at.Goals as goal

pub returns : goal.returns
returns g c =
    let was = c.new-storage.result in
    let is = c.run_file_batch-end.new.storage in
    let before : List Event = g.D.Disk.events was.bytes.disk in
    let after : List Event = g.D.Disk.events is.bytes.disk in
    let run = batch_run c.args.now c.args.numbered (g.R.Read.remaining c.args.reader.now) (g.R.Read.remaining c.run_file_batch-end.new.reader)
    (g.W.Write.contents c.args.out.now) (g.W.Write.contents c.run_file_batch-end.new.out) c.run_file_batch-end.result in
    let begun : before ≡ [] = ap g.D.Disk.events c.new-storage.ensures.disk ∙ c.requires in
    let ended : after ≡ g.D.Disk.events c.into_disk.result = sym (ap g.D.Disk.events c.into_disk.ensures) in
    let closed = c.new-storage.ensures.found in
    let synced = ap (λ p. p.settings.syncs) c.new-storage.ensures.place in
    let y0 = was.place.settings.syncs in
    let y1 = is.place.settings.syncs in
    record {
      run = subst (λ (events : List Event). IsRun events run) ended (run_from was.found is.found before after run begun closed c.run_file_batch-end.ensures.sound c.run_file_batch-end.ensures.run);
      power = λ ordered. subst (λ (events : List Event). SurvivesRun events run) ended (run_survives was.found is.found y0 y1 before after run begun closed (synced ∙ ordered) c.run_file_batch-end.ensures.safe c.file_laws.ensures);
      stored = λ ordered ok. subst (λ (events : List Event). StoresRun events run) ended
          (run_stored was.found is.found y0 y1 before after run begun closed (synced ∙ ordered) (λ s d q r. c.run_file_batch-end.ensures.stored s d q r ok) c.file_laws.ensures);
      making = λ ordered. subst (λ (events : List Event). SurvivesMaking events run) ended (run_makes was.found is.found y0 y1 before after run begun closed (synced ∙ ordered) c.run_file_batch-end.ensures.safe c.file_laws.ensures);
      made = λ ordered ok. subst (λ (events : List Event). StoresMaking events run) ended
          (run_makes_stored was.found is.found y0 y1 before after run begun closed (synced ∙ ordered) (λ s d q r. c.run_file_batch-end.ensures.stored s d q r ok) c.file_laws.ensures);
    }
