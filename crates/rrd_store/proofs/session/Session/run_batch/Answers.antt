use Rattle.std.proofs.Common.{◌≡◌, ℕ, List, Option, Some, subst}
use Rattle.rrd_spec.specs.Journal.Survivors.{Stored}
use Rattle.rrd_spec.specs.Limits.{newest}
use Rattle.rrd_store.specs.Sessions.{IsLinesOn}
use Rattle.rrd_store.specs.Batch.{RunsLines}
use Rattle.rrd_store.specs.Storages.{Bytes, Held, Stays}
use Rattle.rrd_store.proofs.Sessions.{lines_read, ok_same}
use Rattle.rrd_store.proofs.session.Session.run_batch.Goals as goal

pub returns-clause-memory : goal.returns-clause-memory
returns-clause-memory g c s honest sound memory =
    let loaded = c.run_on-end.ensures.falls s honest in
    let mid = c.take.ensures.sound s loaded sound in
    let has = c.take_encoded-before.ensures.bytes (g.P.Storage.contents s c.take.new.self.storage) (c.take.ensures.bytes s loaded sound memory.bytes) in
    let lines = c.run_on-end.ensures.run s honest mid has in
    let read_now = lines_read (g.P.Storage.contents s c.take.new.self.storage) (g.P.Storage.contents s c.run_on-end.new.storage) lines.0.last c.run_on-end.result.1 c.run_on-end.result.0.unstored
    (c.run_on-end.ensures.unknown s) lines.0.left lines.1 c.run_on-end.ensures.valid (λ d. c.layout_is_file.ensures.read newest d) in
    record { read = read_now; bytes = c.run_on-end.ensures.bytes s honest mid has }

pub returns-in_err-database-clause-memory : goal.returns-in_err-database-clause-memory
returns-in_err-database-clause-memory g c s honest sound memory =
    record { read = rw c.take.ensures.taken tt; bytes = c.take.ensures.bytes s honest sound memory.bytes }

pub returns-clause-on : goal.returns-clause-on
returns-clause-on g c d same s honest sound memory =
    let loaded = c.run_on-end.ensures.falls s honest in
    let mid = c.take.ensures.sound s loaded sound in
    let has = c.take_encoded-before.ensures.bytes (g.P.Storage.contents s c.take.new.self.storage) (c.take.ensures.bytes s loaded sound memory.bytes) in
    let taken : c.in_ok-database.database ≡ Some d = ok_same c.in_ok-database.database (Some d) (c.in_ok-database.ensures.same d same) in
    let new = g.P.Storage.contents s c.run_on-end.new.storage in
    let on : (found : Option Stored) (old : Option Held) → Type 0 = λ found old. IsLinesOn c.args.now c.args.numbered found c.run_on-end.result.1 old new (g.R.Read.remaining c.args.reader.now) (g.R.Read.remaining c.run_on-end.new.reader) (g.W.Write.contents c.args.out.now) (g.W.Write.contents c.run_on-end.new.out) c.run_on-end.result.0 in
    subst (λ (old : Option Held). on (Some d) old) (c.take.ensures.stays s loaded sound)
    (subst (λ (found : Option Stored). on found (g.P.Storage.contents s c.take.new.self.storage)) taken (c.run_on-end.ensures.run s honest mid has))

pub returns-clause-safe : goal.returns-clause-safe
returns-clause-safe g c s d q honest sound memory holds safe =
    let loaded = c.run_on-end.ensures.falls s honest in
    let mid = c.take.ensures.sound s loaded sound in
    let has = c.take_encoded-before.ensures.bytes (g.P.Storage.contents s c.take.new.self.storage) (c.take.ensures.bytes s loaded sound memory.bytes) in
    let whole : (b : List ℕ) → Option Held → Type 0 = λ b old. RunsLines c.args.now c.args.numbered c.in_ok-database.database old (Some (Bytes b)) (g.R.Read.remaining c.args.reader.now) (g.R.Read.remaining c.run_on-end.new.reader) (g.W.Write.contents c.args.out.now) (g.W.Write.contents c.run_on-end.new.out) c.run_on-end.result.0 in
    c.run_on-end.ensures.safe s d q honest mid has
    (λ b runs. holds b (c.in_ok-database.database, c.in_ok-database.ensures.found s loaded sound memory.read, subst (whole b) (c.take.ensures.stays s loaded sound) runs))
    (c.take.ensures.safe s d q loaded safe)

pub returns-clause-stored : goal.returns-clause-stored
returns-clause-stored g c s d q t ok honest sound memory holds stays safe =
    let loaded = c.run_on-end.ensures.falls s honest in
    let mid = c.take.ensures.sound s loaded sound in
    let has = c.take_encoded-before.ensures.bytes (g.P.Storage.contents s c.take.new.self.storage) (c.take.ensures.bytes s loaded sound memory.bytes) in
    let whole : (b : List ℕ) → Option Held → Type 0 = λ b old. RunsLines c.args.now c.args.numbered c.in_ok-database.database old (Some (Bytes b)) (g.R.Read.remaining c.args.reader.now) (g.R.Read.remaining c.run_on-end.new.reader) (g.W.Write.contents c.args.out.now) (g.W.Write.contents c.run_on-end.new.out) c.run_on-end.result.0 in
    let new = g.P.Storage.contents s c.run_on-end.new.storage in
    c.run_on-end.ensures.stored s d q t ok honest mid has
    (λ b runs. holds b (c.in_ok-database.database, c.in_ok-database.ensures.found s loaded sound memory.read, subst (whole b) (c.take.ensures.stays s loaded sound) runs))
    (λ same. c.take.ensures.safe s d t loaded (stays (subst (λ (old : Option Held). Stays old new) (c.take.ensures.stays s loaded sound) same)))
    (c.take.ensures.safe s d q loaded safe)
