use Rattle.std.proofs.Common.{◌∙◌, ap, refl, sym}
use Rattle.std.specs.Option.{option_copied}
use Rattle.rrd_store.specs.Batch.{HoldsOfLeft, RunsLines}
use Rattle.rrd_store.specs.Storages.{Leaves}
use Rattle.rrd_store.proofs.Encodings.{before_lines, written_are}
use Rattle.rrd_store.specs.declared.stored_batch.FileBatchEnd.{FileBatchEnd}
use Rattle.rrd_store.proofs.Left.{left_by}
use Rattle.rrd_store.proofs.Safe.{left_holds, none_left, ok_of}
use Rattle.rrd_store.proofs.stored_batch.run_on.Goals as goal

pub store_allowed-stored-requires-clause-before : goal.store_allowed-stored-requires-clause-before
store_allowed-stored-requires-clause-before g c =
    rw c.as_ref.ensures.value
    (before_lines c.args.before c.run_batch-end.result.changed_by c.args.database c.run_batch-end.result.database c.requires.of c.run_batch-end.ensures.changed)

pub returns-clause-run : goal.returns-clause-run
returns-clause-run g c s honest sound has =
    let old = g.P.Storage.contents s c.args.storage.now in
    let new = g.P.Storage.contents s c.store_allowed-stored.new.storage in
    let left : Leaves c.run_batch-end.result.database old new c.store_allowed-stored.result = rw c.as_ref.ensures.value at (c.store_allowed-stored.ensures.left s honest sound has) in (
      record {
        last = c.run_batch-end.result.database;
        runs = c.run_batch-end.ensures.run;
        left = left_by c.run_batch-end.result.database old new c.store_allowed-stored.result c.split-unstored.result.0 c.split-unstored.ensures.fault left;
      },
      c.database_kept-database.ensures.kept,
    )

pub returns-clause-encoded : goal.returns-clause-encoded
returns-clause-encoded g c =
    written_are c.store_allowed-stored.result c.split-unstored.result.0 c.split-unstored.result.1 c.run_batch-end.result.database c.database_kept-database.result c.split-unstored.ensures.fault c.split-unstored.ensures.ok c.split-unstored.ensures.err
    (rw c.as_ref.ensures.value at c.store_allowed-stored.ensures.encoded) c.database_kept-database.ensures.kept

-- if the database that the lines left is read whole, the run is one of the definitions
pub returns-clause-safe : goal.returns-clause-safe
returns-clause-safe g c s d q honest sound has holds safe =
    let old = g.P.Storage.contents s c.args.storage.now in
    let new = g.P.Storage.contents s c.store_allowed-stored.new.storage in
    let last = c.run_batch-end.result.database in
    let left : Leaves last old new c.store_allowed-stored.result = rw c.as_ref.ensures.value at (c.store_allowed-stored.ensures.left s honest sound has) in
    let end : FileBatchEnd = record { refused = c.run_batch-end.result.refused; lines = c.run_batch-end.result.lines; stream = c.run_batch-end.result.stream; unstored = c.split-unstored.result.0 } in
    let lines : RunsLines c.args.now c.args.numbered c.args.database old new (g.R.Read.remaining c.args.reader.now) (g.R.Read.remaining c.run_batch-end.new.reader) (g.W.Write.contents c.args.out.now) (g.W.Write.contents c.run_batch-end.new.out) end = record {
      last = last;
      runs = c.run_batch-end.ensures.run;
      left = left_by last old new c.store_allowed-stored.result c.split-unstored.result.0 c.split-unstored.ensures.fault left;
    } in
    let change : HoldsOfLeft q last = left_holds c.args.now c.args.numbered c.args.database last old new (g.R.Read.remaining c.args.reader.now) (g.R.Read.remaining c.run_batch-end.new.reader) (g.W.Write.contents c.args.out.now) (g.W.Write.contents c.run_batch-end.new.out) end q lines refl holds in
    c.store_allowed-stored.ensures.safe s d q honest has (rw c.as_ref.ensures.value change) safe

pub returns-clause-stored : goal.returns-clause-stored
returns-clause-stored g c s d q r ok honest sound has holds stays safe =
    let old = g.P.Storage.contents s c.args.storage.now in
    let new = g.P.Storage.contents s c.store_allowed-stored.new.storage in
    let last = c.run_batch-end.result.database in
    let left : Leaves last old new c.store_allowed-stored.result = rw c.as_ref.ensures.value at (c.store_allowed-stored.ensures.left s honest sound has) in
    let end : FileBatchEnd = record { refused = c.run_batch-end.result.refused; lines = c.run_batch-end.result.lines; stream = c.run_batch-end.result.stream; unstored = c.split-unstored.result.0 } in
    let lines : RunsLines c.args.now c.args.numbered c.args.database old new (g.R.Read.remaining c.args.reader.now) (g.R.Read.remaining c.run_batch-end.new.reader) (g.W.Write.contents c.args.out.now) (g.W.Write.contents c.run_batch-end.new.out) end = record {
      last = last;
      runs = c.run_batch-end.ensures.run;
      left = left_by last old new c.store_allowed-stored.result c.split-unstored.result.0 c.split-unstored.ensures.fault left;
    } in
    let change : HoldsOfLeft r last = left_holds c.args.now c.args.numbered c.args.database last old new (g.R.Read.remaining c.args.reader.now) (g.R.Read.remaining c.run_batch-end.new.reader) (g.W.Write.contents c.args.out.now) (g.W.Write.contents c.run_batch-end.new.out) end r lines refl holds in
    let stored = ok_of c.store_allowed-stored.result (sym c.split-unstored.ensures.fault ∙ ok) in
    c.store_allowed-stored.ensures.stored s d q r stored honest has (rw c.as_ref.ensures.value change)
    (λ none. stays (none_left last old new c.store_allowed-stored.result stored (sym c.as_ref.ensures.value ∙ ap option_copied none) left)) safe
