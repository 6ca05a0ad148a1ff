use Rattle.rrd_store.proofs.Common.{newest, taken_file, taken_is}
use Rattle.rrd_store.proofs.encoding.take_encoded.Goals as goal

pub returns-in-Some-clause-encoded : goal.returns-in-Some-clause-encoded
returns-in-Some-clause-encoded c = taken_is c.args.encoded.now c.take.result c.args.database.now _ c.take.ensures.value c.in-Some.is c.requires

pub returns-in-Some-clause-file : goal.returns-in-Some-clause-file
returns-in-Some-clause-file c =
    taken_file c.args.encoded.now c.take.result c.args.database.now c.in-Some.database c.take.ensures.value c.in-Some.is c.requires
    (c.layout_is_file.ensures.read newest c.in-Some.database c.database_is_valid.ensures) c.encoded_is_layout.ensures
