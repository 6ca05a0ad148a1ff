use Rattle.rrd_file.proofs.Common.{take-replicate, Unknown, cell_bytes, signed_bytes, unknown_flat}
use Rattle.rrd_file.proofs.layout.unknown_bytes.Goals as goal

pub returns-clause-bytes : goal.returns-clause-bytes
unfolding signed_bytes
returns-clause-bytes c = cc (c.as_flattened.ensures.value, take-replicate c.args.count 64 (cell_bytes Unknown) c.requires, unknown_flat c.args.count)
