use Rattle.rrd_disk.proofs.Common.{ap, Base, steps_as, any_enough, began_at}
use Rattle.rrd_disk.proofs.storage.FileStorage.put_kept.Goals as goal

pub base_of-requires : goal.base_of-requires
base_of-requires g c = any_enough c.file_laws.ensures c.args.bytes.now c.requires

pub returns-clause-does : goal.returns-clause-does
returns-clause-does g c = rw (← c.syncs-syncs.ensures) (
    steps_as _ _ _ _ (λ u v s now any agrees is. (began_at c.file_laws.ensures c.base_of.result c.args.bytes.now c.requires (ap (λ (b : Base). b.length) c.base_of.ensures) (ap (λ (b : Base). b.first) c.base_of.ensures), s now is.0 agrees is.1)) c.in_ok-kept.ensures.does)
