use Rattle.rrd_change.proofs.Common.{◌≡◌, mix_words}
use Rattle.rrd_change.proofs.checksum.mix_bytes.Given as goal

abbrev pub invariant-loop-word : goal.invariant-loop-word
invariant-loop-word l = l.sum ≡ mix_words l.start l.bytes l.word-index
