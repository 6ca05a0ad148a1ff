use Rattle.rrd_store.proofs.Common.{◌≡◌, ◌∷◌, map, take, string_bytes}
use Rattle.rrd_store.proofs.task.command_words.Given as goal

abbrev pub invariant-loop-word : goal.invariant-loop-word
invariant-loop-word l = l.words ≡ l.command ∷ map string_bytes (take l.word-index l.rest)
