use Rattle.rrd_tool.proofs.Common.{◌≡◌, ◌≤◌, ◌-◌, ◌++◌, [], drop, length, words_after, words_of}
use Rattle.rrd_tool.proofs.lines.read_words.Given as goal

abbrev pub invariant-loop-length : goal.invariant-loop-length
invariant-loop-length l = (l.from ≤ length l.text) × (words_of l.text ≡ l.words ++ words_after [] (drop l.from l.text))

abbrev pub decreases-loop-length : goal.decreases-loop-length
decreases-loop-length l = length l.text - l.from
