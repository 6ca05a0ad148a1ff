use Rattle.rrd_tool.proofs.Common.{◌≡◌, drop, named}
use Rattle.rrd_tool.proofs.fields.named.Given as goal

abbrev pub invariant-loop-item : goal.invariant-loop-item
invariant-loop-item g l = named g.T.Worded.word_of l.all l.text ≡ named g.T.Worded.word_of (drop l.item-index l.all) l.text
