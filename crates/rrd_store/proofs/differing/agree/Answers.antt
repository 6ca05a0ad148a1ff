use Rattle.std.proofs.Common.{◌∙◌, sym}
use Rattle.std.specs.Cmp.Lexicographic.{same_text}
use Rattle.rrd_store.proofs.Compared.{same_block}
use Rattle.rrd_store.proofs.differing.agree.Goals as goal

pub returns-then-block-old : goal.returns-then-block-old
returns-then-block-old c same k from to =
    same_block c.args.old.now c.args.new.now c.args.block.start c.args.block.end k (same_text _ _ (sym same ∙ c.eq.ensures)) c.if-block-old.true.1 from to
