use Rattle.rrd_file.proofs.Common.{◌∙◌, ap, sym, after_tag, tag_said}
use Rattle.rrd_file.proofs.end.after_tag.Goals as goal

pub returns-in-AnUpdate : goal.returns-in-AnUpdate
unfolding after_tag
returns-in-AnUpdate c = cc (c.after_all_saved.ensures, c.after.ensures, c.in-AnUpdate.is)

pub returns-in-ATune : goal.returns-in-ATune
unfolding after_tag
returns-in-ATune c = cc (c.after-in-ATune.ensures, c.two_in.ensures.number, c.in-ATune.is)

pub returns-in-AResize : goal.returns-in-AResize
unfolding after_tag
returns-in-AResize c = c.after_rows.ensures ∙ ap (λ t. after_tag c.args.sources c.args.archives (tag_said t) c.args.bytes.now) (sym c.in-AResize.is)

pub returns-in-AnAddition : goal.returns-in-AnAddition
unfolding after_tag
returns-in-AnAddition c = ap (λ t. after_tag c.args.sources c.args.archives (tag_said t) c.args.bytes.now) (sym c.in-AnAddition.is)

pub returns-in-ARemoval : goal.returns-in-ARemoval
unfolding after_tag
returns-in-ARemoval c = c.after_rows-in-ARemoval.ensures ∙ ap (λ t. after_tag c.args.sources c.args.archives (tag_said t) c.args.bytes.now) (sym c.in-ARemoval.is)
