use Rattle.rrd_tool.proofs.Common.{◌≡◌, ◌∙◌, ◌++◌, [], sym, err_from_is_err_and, without_cr, none_empty, on_ok, one_part, one_whole}
use Rattle.rrd_tool.proofs.batch.take_line.Goals as goal

pub returns-then-is_empty-clause-told : goal.returns-then-is_empty-clause-told
returns-then-is_empty-clause-told g c unfinished h =
    let bytes = c.args.bytes.now in
    let none : unfinished ≡ [] = none_empty unfinished (sym (c.is_empty.ensures unfinished h) ∙ c.if-is_empty.true) in
    let held = rw none at h in
    rw (none, one_whole [] bytes c.requires.inner, one_part [] bytes c.requires.inner)
    (c.answer.ensures.told (without_cr bytes) c.text_of_line.ensures.text, on_ok c.answer.result held)

pub returns-in_err-answer-clause-told : goal.returns-in_err-answer-clause-told
returns-in_err-answer-clause-told g c unfinished h =
    let bytes = c.args.bytes.now in
    rw ((err_from_is_err_and c.from_residual.result c.from_residual.ensures.1).1, one_whole unfinished bytes c.requires.inner)
    (c.in_err-answer.ensures.told (without_cr (unfinished ++ bytes)) (c.whole_line.ensures.text (unfinished ++ bytes) (c.extend.ensures unfinished h)), tt)

pub returns-clause-told : goal.returns-clause-told
returns-clause-told g c unfinished h =
    let bytes = c.args.bytes.now in
    rw (one_whole unfinished bytes c.requires.inner, one_part unfinished bytes c.requires.inner)
    (c.in_ok-answer.ensures.told (without_cr (unfinished ++ bytes)) (c.whole_line.ensures.text (unfinished ++ bytes) (c.extend.ensures unfinished h)), c.clear.ensures)
