use Rattle.rrd_file.proofs.Common.{◌∷◌, [], subst, err_from_is_err_and, OfTag, tag_said, first_due, Comes}
use Rattle.rrd_file.specs.declared.layout.Tag.{Tag}
use Rattle.rrd_file.proofs.journal.read_untaken.Goals as goal

pub returns-in_err-read_tag-clause-closes : goal.returns-in_err-read_tag-clause-closes
returns-in_err-read_tag-clause-closes g c = λ bytes st.
    let p = err_from_is_err_and c.from_residual.result c.from_residual.ensures.1 in
    rw (p.1, p.2) (c.in_err-read_tag.ensures bytes st)

pub returns-in-AnUpdate-clause-closes : goal.returns-in-AnUpdate-clause-closes
returns-in-AnUpdate-clause-closes g c = λ bytes st.
    c.read_update.ensures.closes bytes (subst (λ (t : Tag). Comes bytes c.args.build.now (OfTag (tag_said t) ∷ []) (first_due (tag_said t)) c.read_tag.new.input) c.in-AnUpdate.is (c.in_ok-read_tag.ensures bytes st))

pub returns-in-ATune-clause-closes : goal.returns-in-ATune-clause-closes
returns-in-ATune-clause-closes g c = λ bytes st.
    c.read_tune.ensures.closes bytes (subst (λ (t : Tag). Comes bytes c.args.build.now (OfTag (tag_said t) ∷ []) (first_due (tag_said t)) c.read_tag.new.input) c.in-ATune.is (c.in_ok-read_tag.ensures bytes st))

pub returns-in-AResize-clause-closes : goal.returns-in-AResize-clause-closes
returns-in-AResize-clause-closes g c = λ bytes st.
    c.read_resize.ensures.closes bytes (subst (λ (t : Tag). Comes bytes c.args.build.now (OfTag (tag_said t) ∷ []) (first_due (tag_said t)) c.read_tag.new.input) c.in-AResize.is (c.in_ok-read_tag.ensures bytes st))

pub returns-in-AnAddition-clause-closes : goal.returns-in-AnAddition-clause-closes
returns-in-AnAddition-clause-closes g c = λ bytes st.
    subst (λ (t : Tag). Comes bytes c.args.build.now (OfTag (tag_said t) ∷ []) (first_due (tag_said t)) c.read_tag.new.input) c.in-AnAddition.is (c.in_ok-read_tag.ensures bytes st)

pub returns-in-ARemoval-clause-closes : goal.returns-in-ARemoval-clause-closes
returns-in-ARemoval-clause-closes g c = λ bytes st.
    c.read_removed.ensures.closes bytes (subst (λ (t : Tag). Comes bytes c.args.build.now (OfTag (tag_said t) ∷ []) (first_due (tag_said t)) c.read_tag.new.input) c.in-ARemoval.is (c.in_ok-read_tag.ensures bytes st))
