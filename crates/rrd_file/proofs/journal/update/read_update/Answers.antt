use Rattle.rrd_file.proofs.Common.{◌++◌, ◌∷◌, [], List, append_assoc, map, subst, flat_map, err_from_is_err_and, outline_left, AnUpdate, OfTag, OfTime, BeforeDue, DueInEntry, archive_due, Comes}
use Rattle.rrd_file.proofs.journal.update.read_update.Goals as goal

pub returns-in_err-last-clause-closes : goal.returns-in_err-last-clause-closes
returns-in_err-last-clause-closes g c = λ bytes st.
    let p = err_from_is_err_and c.from_residual.result c.from_residual.ensures.1 in
    rw (p.1, p.2) (c.in_err-last.ensures.brings bytes (OfTag AnUpdate ∷ []) [] st)

pub returns-in_err-raws-clause-closes : goal.returns-in_err-raws-clause-closes
returns-in_err-raws-clause-closes g c = λ bytes st.
    let p = err_from_is_err_and c.from_residual-in_err-raws.result c.from_residual-in_err-raws.ensures.1 in
    let now = outline_left c.args.build.now in
    let last = c.in_ok-last.last in
    let firsts = map (BeforeDue last) now.sources in
    let others = flat_map (archive_due c.args.build.now.header.step now last) now.archives in
    let s1 = subst (λ (l : List DueInEntry). Comes bytes c.args.build.now (OfTag AnUpdate ∷ OfTime last ∷ []) l c.read_time.new.input) (append_assoc firsts others []) (c.in_ok-last.ensures.brings bytes (OfTag AnUpdate ∷ []) [] st) in
    rw (p.1, p.2) (c.in_err-raws.ensures.brings bytes (OfTag AnUpdate ∷ OfTime last ∷ []) (others ++ []) s1)

pub returns-in_err-archives-clause-closes : goal.returns-in_err-archives-clause-closes
returns-in_err-archives-clause-closes g c = λ bytes st.
    let p = err_from_is_err_and c.from_residual-in_err-archives.result c.from_residual-in_err-archives.ensures.1 in
    let now = outline_left c.args.build.now in
    let last = c.in_ok-last.last in
    let firsts = map (BeforeDue last) now.sources in
    let others = flat_map (archive_due c.args.build.now.header.step now last) now.archives in
    let s1 = subst (λ (l : List DueInEntry). Comes bytes c.args.build.now (OfTag AnUpdate ∷ OfTime last ∷ []) l c.read_time.new.input) (append_assoc firsts others []) (c.in_ok-last.ensures.brings bytes (OfTag AnUpdate ∷ []) [] st) in
    rw (p.1, p.2) (c.in_err-archives.ensures.brings bytes _ [] (c.in_ok-raws.ensures.brings bytes (OfTag AnUpdate ∷ OfTime last ∷ []) (others ++ []) s1))

pub returns-clause-closes : goal.returns-clause-closes
returns-clause-closes g c = λ bytes st.
    let now = outline_left c.args.build.now in
    let last = c.in_ok-last.last in
    let firsts = map (BeforeDue last) now.sources in
    let others = flat_map (archive_due c.args.build.now.header.step now last) now.archives in
    let s1 = subst (λ (l : List DueInEntry). Comes bytes c.args.build.now (OfTag AnUpdate ∷ OfTime last ∷ []) l c.read_time.new.input) (append_assoc firsts others []) (c.in_ok-last.ensures.brings bytes (OfTag AnUpdate ∷ []) [] st) in
    c.in_ok-archives.ensures.brings bytes _ [] (c.in_ok-raws.ensures.brings bytes (OfTag AnUpdate ∷ OfTime last ∷ []) (others ++ []) s1)
