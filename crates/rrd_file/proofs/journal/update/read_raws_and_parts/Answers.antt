use Rattle.rrd_file.proofs.Common.{◌≡◌, ◌∙◌, ◌+◌, ◌%◌, ◌<◌, ◌≤◌, ◌++◌, ◌∷◌, [], List, sym, ap, arith, length-append, drop, length, map, subst, take, rules, err_from_is_err_and, Average, AreAccepted, AreParts, DsDef, outline_left, raws_and_parts, Piece, BeforeDue, DueInEntry, Comes, there, accepted_more, dropped_all, more_raws, next_source, parts_more}
use Rattle.rrd_file.proofs.journal.update.read_raws_and_parts.Goals as goal

pub returns-in_err-raw-clause-brings : goal.returns-in_err-raw-clause-brings
returns-in_err-raw-clause-brings g c = λ bytes pieces later st.
    let p = err_from_is_err_and c.from_residual-in_err-raw.result c.from_residual-in_err-raw.ensures.1 in
    let now = outline_left c.args.build.now in
    let i = c.loop-source.source in
    let more : i < length now.sources = search rules in
    let found = there now.sources i more in
    rw (p.1, p.2) (c.in_err-raw.ensures.brings bytes (pieces ++ raws_and_parts c.loop-source.raws.items c.loop-source.preps.items) (map (BeforeDue c.args.last) (drop (i + 1) now.sources) ++ later) found.0 found.1
    (subst (λ (l : List DueInEntry). Comes bytes c.args.build.now (pieces ++ raws_and_parts c.loop-source.raws.items c.loop-source.preps.items) l c.loop-source.input) (next_source (BeforeDue c.args.last) now.sources i found.0 later found.1) (c.loop-source.invariant.3 bytes pieces later st)))

pub loop-source-preserved : goal.loop-source-preserved
loop-source-preserved g c =
    let now = outline_left c.args.build.now in
    let i = c.loop-source.source in
    let more : i < length now.sources = search rules in
    let found = there now.sources i more in
    let raws = c.loop-source.raws.items in
    let preps = c.loop-source.preps.items in
    let raw = c.in_ok-raw.raw in
    let prep = c.in_ok-raw.prep in
    let passed = c.args.last % c.args.build.now.header.step in
    let first : c.push.new.self.items ≡ raws ++ raw ∷ [] = search rules in
    let second : c.push-in-loop-source.new.self.items ≡ preps ++ prep ∷ [] = search rules in (
      omega (arith, ap length first, length-append raws (raw ∷ []), c.loop-source.invariant.0),
      subst (AreAccepted (take (i + 1) now.sources)) (sym first) (accepted_more now.sources i found.0 raws raw found.1 c.loop-source.invariant.1 (c.in_ok-raw.ensures.raw found.0 found.1)),
      subst (AreParts Average (i + 1) passed) (sym second) (parts_more Average i passed preps prep c.loop-source.invariant.2 c.in_ok-raw.ensures.part),
      λ bytes pieces later st.
          subst (λ (l : List Piece). Comes bytes c.args.build.now l (map (BeforeDue c.args.last) (drop (i + 1) now.sources) ++ later) c.read_raw_and_part.new.input) (more_raws pieces raws preps raw prep (c.loop-source.invariant.0 ∙ sym c.loop-source.invariant.2.one_each) ∙ (λ k. pieces ++ raws_and_parts (sym first k) (sym second k)))
          (c.in_ok-raw.ensures.brings bytes (pieces ++ raws_and_parts raws preps) (map (BeforeDue c.args.last) (drop (i + 1) now.sources) ++ later) found.0 found.1
          (subst (λ (l : List DueInEntry). Comes bytes c.args.build.now (pieces ++ raws_and_parts raws preps) l c.loop-source.input) (next_source (BeforeDue c.args.last) now.sources i found.0 later found.1) (c.loop-source.invariant.3 bytes pieces later st))),
    )

pub returns-clause-brings : goal.returns-clause-brings
returns-clause-brings g c = λ bytes pieces later st.
    let now = outline_left c.args.build.now in
    let past : length now.sources ≤ c.loop-source.source = search rules in
    subst (λ (l : List DsDef). Comes bytes c.args.build.now (pieces ++ raws_and_parts c.loop-source.raws.items c.loop-source.preps.items) (map (BeforeDue c.args.last) l ++ later) c.loop-source.input) (dropped_all now.sources c.loop-source.source past) (c.loop-source.invariant.3 bytes pieces later st)
