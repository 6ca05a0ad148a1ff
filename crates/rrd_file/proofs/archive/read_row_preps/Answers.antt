use Rattle.rrd_file.proofs.Common.{◌≡◌, ◌∙◌, ◌+◌, ◌-◌, ◌/◌, ◌%◌, ◌<◌, ◌++◌, ◌∷◌, [], List, sym, ap, map-append, length, map, replicate, subst, rules, err_from_is_err_and, Consolidating, AllOf, AreParts, parts_in, outline_left, OfPrep, Piece, DueInEntry, RowPrepDue, Comes, all_more, more_preps, one_less, parts_more}
use Rattle.rrd_file.proofs.archive.read_row_preps.Goals as goal

pub returns-in_err-prep-clause-brings : goal.returns-in_err-prep-clause-brings
returns-in_err-prep-clause-brings g c = λ bytes pieces later st.
    let p = err_from_is_err_and c.from_residual-in_err-prep.result c.from_residual-in_err-prep.ensures.1 in
    let wide = length (outline_left c.args.build.now).sources in
    let i = c.loop.counter in
    let more : i < wide = search rules in
    rw (p.1, p.2) (c.in_err-prep.ensures.brings bytes (pieces ++ map OfPrep (parts_in c.loop.preps.items)) (replicate (wide - (i + 1)) (RowPrepDue c.args.last c.args.def.now) ++ later)
    (subst (λ (l : List DueInEntry). Comes bytes c.args.build.now (pieces ++ map OfPrep (parts_in c.loop.preps.items)) l c.loop.input) (one_less (RowPrepDue c.args.last c.args.def.now) wide i later more) (c.loop.invariant.2 bytes pieces later st)))

pub loop-preserved : goal.loop-preserved
loop-preserved g c =
    let wide = length (outline_left c.args.build.now).sources in
    let i = c.loop.counter in
    let more : i < wide = search rules in
    let preps = c.loop.preps.items in
    let prep = c.in_ok-prep.prep in
    let def = c.args.def.now in
    let passed = c.args.last / c.args.build.now.header.step % def.steps in
    let items : c.push.new.self.items ≡ preps ++ prep ∷ [] = search rules in (
      subst (λ (l : List Consolidating). AreParts def.function (i + 1) passed (parts_in l)) (sym items) (subst (AreParts def.function (i + 1) passed) (sym (map-append (λ (p : Consolidating). p.part) preps (prep ∷ []))) (parts_more def.function i passed (parts_in preps) prep.part c.loop.invariant.0 c.in_ok-prep.ensures.checked)),
      subst (AllOf c.args.def.now.function) (sym items) (all_more c.args.def.now.function preps prep c.loop.invariant.1 c.in_ok-prep.ensures.function),
      λ bytes pieces later st.
          subst (λ (l : List Piece). Comes bytes c.args.build.now l (replicate (wide - (i + 1)) (RowPrepDue c.args.last c.args.def.now) ++ later) c.read_row_prep.new.input) (more_preps pieces preps prep ∙ ap (λ (l : List Consolidating). pieces ++ map OfPrep (parts_in l)) (sym items))
          (c.in_ok-prep.ensures.brings bytes (pieces ++ map OfPrep (parts_in preps)) (replicate (wide - (i + 1)) (RowPrepDue c.args.last c.args.def.now) ++ later)
          (subst (λ (l : List DueInEntry). Comes bytes c.args.build.now (pieces ++ map OfPrep (parts_in preps)) l c.loop.input) (one_less (RowPrepDue c.args.last c.args.def.now) wide i later more) (c.loop.invariant.2 bytes pieces later st))),
    )
