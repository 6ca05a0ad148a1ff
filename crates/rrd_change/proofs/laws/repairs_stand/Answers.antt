use Rattle.rrd_change.proofs.Common.{Whole, does_as, all_stand, broken_stand, rest_stands, stands, alone_found, left_held, left_one, left_told}
use Rattle.rrd_change.proofs.laws.repairs_stand.Goals as goal

pub returns : goal.returns
returns g c =
    let mark = c.args.found.now.mark in
    record {
      alone = does_as _ _ _ _ c.repair.result _ _ (λ x u v s end_of now whole is marked. rest_stands end_of now v whole (s Whole now now is (alone_found now mark u marked)))
          (λ u v s end_of now whole is marked. all_stand end_of now v whole (left_one now v (s Whole now now is (alone_found now mark u marked)))) c.repair.ensures;
      left = does_as _ _ _ _ c.repair.result _ _ (λ x u v s end_of end other now whole is found. rest_stands end_of now v whole (s end other now is found))
          (λ u v s end_of end other now was whole is found.
          let left = s end other now is found in
          (stands end_of now v.held whole (left_held end other now v left), broken_stand end_of other now v was whole (left_told end other now v left))) c.repair.ensures;
    }
