use Rattle.rrd_file.proofs.Common.{◌≡◌, ◌*◌, ◌≤◌, ℕ, List, subst, arith, length, take, AllByRecursion, length-take-le, take-take, IsBounded, Cell, All-take, cells_bytes, first_bytes, rules}
use Rattle.rrd_file.proofs.cells.cells_before_unknown_end.Goals as goal

-- the first of the cells, and their bytes
fewer_spelled : (cells : List Cell) (n good : ℕ) (bytes : List ℕ) → n ≤ good → good ≤ length cells
    → take (16 * good) bytes ≡ cells_bytes (take good cells) → take (16 * n) bytes ≡ cells_bytes (take n cells)
fewer_spelled cells n good bytes few within is = cc (take-take (16 * n) (16 * good) bytes (omega (arith, few)), first_bytes (take good cells) n (take (16 * good) bytes) (omega (arith, few, length-take-le good cells within)) is, take-take n good cells few)

fewer_bounded : (cells : List Cell) (n good : ℕ) → n ≤ good → AllByRecursion IsBounded (take good cells) → AllByRecursion IsBounded (take n cells)
fewer_bounded cells n good few all = subst (AllByRecursion IsBounded) (take-take n good cells few) (All-take IsBounded n (take good cells) all)

pub returns : goal.returns
returns c =
    let good = c.cells_of-good.result in
    let cells = c.cells_of-good.new.cells in
    let within : good ≤ length cells = c.cells_of-good.ensures.few in
    record {
      few = omega (arith, c.without_unknown_end.ensures, c.cells_of-good.ensures.few, length-take-le good cells c.cells_of-good.ensures.few);
      spelled =
          let few : c.without_unknown_end.result ≤ good = omega (arith, c.without_unknown_end.ensures, length-take-le good cells within) in
          fewer_spelled cells c.without_unknown_end.result good c.args.bytes.now few within c.cells_of-good.ensures.spelled;
      bounded =
          let few : c.without_unknown_end.result ≤ good = omega (arith, c.without_unknown_end.ensures, length-take-le good cells c.cells_of-good.ensures.few) in
          fewer_bounded cells c.without_unknown_end.result good few c.cells_of-good.ensures.bounded;
      as_many = search rules;
    }
