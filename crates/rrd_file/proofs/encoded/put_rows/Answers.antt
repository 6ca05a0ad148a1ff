use Rattle.rrd_file.proofs.Common.{◌≡◌, ◌∙◌, ◌++◌, ◌+◌, ◌-◌, ◌*◌, ◌≤◌, arith, ap, drop, length, refl, take, drop-drop, mul-le, row_bytes, cells_bytes, cells_of_rows, many_cells, put_begins, put_goes_on, put_within, before_part}
use Rattle.rrd_file.proofs.encoded.put_rows.Goals as goal

pub loop-index-init : goal.loop-index-init
loop-index-init g c = grind (arith, put_begins c.args.into.now (g.T.Table.table c.args.rows.now) c.args.sources c.args.from c.args.to c.args.kept c.requires.order c.requires.there c.requires.wide c.min-index.result (omega (arith, c.min-index.ensures, c.max.ensures)) c.requires.held)

pub slice_bounds-put_cells-end : goal.slice_bounds-put_cells-end
slice_bounds-put_cells-end g c =
    let rows = g.T.Table.table c.args.rows.now in
    let index = c.loop-index.index in
    let count = c.together-count.result.0 in
    let run : index + count ≤ c.args.to = omega (arith, c.together-count.ensures.few, c.loop-index-test.true) in
    let many = many_cells rows c.args.sources index count c.together-count.result.1.now c.together-count.ensures.cells (omega (arith, run, c.requires.there)) c.requires.wide in
    let within = put_within c.loop-index.into rows c.args.sources c.args.from c.args.to c.args.kept c.requires.order c.requires.there c.requires.wide index count run c.loop-index.invariant.put in
    omega (arith, many, within)

pub loop-index-preserved : goal.loop-index-preserved
loop-index-preserved g c =
    let rows = g.T.Table.table c.args.rows.now in
    let index = c.loop-index.index in
    let count = c.together-count.result.0 in
    let cells = c.together-count.result.1.now in
    let at = 16 * ((index - c.args.from) * c.args.sources) in
    let size = 16 * length cells in
    let run : index + count ≤ c.args.to = omega (arith, c.together-count.ensures.few, c.loop-index-test.true) in
    let many = many_cells rows c.args.sources index count cells c.together-count.ensures.cells (omega (arith, run, c.requires.there)) c.requires.wide in
    let length_is : at + size - at ≡ size = omega arith in
    let bytes : c.put_cells.new.into ≡ row_bytes (take count (drop index rows)) =
    c.put_cells.ensures ∙ ap cells_bytes c.together-count.ensures.cells ∙ cells_of_rows (take count (drop index rows)) in
    let put : take at c.loop-index.into ++ (c.put_cells.new.into ++ drop (at + size - at) (drop at c.loop-index.into)) ≡ take at c.loop-index.into ++ (c.put_cells.new.into ++ drop (at + size) c.loop-index.into) =
    ap (λ k. take at c.loop-index.into ++ (c.put_cells.new.into ++ drop k (drop at c.loop-index.into))) length_is ∙ ap (λ l. take at c.loop-index.into ++ (c.put_cells.new.into ++ l)) (drop-drop size at c.loop-index.into) in
    let within = put_within c.loop-index.into rows c.args.sources c.args.from c.args.to c.args.kept c.requires.order c.requires.there c.requires.wide index count run c.loop-index.invariant.put in
    let further : (index - c.args.from) * c.args.sources ≤ (index + count - c.args.from) * c.args.sources =
    mul-le (index - c.args.from) c.args.sources (index + count - c.args.from) c.args.sources (omega arith) (omega arith) in
    record {
      put = put_goes_on c.loop-index.into rows c.args.sources c.args.from c.args.to c.args.kept c.requires.order c.requires.there c.requires.wide index count at size c.put_cells.new.into _ run refl (ap (λ k. 16 * k) many) bytes put c.loop-index.invariant.put;
      same = λ k low.
          before_part at c.loop-index.into (c.put_cells.new.into ++ drop (at + size - at) (drop at c.loop-index.into)) k (omega (arith, c.loop-index.invariant.later)) (omega (arith, within))
          ∙ c.loop-index.invariant.same k low;
      later = omega (arith, c.loop-index.invariant.later, further);
    }

pub returns-clause-within : goal.returns-clause-within
returns-clause-within g c =
    let index = c.loop-index.index in
    let within = put_within c.loop-index.into (g.T.Table.table c.args.rows.now) c.args.sources c.args.from c.args.to c.args.kept c.requires.order c.requires.there c.requires.wide index 0 (omega (arith, c.loop-index.invariant.put.high)) c.loop-index.invariant.put in
    omega (arith, within, c.loop-index.invariant.later)
