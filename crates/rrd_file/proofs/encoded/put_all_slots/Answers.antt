use Rattle.rrd_file.proofs.Common.{◌≡◌, ◌∙◌, ◌++◌, ◌+◌, ◌-◌, ◌*◌, [], ◌∷◌, rules, arith, ap, drop, get_or, length, refl, subst, sym, take, All, drop-drop, get_or-drop, get_or-take, mul-le, Rra, HoldsSlots, IsBeside, def_of, same_def, small_def, ArePutBefore, archives_begin, archives_end, turn_of, add_span, beside_earlier, beside_part, some_is, there}
use Rattle.rrd_file.proofs.CellsHeld.{archive_bytes}
use Rattle.rrd_file.proofs.encoded.put_all_slots.Goals as goal

pub loop-archive-init : goal.loop-archive-init
loop-archive-init c = record {
  put = archives_begin c.args.cells.now c.args.database.now.content c.args.last c.requires.held;
  same = λ k beside. refl;
}

pub overflow_mul-count : goal.overflow_mul-count
overflow_mul-count c =
    let d = c.args.database.now.content in
    let small = small_def d c.loop-archive.archive c.archive.result c.database_is_valid.ensures.content_is (def_of d c.loop-archive.archive c.archive.result c.archive.ensures) in
    omega (arith, mul-le c.archive.result.rows c.sources.result 1000000 64 small.few_rows c.sources.ensures.few)

pub overflow_mul-end : goal.overflow_mul-end
overflow_mul-end c =
    let d = c.args.database.now.content in
    let small = small_def d c.loop-archive.archive c.archive.result c.database_is_valid.ensures.content_is (def_of d c.loop-archive.archive c.archive.result c.archive.ensures) in
    omega (arith, mul-le c.archive.result.rows c.sources.result 1000000 64 small.few_rows c.sources.ensures.few)

pub overflow_add-end : goal.overflow_add-end
overflow_add-end c =
    let d = c.args.database.now.content in
    let size = 16 * (c.archive.result.rows * c.sources.result) in
    let found = there d.archives c.loop-archive.archive (omega (arith, c.archives-archive-end.ensures.count, c.loop-archive-test.true)) in
    let a = found.0 in
    let same = same_def d c.loop-archive.archive c.archive.result a (def_of d c.loop-archive.archive c.archive.result c.archive.ensures) found.1 in
    let size_is : size ≡ 16 * (a.def.rows * length d.sources) = λ i. 16 * ((sym same i).rows * c.sources.ensures.count i) in
    let turn = turn_of c.rows_stand_in_slots.ensures.row d c.database_is_valid.ensures.content_is c.loop-archive.cells c.args.last c.loop-archive.at c.loop-archive.archive size a c.loop-archive.invariant.put found.1 size_is in
    omega (arith, turn.within, c.loop-archive.auto.cells)

pub slice_bounds-put_slots-end : goal.slice_bounds-put_slots-end
slice_bounds-put_slots-end c =
    let d = c.args.database.now.content in
    let size = 16 * (c.archive.result.rows * c.sources.result) in
    let found = there d.archives c.loop-archive.archive (omega (arith, c.archives-archive-end.ensures.count, c.loop-archive-test.true)) in
    let a = found.0 in
    let same = same_def d c.loop-archive.archive c.archive.result a (def_of d c.loop-archive.archive c.archive.result c.archive.ensures) found.1 in
    let size_is : size ≡ 16 * (a.def.rows * length d.sources) = λ i. 16 * ((sym same i).rows * c.sources.ensures.count i) in
    let turn = turn_of c.rows_stand_in_slots.ensures.row d c.database_is_valid.ensures.content_is c.loop-archive.cells c.args.last c.loop-archive.at c.loop-archive.archive size a c.loop-archive.invariant.put found.1 size_is in
    omega (arith, turn.within)

pub put_slots-requires-clause-held : goal.put_slots-requires-clause-held
put_slots-requires-clause-held c b e =
    let d = c.args.database.now.content in
    let at = c.loop-archive.at in
    let size = 16 * (c.archive.result.rows * c.sources.result) in
    let found = there d.archives c.loop-archive.archive (omega (arith, c.archives-archive-end.ensures.count, c.loop-archive-test.true)) in
    let a = found.0 in
    let same = same_def d c.loop-archive.archive c.archive.result a (def_of d c.loop-archive.archive c.archive.result c.archive.ensures) found.1 in
    let size_is : size ≡ 16 * (a.def.rows * length d.sources) = λ i. 16 * ((sym same i).rows * c.sources.ensures.count i) in
    let turn = turn_of c.rows_stand_in_slots.ensures.row d c.database_is_valid.ensures.content_is c.loop-archive.cells c.args.last at c.loop-archive.archive size a c.loop-archive.invariant.put found.1 size_is in
    let length_is : at + size - at ≡ size = omega arith in
    let one : a ≡ b = some_is a b (sym found.1 ∙ e) in
    subst (λ (x : Rra). HoldsSlots (take (at + size - at) (drop at c.loop-archive.cells)) d c.args.last x) one
    (subst (λ n. HoldsSlots (take n (drop at c.loop-archive.cells)) d c.args.last a) (sym length_is) turn.held)

pub loop-archive-preserved : goal.loop-archive-preserved
loop-archive-preserved c =
    let d = c.args.database.now.content in
    let at = c.loop-archive.at in
    let size = 16 * (c.archive.result.rows * c.sources.result) in
    let found = there d.archives c.loop-archive.archive (omega (arith, c.archives-archive-end.ensures.count, c.loop-archive-test.true)) in
    let a = found.0 in
    let same = same_def d c.loop-archive.archive c.archive.result a (def_of d c.loop-archive.archive c.archive.result c.archive.ensures) found.1 in
    let size_is : size ≡ 16 * (a.def.rows * length d.sources) = λ i. 16 * ((sym same i).rows * c.sources.ensures.count i) in
    let turn = turn_of c.rows_stand_in_slots.ensures.row d c.database_is_valid.ensures.content_is c.loop-archive.cells c.args.last at c.loop-archive.archive size a c.loop-archive.invariant.put found.1 size_is in
    let cells = c.loop-archive.cells in
    let new = c.put_slots.new.cells in
    let length_is : at + size - at ≡ size = omega arith in
    let new_is : new ≡ archive_bytes d.step d.last a = c.put_slots.ensures.put a found.1 in
    let put : take at cells ++ (new ++ drop (at + size - at) (drop at cells)) ≡ take at cells ++ (archive_bytes d.step d.last a ++ drop (at + size) cells) =
    (λ i. take at cells ++ (new_is i ++ drop (length_is i) (drop at cells))) ∙ ap (λ l. take at cells ++ (archive_bytes d.step d.last a ++ l)) (drop-drop size at cells) in
    let joined : take at cells ++ (new ++ drop (at + size - at) (drop at cells)) ≡ take at cells ++ (new ++ drop (at + size) cells) =
    ap (λ n. take at cells ++ (new ++ drop n (drop at cells))) length_is ∙ ap (λ l. take at cells ++ (new ++ l)) (drop-drop size at cells) in
    record {
      put = subst (λ l. ArePutBefore l d c.args.last (at + size) (c.loop-archive.archive + 1)) (sym put) turn.then;
      same = λ k beside.
          let before = c.args.before in
          let pushed_newer : c.push.new.self.items ≡ c.loop-archive.changed.items ++ c.later_by.result ∷ [] = search rules in
          let pushed_older : c.push-in-loop-archive.new.self.items ≡ c.push.new.self.items ++ c.later_by-in-loop-archive.result ∷ [] = search rules in
          let both = add_span (IsBeside (before + k)) c.push.new.self.items c.later_by-in-loop-archive.result (subst (All (IsBeside (before + k))) pushed_older beside) in
          let one = add_span (IsBeside (before + k)) c.loop-archive.changed.items c.later_by.result (subst (All (IsBeside (before + k))) pushed_newer both.0) in
          ap (λ l. get_or l k 0) joined
          ∙ beside_part at size cells new k turn.within (omega (arith, length_is, c.put_slots.auto.cells))
          (λ high inside. c.put_slots.ensures.same (k - at) (beside_earlier k at before c.put_slots.result.0 high (subst (IsBeside (before + k)) c.later_by.ensures one.1)) (beside_earlier k at before c.put_slots.result.1 high (subst (IsBeside (before + k)) c.later_by-in-loop-archive.ensures both.1))
          ∙ get_or-take (at + size - at) (drop at cells) (k - at) 0 (omega arith) ∙ get_or-drop at cells (k - at) 0 ∙ ap (λ n. get_or cells n 0) {x = at + (k - at)} {y = k} (omega arith))
          ∙ c.loop-archive.invariant.same k one.0;
    }

pub returns-clause-put : goal.returns-clause-put
returns-clause-put c =
    archives_end c.rows_stand_in_slots.ensures.row c.args.database.now.content c.database_is_valid.ensures.content_is c.loop-archive.cells c.args.last c.loop-archive.at c.loop-archive.archive (omega (arith, c.archives-archive-end.ensures.count, c.loop-archive-test.false)) c.loop-archive.invariant.put
