use Rattle.rrd_change.proofs.Common.{◌≡◌, ◌-◌, ◌+◌, ◌++◌, ◌<◌, ℕ, List, [], ◌∷◌, length, drop, take, get_or, arith, subst, sym, ◌∙◌, ap, append_assoc, put_mid, length-take, length-drop, Piece, all_laid, spelled_pieces, HasPieces, spans_of, Span, laid_mid, left_head, left_more, next_piece}
use Rattle.rrd_change.proofs.decoding.lay_pieces.Goals as goal

pub overflow_add-end : goal.overflow_add-end
overflow_add-end c =
    let next = next_piece c.args.bytes.now c.loop.at c.args.count c.loop.counter _ c.number_at-start.result c.number_at.result c.loop-test.true c.number_at-start.ensures c.number_at.ensures c.number_at.type_inv c.loop.invariant.has in
    omega (arith, next.below)

pub overflow_add-at-in-loop : goal.overflow_add-at-in-loop
overflow_add-at-in-loop c =
    let next = next_piece c.args.bytes.now c.loop.at c.args.count c.loop.counter _ c.number_at-start.result c.number_at.result c.loop-test.true c.number_at-start.ensures c.number_at.ensures c.number_at.type_inv c.loop.invariant.has in
    omega (arith, next.within)

pub slice_bounds-copy_from_slice-end : goal.slice_bounds-copy_from_slice-end
slice_bounds-copy_from_slice-end c =
    let next = next_piece c.args.bytes.now c.loop.at c.args.count c.loop.counter _ c.number_at-start.result c.number_at.result c.loop-test.true c.number_at-start.ensures c.number_at.ensures c.number_at.type_inv c.loop.invariant.has in
    omega (arith, next.below)

pub overflow_add-at-in-loop-2 : goal.overflow_add-at-in-loop-2
overflow_add-at-in-loop-2 c =
    let next = next_piece c.args.bytes.now c.loop.at c.args.count c.loop.counter _ c.number_at-start.result c.number_at.result c.loop-test.true c.number_at-start.ensures c.number_at.ensures c.number_at.type_inv c.loop.invariant.has in
    omega (arith, next.within)

pub slice_bounds-copy_from_slice-end-in-loop : goal.slice_bounds-copy_from_slice-end-in-loop
slice_bounds-copy_from_slice-end-in-loop c =
    let next = next_piece c.args.bytes.now c.loop.at c.args.count c.loop.counter _ c.number_at-start.result c.number_at.result c.loop-test.true c.number_at-start.ensures c.number_at.ensures c.number_at.type_inv c.loop.invariant.has in
    omega (arith, next.within)

pub overflow_add-at-in-loop-3 : goal.overflow_add-at-in-loop-3
overflow_add-at-in-loop-3 c =
    let next = next_piece c.args.bytes.now c.loop.at c.args.count c.loop.counter _ c.number_at-start.result c.number_at.result c.loop-test.true c.number_at-start.ensures c.number_at.ensures c.number_at.type_inv c.loop.invariant.has in
    omega (arith, next.within)

pub loop-preserved : goal.loop-preserved
loop-preserved c =
    let bytes = c.args.bytes.now in
    let at = c.loop.at in
    let start : ℕ = c.number_at-start.result in
    let n : ℕ = c.number_at.result in
    let count = c.args.count in
    let i = c.loop.counter in
    let left : ℕ = count - (i + 1) in
    let size = length c.args.database.now in
    let low : i < count = c.loop-test.true in
    let next = next_piece bytes at count i size start n low c.number_at-start.ensures c.number_at.ensures c.number_at.type_inv c.loop.invariant.has in
    let body : List ℕ = take n (drop (at + 16) bytes) in
    let p : Piece = record { start = start; bytes = body } in
    let m : start + n - start ≡ n = omega arith in
    let here : at + (16 + n) ≡ at + 16 + (start + n - start) = omega arith in
    let split : spelled_pieces (count - i) (drop at bytes) ≡ p ∷ spelled_pieces left (drop (at + (16 + n)) bytes) = ap (λ k. spelled_pieces k (drop at bytes)) (left_more count i low) ∙ next.split in
    let body_size : length body ≡ n = omega (arith, length-take n (drop (at + 16) bytes), length-drop (at + 16) bytes, next.within) in
    let db = c.loop.database in
    let first = spelled_pieces left (drop (at + (16 + n)) bytes) in
    let width : at + 16 + (start + n - start) - (at + 16) ≡ n = omega arith in
    let copied : c.copy_from_slice.new.self ≡ body = c.copy_from_slice.ensures.after ∙ ap (λ k. take k (drop (at + 16) bytes)) width in
    let spans = c.loop.spans.items in
    let F : ℕ → List Span = λ e. record { start = start; end = e } ∷ spans_of first in
    record {
      has = subst (λ (x : ℕ). HasPieces left size (drop x bytes)) here next.rest;
      laid = λ k.
          ap (λ x. all_laid (spelled_pieces left (drop x bytes)) k (get_or (put_mid start (start + n - start) db c.copy_from_slice.new.self) k 0)) (sym here)
          ∙ ap (λ ys. all_laid first k (get_or (put_mid start (start + n - start) db ys) k 0)) copied ∙ ap (λ w. all_laid first k (get_or (put_mid start w db body) k 0)) m
          ∙ ap (λ b. all_laid first k b) (laid_mid p n k db (omega (arith, next.below, c.loop.auto.database)) body_size)
          ∙ ap (λ ps. all_laid ps k (get_or db k 0)) (sym split) ∙ c.loop.invariant.laid k;
      spans = ap (λ x. c.push.new.self.items ++ spans_of (spelled_pieces left (drop x bytes))) (sym here)
          ∙ ap (λ xs. xs ++ spans_of first) c.in_ok-push.ensures.items ∙ append_assoc spans (record { start = start; end = start + n } ∷ []) (spans_of first)
          ∙ ap (λ w. spans ++ F (start + w)) (sym body_size) ∙ ap (λ ps. spans ++ spans_of ps) (sym split) ∙ c.loop.invariant.spans;
    }
