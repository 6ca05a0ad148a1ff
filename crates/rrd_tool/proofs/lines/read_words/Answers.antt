use Rattle.rrd_tool.proofs.Common.{◌≡◌, ◌∙◌, ◌+◌, ◌-◌, ◌≤◌, ◌++◌, [], ℕ, List, Some, None, sym, ap, append-nil, append_assoc, arith, length, drop, take, slice_index, drop-drop, length-drop, take_all, take_rest, IsFirstByte, is_byte2, if_some, words_after, words_of, found_first, found_none, found_parts, on_err, plain_take, plain_drop, some_words, words_first, words_last}
use Rattle.rrd_tool.proofs.lines.read_words.Goals as goal

-- the words from a place on where a blank is found, and where none is
blank_found : (text : List ℕ) (words : List (List ℕ)) (from n : ℕ) → words_of text ≡ words ++ words_after [] (drop from text) → IsFirstByte (is_byte2 32 9) (drop from text) (Some n)
    → words_of text ≡ words ++ (if_some (take (from + n - from) (drop from text)) ++ words_after [] (drop (from + (n + 1)) text))
blank_found text words from n before found =
    let rest = drop from text in
    let first = words_first (take n rest) (drop (n + 1) rest) (slice_index rest n) (found_first (is_byte2 32 9) rest n found) found.1 in
    let same : n ≡ from + n - from = omega arith in
    before ∙ ap (λ l. words ++ l) (ap (words_after []) (found_parts (is_byte2 32 9) rest n found) ∙ (first
    ∙ (ap (λ l. if_some (take n rest) ++ words_after [] l) (drop-drop (n + 1) from text) ∙ ap (λ k. if_some (take k rest) ++ words_after [] (drop (from + (n + 1)) text)) same)))

none_found : (text : List ℕ) (words : List (List ℕ)) (from : ℕ) → words_of text ≡ words ++ words_after [] (drop from text) → IsFirstByte (is_byte2 32 9) (drop from text) None → from ≤ length text
    → words_of text ≡ words ++ if_some (take (length text - from) (drop from text))
none_found text words from before found le =
    let rest = drop from text in
    let all : take (length text - from) rest ≡ rest = take_all (length text - from) rest (omega (arith, length-drop from text)) in
    before ∙ ap (λ l. words ++ l) (words_last rest (found_none (is_byte2 32 9) rest found) ∙ ap if_some (sym all))

pub push_word-requires : goal.push_word-requires
push_word-requires c = plain_take (c.loop-length.from + c.in-Some.length - c.loop-length.from) (drop c.loop-length.from c.args.text.now) (plain_drop c.loop-length.from c.args.text.now c.requires)

pub push_word-requires-2 : goal.push_word-requires-2
push_word-requires-2 c = plain_take (length c.args.text.now - c.loop-length.from) (drop c.loop-length.from c.args.text.now) (plain_drop c.loop-length.from c.args.text.now c.requires)

pub returns-in_err-push_word-clause-err : goal.returns-in_err-push_word-clause-err
returns-in_err-push_word-clause-err c =
    let text = c.args.text.now in
    let from = c.loop-length.from in
    let n = c.in-Some.length in
    let all = blank_found text c.loop-length.words from n c.loop-length.invariant.1 (rw (c.in-Some.is, take_rest c.args.text.now c.loop-length.from) at c.memchr2.ensures) in
    on_err c.from_residual.result (rw all (some_words c.loop-length.words (take (from + n - from) (drop from text)) (words_after [] (drop (from + (n + 1)) text)) c.in_err-push_word.ensures.err))

pub loop-length-preserved : goal.loop-length-preserved
loop-length-preserved c =
    let text = c.args.text.now in
    let from = c.loop-length.from in
    let n = c.in-Some.length in
    let found : IsFirstByte (is_byte2 32 9) (drop from text) (Some n) = rw (c.in-Some.is, take_rest c.args.text.now c.loop-length.from) at c.memchr2.ensures in
    let all = blank_found text c.loop-length.words from n c.loop-length.invariant.1 found in
    let inside = found.0.high in (
      omega (arith, inside, length-drop from text),
      rw c.in_ok-push_word.ensures.ok (all ∙ sym (append_assoc c.loop-length.words (if_some (take (from + n - from) (drop from text))) (words_after [] (drop (from + (n + 1)) text)))),
    )

pub returns-in_err-push_word-2-clause-err : goal.returns-in_err-push_word-2-clause-err
returns-in_err-push_word-2-clause-err c =
    let text = c.args.text.now in
    let from = c.loop-length.from in
    let all = none_found text c.loop-length.words from c.loop-length.invariant.1 (rw (c.in_default.is, take_rest c.args.text.now c.loop-length.from) at c.memchr2.ensures) c.loop-length.invariant.0 in
    let part = take (length text - from) (drop from text) in
    let some = some_words c.loop-length.words part [] c.in_err-push_word-2.ensures.err in
    on_err c.from_residual-in_err-push_word-2.result (rw (all, ← append-nil (if_some part)) some)

pub returns-clause-ok : goal.returns-clause-ok
returns-clause-ok c =
    let all = none_found c.args.text.now c.loop-length.words c.loop-length.from c.loop-length.invariant.1 (rw (c.in_default.is, take_rest c.args.text.now c.loop-length.from) at c.memchr2.ensures) c.loop-length.invariant.0 in
    c.in_ok-push_word-2.ensures.ok ∙ sym all
