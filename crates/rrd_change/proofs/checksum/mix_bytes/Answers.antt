use Rattle.rrd_change.proofs.Common.{◌≡◌, ◌<◌, length, ◌/◌, ◌%◌, sym, ◌∙◌, ap, arith, eqb-true, eqb-false, mix, mix_words, word_more, words_whole, words_more, common_steps}
use Rattle.rrd_change.proofs.checksum.mix_bytes.Goals as goal

pub loop-word-preserved : goal.loop-word-preserved
loop-word-preserved c = grind (arith, common_steps, word_more)

pub returns-then-is_empty : goal.returns-then-is_empty
returns-then-is_empty c = grind (arith, common_steps, eqb-true (length c.as_chunks.result.1.now) 0, words_whole c.args.start)

pub returns-else-is_empty : goal.returns-else-is_empty
returns-else-is_empty c =
    let bytes = c.args.bytes.now in
    let all : c.loop-word.word-index ≡ length bytes / 8 = grind arith in
    let some = eqb-false (length c.as_chunks.result.1.now) 0 (sym c.is_empty.ensures ∙ c.if-is_empty.false) in
    let more : 0 < length bytes % 8 = omega (arith, c.as_chunks.ensures.back_len, some) in
    c.mix.ensures ∙ ap (λ s. mix s c.short_word.result) (c.loop-word.invariant ∙ ap (λ n. mix_words c.args.start bytes n) all)
    ∙ ap (λ w. mix (mix_words c.args.start bytes (length bytes / 8)) w) c.short_word.ensures
    ∙ words_more c.args.start bytes c.as_chunks.result.1.now c.as_chunks.ensures.back more
