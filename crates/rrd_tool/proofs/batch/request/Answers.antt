use Rattle.rrd_tool.proofs.Common.{err_from_is_err_and, ◌≡◌, ◌∙◌, [], sym, false, Some, is_empty, text_in, words_of, asks_command, asks_fault, asks_nothing, asks_short, asks_usage, no_length, some_length}
use Rattle.rrd_tool.proofs.batch.request.Goals as goal

pub returns-in_default : goal.returns-in_default
returns-in_default c line h = asks_usage c.args.context.now line (sym (rw c.in_default.is at h))

pub returns-in_err-words : goal.returns-in_err-words
returns-in_err-words c line h =
    let p = err_from_is_err_and c.from_residual.result c.from_residual.ensures.1 in
    let text : Some c.in-Some.text.now ≡ text_in line = rw c.in-Some.is at h in
    rw (p.1, p.2) (asks_short c.args.context.now line c.in-Some.text.now (sym text) c.in_err-words.ensures.err)

pub returns-then-len-eq0 : goal.returns-then-len-eq0
returns-then-len-eq0 c line h =
    let text : Some c.in-Some.text.now ≡ text_in line = rw c.in-Some.is at h in
    let none : words_of c.in-Some.text.now ≡ [] = sym c.in_ok-words.ensures.ok ∙ no_length c.in_ok-words.words (sym c.len.ensures ∙ c.if-len-eq0.true) in
    asks_nothing c.args.context.now line c.in-Some.text.now (sym text) none

pub returns-in_err-command : goal.returns-in_err-command
returns-in_err-command c line h =
    let p = err_from_is_err_and c.from_residual-in_err-command.result c.from_residual-in_err-command.ensures.1 in
    let text : Some c.in-Some.text.now ≡ text_in line = rw c.in-Some.is at h in
    let some : is_empty c.in_ok-words.words ≡ false = some_length c.in_ok-words.words (λ e. c.if-len-eq0.false (c.len.ensures ∙ e)) in
    rw (p.1, p.2) (asks_fault c.args.context.now line c.in-Some.text.now c.in_ok-words.words c.in_err-command.field-0.0 (sym text) (sym c.in_ok-words.ensures.ok) some c.in_err-command.ensures)

pub returns : goal.returns
returns c line h =
    let text : Some c.in-Some.text.now ≡ text_in line = rw c.in-Some.is at h in
    let some : is_empty c.in_ok-words.words ≡ false = some_length c.in_ok-words.words (λ e. c.if-len-eq0.false (c.len.ensures ∙ e)) in
    asks_command c.args.context.now line c.in-Some.text.now c.in_ok-words.words c.in_ok-command.command (sym text) (sym c.in_ok-words.ensures.ok) some c.in_ok-command.ensures
