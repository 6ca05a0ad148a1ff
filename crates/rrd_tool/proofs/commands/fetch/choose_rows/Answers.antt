use Rattle.rrd_tool.proofs.Common.{◌≡◌, ℕ, IfOk, Result, Ok, Err, sym, Function, choice, Content, IsValid, Refusal, Chosen, IsReadable, chosen_readable}
use Rattle.rrd_tool.proofs.commands.fetch.choose_rows.Goals as goal

any_readable : (content : Content) (function : Function) (asked start end : ℕ) (answer : Result Chosen Refusal) → IsValid content
    → answer ≡ choice content function asked start end → IfOk answer (λ chosen. IsReadable content chosen)
any_readable content function asked start end (Ok chosen) valid is = chosen_readable content function asked start end chosen valid (sym is)
any_readable content function asked start end (Err refusal) valid is = tt

pub returns-clause-readable : goal.returns-clause-readable
returns-clause-readable c =
    let request = c.args.request in
    any_readable c.args.database.now.content request.function request.asked request.start request.end c.choose_for.result c.database_is_valid.ensures.content_is c.choose_for.ensures
