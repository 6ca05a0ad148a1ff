use Rattle.rrd_file.proofs.Common.{ℕ, subst, arith, err_from_is_err_and, entry_of, BadEntry, IsBad, closed, denied, entry_refusal_is}
use Rattle.rrd_file.proofs.journal.read_entry.Goals as goal

pub returns-in_err-entry-clause-steps : goal.returns-in_err-entry-clause-steps
returns-in_err-entry-clause-steps g c = λ bytes st.
    let p = err_from_is_err_and c.from_residual.result c.from_residual.ensures.1 in
    rw (p.1, p.2) (c.in_err-entry.ensures.closes bytes st)

pub returns-in-Ok-clause-steps : goal.returns-in-Ok-clause-steps
returns-in-Ok-clause-steps g c = λ bytes st.
    closed bytes c.args.build.now c.entry.new.self c.read_untaken.new.input (entry_of c.in_ok-entry.entry) (c.in_ok-entry.ensures.closes bytes st) c.in-Ok.ensures.ok

pub returns-in-Err-clause-steps : goal.returns-in-Err-clause-steps
returns-in-Err-clause-steps g c = λ bytes st.
    rw c.entry_fault.ensures (entry_refusal_is bytes _ c.in-Err.fault (λ e.
    subst (λ (n : ℕ). IsBad bytes (BadEntry n)) (omega (arith, c.entries-number.ensures.count))
    (denied bytes c.args.build.now c.read_untaken.new.input (entry_of c.in_ok-entry.entry) (c.in_ok-entry.ensures.closes bytes st) c.in_ok-entry.ensures.shaped (c.in-Err.ensures.bad e))))
