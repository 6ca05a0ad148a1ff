use Rattle.tests_of_program.proofs.Outcomes.{on_ok, on_err}
use Rattle.tests_of_program.proofs.store.storage.InMemoryStorage.replace_where.Goals as goal

-- `replace` writes the same bytes, whatever differs
pub returns-clause-ok : goal.returns-clause-ok
returns-clause-ok c = on_ok c.replace-ended.result _ _ (λ becomes s honest sound _. becomes s honest sound) c.replace-ended.ensures.ok

pub returns-clause-err : goal.returns-clause-err
returns-clause-err c = on_err c.replace-ended.result _ _ (λ failed s honest sound _. failed s honest sound) c.replace-ended.ensures.err
