use Rattle.std.proofs.Common.{ap}
use Rattle.tests_of_program.proofs.Fronts.{kept_moved, moved, spoilt}
use Rattle.tests_of_program.proofs.store.storage.InMemoryStorage.replace.Goals as goal
use Rattle.tests_of_program.proofs.store.storage.InMemoryStorage.replace.Goals.{then-has_no_database+in_ok-self, else-has_no_database}

pub returns-then-self-bytes-clause-err : goal.returns-then-self-bytes-clause-err
returns-then-self-bytes-clause-err c = λ s honest sound.
    elim c.if-has_no_database.branch [
      | then-has_no_database+in_ok-self w ↦ rw w.self-is (spoilt _ _ c.args.bytes.now
          (moved _ _ _ _ c.next_ending-ending.ensures.missing (ap (λ v. v.items) c.next_ending-ending.ensures.bytes) (c.has_no_database.ensures w.if-has_no_database.true))
          w.in_ok-self.ensures)
      | else-has_no_database w ↦ rw w.self-is (kept_moved _ _ _ _ c.args.bytes.now c.next_ending-ending.ensures.missing (ap (λ v. v.items) c.next_ending-ending.ensures.bytes))
    ]
