use Rattle.std.proofs.Common.{◌≡◌, ◌∙◌, None, if◌then◌else◌, Some, refl, rules, sym}
use Rattle.std.proofs.lemmas.Result.{err_from_is_err_and}
use Rattle.rrd_store.specs.Storages.{Bytes, Missing}
use Rattle.tests_of_program.proofs.Given.{found_file, found_moved, has_copy}
use Rattle.tests_of_program.proofs.store.storage.InMemoryStorage.load_to_update.Goals as goal

pub returns-in_err-database-clause-fault : goal.returns-in_err-database-clause-fault
returns-in_err-database-clause-fault c =
    let p = err_from_is_err_and c.from_residual.result c.from_residual.ensures.1 in
    rw (p.1, p.2) c.in_err-database.ensures.found

pub with_copy-requires : goal.with_copy-requires
with_copy-requires c =
    let given = found_moved _ _ _ _ (c.in_ok-database.ensures.stays None tt tt) c.in-Some.is (c.in_ok-database.ensures.found None tt tt) in
    found_file c.load.new.self.is_missing c.load.new.self.bytes.items c.in-Some.database given

pub returns-in-Some-clause-found : goal.returns-in-Some-clause-found
returns-in-Some-clause-found c = λ s honest sound.
    let held = Some (if c.args.self.now.is_missing then Missing else Bytes c.args.self.now.bytes.items) in
    found_moved held held _ _ refl (c.in-Some.is ∙ sym c.with_copy.ensures.database) (c.in_ok-database.ensures.found s honest sound)

pub returns-in-Some-clause-bytes : goal.returns-in-Some-clause-bytes
returns-in-Some-clause-bytes c = λ s honest sound.
    let given = found_moved _ _ _ _ (c.in_ok-database.ensures.stays s honest sound) c.in-Some.is (c.in_ok-database.ensures.found s honest sound) in
    has_copy c.load.new.self.is_missing c.load.new.self.bytes.items c.in-Some.database c.with_copy.result.encoded given c.with_copy.ensures.bytes

pub returns-in_default-clause-found : goal.returns-in_default-clause-found
returns-in_default-clause-found c = λ s honest sound.
    let is : c.in_ok-database.database ≡ c.without_bytes.result.database = search rules in
    let held = Some (if c.args.self.now.is_missing then Missing else Bytes c.args.self.now.bytes.items) in
    found_moved held held _ _ refl is (c.in_ok-database.ensures.found s honest sound)
