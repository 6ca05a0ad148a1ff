use Rattle.std.proofs.Common.{◌<◌, length, if◌then◌else◌, subst, sym, rules}
use Rattle.rrd_store.specs.Storages.{Bytes, HasNone, Missing}
use Rattle.tests_of_program.proofs.Fronts.{short_is_none}
use Rattle.tests_of_program.proofs.store.storage.InMemory.has_no_database.Goals as goal

pub returns-else-self : goal.returns-else-self
returns-else-self c = λ is.
    let bytes = c.args.self.now.bytes.items in
    let short : length bytes < 16 = search (rules, is, c.len.ensures) in
    subst (λ b. HasNone (if b then Missing else Bytes bytes)) (sym c.if-self.false) (short_is_none c.file_begins.ensures bytes short)
