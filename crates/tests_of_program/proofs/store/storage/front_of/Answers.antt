use Rattle.std.proofs.Common.{subst, sym}
use Rattle.std.proofs.lemmas.Result.{IfOk-weaker}
use Rattle.rrd_store.specs.Storages.{IsNoFile}
use Rattle.tests_of_program.proofs.Fronts.{front_is_none}
use Rattle.tests_of_program.proofs.store.storage.front_of.Goals as goal

pub returns : goal.returns
returns c =
    let none = front_is_none c.file_is_layout.ensures c.layouts_differ.ensures c.args.bytes.now c.args.room c.requires.whole c.requires.short in
    IfOk-weaker c.from_slice.result _ (λ front. IsNoFile front.items) (λ front same. subst IsNoFile (sym same) none) c.from_slice.ensures.items
