-- What is left where an entry is due: the outline of a valid content.
use Rattle.std.proofs.Common.{arith}
use Rattle.std.specs.Prelude.{◌≡◌, ◌<◌, length}
use Rattle.rrd_base.proofs.Names.{◌∙◌, ap, EntryDue, Filed, due, Coming, IsRebuilding, filed_in}
use Rattle.rrd_base.proofs.Dues.{AllAsMany}
use Rattle.rrd_base.proofs.EntryComes.{AllFiled, AllFollow, AllLeave, at_entry, left_valid}

pub some_left : AllAsMany → AllFollow → AllFiled → AllLeave → (d : Coming) (f : Filed) → IsRebuilding d → filed_in d ≡ f → due f ≡ EntryDue → 0 < length d.validator.outline.sources
some_left as_many follow filed leave d f is same e =
    let at = at_entry as_many d is (ap due same ∙ e) in
    grind (arith, left_valid follow filed leave d is at.sources at.heads)
