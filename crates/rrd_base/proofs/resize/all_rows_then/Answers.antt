use Rattle.rrd_base.proofs.Common.{◌≡◌, sym, ◌∙◌, ap, sum, ◌+◌, arith, get_or, all_rows_after, rows_of_archives, Rra, Resized, RraDef, length-map, changed_few, few_sum, some_of_all, sum_set, rows_at_archive}
use Rattle.rrd_spec.specs.Commands as commands
use Rattle.rrd_base.proofs.resize.all_rows_then.Goals as goal

pub overflow_sub-result : goal.overflow_sub-result
overflow_sub-result c =
    let archives = c.args.archives.now in
    let this = ap (λ (a : Rra). a.def.rows) c.index-archives-archive.is in
    let def = ap (λ (d : RraDef). d.rows) c.def-old.ensures in
    let some = some_of_all archives c.args.archive c.index-archives-archive.result c.requires.there in
    omega (arith, this, def, some, (few_sum archives c.requires.few_rows), c.all_rows.ensures, c.requires.few_archives)

pub overflow_add-result : goal.overflow_add-result
overflow_add-result c =
    let archives = c.args.archives.now in
    let this = ap (λ (a : Rra). a.def.rows) c.index-archives-archive.is in
    let def = ap (λ (d : RraDef). d.rows) c.def-old.ensures in
    let some = some_of_all archives c.args.archive c.index-archives-archive.result c.requires.there in
    let most = few_sum archives c.requires.few_rows in
    let new = changed_few c.args.change c.def-old.result.rows c.args.rows in
    omega (arith, this, def, some, most, new, c.all_rows.ensures, c.rows_changed.ensures, c.requires.few_archives, c.requires.few)

pub returns : goal.returns
returns c =
    let archives = c.args.archives.now in
    let this = ap (λ (a : Rra). a.def.rows) c.index-archives-archive.is in
    let def = ap (λ (d : RraDef). d.rows) c.def-old.ensures in
    let most = few_sum archives c.requires.few_rows in
    let rows = rows_of_archives archives in
    let number = c.args.archive in
    let is : get_or rows number 0 ≡ c.def-old.result.rows = rows_at_archive archives number c.index-archives-archive.result c.requires.there ∙ sym this ∙ sym def in
    record {
      few =
          let old = c.def-old.result.rows in
          let some = some_of_all archives c.args.archive c.index-archives-archive.result c.requires.there in
          let new = changed_few c.args.change old c.args.rows in
          omega (arith, this, def, some, most, new, c.all_rows.ensures, c.rows_changed.ensures, c.requires.few_archives, c.requires.few);
      rows =
          let old = get_or rows number 0 in
          let some = some_of_all archives number c.index-archives-archive.result c.requires.there in
          let new : c.rows_changed.result ≡ commands.rows_changed c.args.change old c.args.rows = c.rows_changed.ensures ∙ ap (λ n. commands.rows_changed c.args.change n c.args.rows) (sym is) in
          let set = sum_set number (commands.rows_changed c.args.change old c.args.rows) rows (omega (arith, length-map archives (λ (a : Rra). a.def.rows), c.requires.there)) in
          let sum_is : sum (all_rows_after (Resized number (commands.rows_changed c.args.change old c.args.rows)) rows) + old ≡ sum rows + commands.rows_changed c.args.change old c.args.rows = set in
          omega (arith, this, def, is, some, most, new, sum_is, c.all_rows.ensures, c.requires.few_archives);
    }
