use Rattle.rrd_file.proofs.Common.{◌∙◌, ap, Version, layout_in, joined_layout, file_is_layout}
use Rattle.rrd_file.proofs.encoded.Encoded.of_file.Goals as goal

pub returns-clause-encodes : goal.returns-clause-encodes
returns-clause-encodes c =
    let d = c.args.database.now in
    let same = file_is_layout c.args.bytes.items d c.requires in
    let version = c.is_newest.ensures c.if-not-is_newest.false c.requires.version d (c.deref.ensures.value ∙ same) in
    assumption (same ∙ ap (λ (v : Version). layout_in v d) version ∙ joined_layout d, c.cells_span-cells.ensures, c.last)
