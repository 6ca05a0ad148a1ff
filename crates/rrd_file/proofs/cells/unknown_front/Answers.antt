use Rattle.rrd_file.proofs.Common.{◌∙◌, ◌++◌, ◌+◌, ap, sym, replicate, append_assoc, Unknown, cells_bytes, unknown_bytes_on, unknown_read}
use Rattle.rrd_file.proofs.cells.unknown_front.Goals as goal

pub returns-clause-spelled : goal.returns-clause-spelled
returns-clause-spelled c =
    let many = c.unknown_blocks-many.result.0 in
    let more = c.unknown_blocks-more.result.0 in
    let behind = c.unknown_blocks-more.result.1.now in
    unknown_read (many + more) c.args.bytes.now behind (c.unknown_blocks-many.ensures.spelled
    ∙ ap (λ xs. cells_bytes (replicate many Unknown) ++ xs) c.unknown_blocks-more.ensures.spelled
    ∙ sym (append_assoc (cells_bytes (replicate many Unknown)) (cells_bytes (replicate more Unknown)) behind)
    ∙ ap (λ xs. xs ++ behind) (unknown_bytes_on many more))
