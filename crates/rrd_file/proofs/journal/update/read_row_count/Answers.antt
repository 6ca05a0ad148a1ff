use Rattle.rrd_file.proofs.Common.{◌≡◌, ◌∙◌, ap, sym, length, rules, arith, min, err_from_is_err_and, EntryValidator, spell, OfRows, rows_between, outline_left, four_bytes, RowsDue, cut_within, ReadRows, broken, kept, whole}
use Rattle.rrd_file.proofs.journal.update.read_row_count.Goals as goal

pub returns-in_err-piece-clause-brings : goal.returns-in_err-piece-clause-brings
returns-in_err-piece-clause-brings g c = λ bytes pieces later st.
    let def = c.args.def.now in
    let p = err_from_is_err_and c.from_residual.result c.from_residual.ensures.1 in
    let len : length c.piece.new.piece ≡ 4 = search rules in
    rw (p.1, p.2) (cut_within bytes c.args.build.now pieces (RowsDue (min (rows_between c.args.build.now.header.step def c.args.last (outline_left c.args.build.now).last) def.rows)) later c.args.input.now _ _ st (sym len) c.in_err-piece.ensures.read)

pub returns-then-rows-replaced_row_count-clause-brings : goal.returns-then-rows-replaced_row_count-clause-brings
unfolding spell
returns-then-rows-replaced_row_count-clause-brings g c = λ bytes pieces later st.
    let def = c.args.def.now in
    let len : length c.piece.new.piece ≡ 4 = search rules in
    let f = c.args.build.now in
    let replaced : c.replaced_row_count.result ≡ min (rows_between f.header.step def c.args.last (outline_left f).last) def.rows = c.replaced_row_count.ensures ∙ ap (λ (j : EntryValidator). min (rows_between j.step def c.args.last j.outline.last) def.rows) c.validator.ensures in
    let most = c.requires.few_rows in
    rw c.bad_entry.ensures (broken bytes c.args.build.now pieces (RowsDue (min (rows_between c.args.build.now.header.step def c.args.last (outline_left c.args.build.now).last) def.rows)) later c.args.input.now c.piece.new.self (OfRows c.four_of-rows.result.0) c.piece.new.piece st c.in_ok-piece.ensures.read (whole c.piece.new.piece (four_bytes c.four_of-rows.result.0) c.four_of-rows.result.1.now 4 c.four_of-rows.ensures.spelled c.four_of-rows.ensures.room len) (sym len) (ReadRows _ c.four_of-rows.result.0 (omega (arith, replaced, most)) c.four_of-rows.ensures.small) (λ k. c.if-rows-replaced_row_count.true (k ∙ sym replaced)))

pub returns-clause-brings : goal.returns-clause-brings
unfolding spell
returns-clause-brings g c = λ bytes pieces later st.
    let def = c.args.def.now in
    let len : length c.piece.new.piece ≡ 4 = search rules in
    let f = c.args.build.now in
    let replaced : c.replaced_row_count.result ≡ min (rows_between f.header.step def c.args.last (outline_left f).last) def.rows = c.replaced_row_count.ensures ∙ ap (λ (j : EntryValidator). min (rows_between j.step def c.args.last j.outline.last) def.rows) c.validator.ensures in
    let most = c.requires.few_rows in
    kept bytes c.args.build.now pieces (RowsDue (min (rows_between c.args.build.now.header.step def c.args.last (outline_left c.args.build.now).last) def.rows)) later c.args.input.now c.piece.new.self (OfRows c.four_of-rows.result.0) c.piece.new.piece st c.in_ok-piece.ensures.read (whole c.piece.new.piece (four_bytes c.four_of-rows.result.0) c.four_of-rows.result.1.now 4 c.four_of-rows.ensures.spelled c.four_of-rows.ensures.room len) (sym len) (ReadRows _ c.four_of-rows.result.0 (omega (arith, replaced, most)) c.four_of-rows.ensures.small) (c.if-rows-replaced_row_count.false ∙ replaced)
