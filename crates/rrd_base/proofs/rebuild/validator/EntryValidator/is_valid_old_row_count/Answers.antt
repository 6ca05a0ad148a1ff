use Rattle.rrd_base.proofs.Common.{◌∙◌, ◌*◌, ◌<◌, ◌≤◌, length, ap, subst, sym, pos, not, rules, nat_lt, Average, RraDef, limits_of, AreOldRows, EntryValidator, not_past, past_not, rows_are_put}
use Rattle.rrd_base.proofs.rebuild.validator.EntryValidator.is_valid_old_row_count.Goals as goal

abbrev no_def : RraDef
no_def = record { function = Average; xff = pos 0; steps = 0; rows = 0 }

pub overflow_sub-all : goal.overflow_sub-all
overflow_sub-all c =
    let now = c.self.inside.outline in
    let there : c.args.archive < length now.archives = subst (λ (j : EntryValidator). c.args.archive < length j.outline.archives) (sym c.self.view_is) c.requires in
    (rows_are_put c.as_slice-archives.result.now now.archives c.args.archive c.args.rows c.all_rows.result no_def c.as_slice-archives.ensures there c.self.invariant.outline_is.few_rows c.all_rows.ensures).within

pub returns-clause-good : goal.returns-clause-good
returns-clause-good c = λ e.
    let now = c.self.inside.outline in
    let n = c.args.rows in
    let there : c.args.archive < length now.archives = subst (λ (j : EntryValidator). c.args.archive < length j.outline.archives) (sym c.self.view_is) c.requires in
    let put = rows_are_put c.as_slice-archives.result.now now.archives c.args.archive n c.all_rows.result no_def c.as_slice-archives.ensures there c.self.invariant.outline_is.few_rows c.all_rows.ensures in
    let some : 0 < n = search rules in
    let small : n ≤ 1000000 = search rules in
    let is : AreOldRows (limits_of c.self.inside.version) now c.args.archive n = record {
      some = some;
      few = small;
      another = λ k. c.if-rows-held.false (k ∙ sym put.old_is);
      few_cells = not_past (limits_of c.self.inside.version).max_cells _ (ap not (sym (c.has_too_many_cells.ensures ∙ (λ i. nat_lt (c.max_cells.ensures.value i) (c.len.ensures i * put.all_is i)))) ∙ e);
    } in
    subst (λ (j : EntryValidator). AreOldRows (limits_of j.version) j.outline c.args.archive n) c.self.view_is is

pub returns-clause-bad : goal.returns-clause-bad
returns-clause-bad c = λ may.
    let now = c.self.inside.outline in
    let n = c.args.rows in
    let there : c.args.archive < length now.archives = subst (λ (j : EntryValidator). c.args.archive < length j.outline.archives) (sym c.self.view_is) c.requires in
    let put = rows_are_put c.as_slice-archives.result.now now.archives c.args.archive n c.all_rows.result no_def c.as_slice-archives.ensures there c.self.invariant.outline_is.few_rows c.all_rows.ensures in
    let is = subst (λ (j : EntryValidator). AreOldRows (limits_of j.version) j.outline c.args.archive n) (sym c.self.view_is) may in
    ap not (c.has_too_many_cells.ensures ∙ (λ i. nat_lt (c.max_cells.ensures.value i) (c.len.ensures i * put.all_is i))) ∙ past_not (limits_of c.self.inside.version).max_cells _ is.few_cells
