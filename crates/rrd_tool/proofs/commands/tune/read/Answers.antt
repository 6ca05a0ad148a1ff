use Rattle.rrd_tool.proofs.Common.{◌≡◌, ◌∙◌, Err, Ok, Option, Result, ap, codes, refl, subst, sym, err_from_is_err_and, first_of, found_of, rows_of, whole_of, archive_tune_of, setting_of, tune_of, bound_of, name_of, ◌>>=◌, Unread, optional, Meets, Name, ArchiveTune, Command, meets_first}
use Rattle.rrd_tool.specs.Fields.{kind_of}
use Rattle.rrd_tool.specs.declared.commands.Command.TheVariants as command
use Rattle.rrd_tool.specs.declared.faults.Part.TheVariants as part
use Rattle.rrd_tool.proofs.commands.tune.read.Goals as goal

pub returns-in_err-rename : goal.returns-in_err-rename
returns-in_err-rename c =
    let p = err_from_is_err_and c.from_residual-in_err-rename.result c.from_residual-in_err-rename.ensures.1 in
    let rows = rows_of (found_of c.args.matches.now) in
    let heartbeat : optional (setting_of whole_of) part.Heartbeat (first_of (codes "heartbeat") rows) ≡ Ok c.in_ok-heartbeat.heartbeat = rw c.text_of.ensures at c.in_ok-heartbeat.ensures in
    let minimum : optional (setting_of bound_of) part.Minimum (first_of (codes "minimum") rows) ≡ Ok c.in_ok-minimum.minimum = rw c.text_of-2.ensures at c.in_ok-minimum.ensures in
    let maximum : optional (setting_of bound_of) part.Maximum (first_of (codes "maximum") rows) ≡ Ok c.in_ok-maximum.maximum = rw c.text_of-3.ensures at c.in_ok-maximum.ensures in
    let kind : optional (setting_of kind_of) part.Kind (first_of (codes "type") rows) ≡ Ok c.in_ok-kind.kind = rw c.text_of-4.ensures at c.in_ok-kind.ensures in
    let fault = c.in_err-rename.field-0.0 in
    let bad : Meets (optional (setting_of name_of) part.Rename (first_of (codes "rename") rows)) (Err fault) =
    subst (λ text. Meets (optional (setting_of name_of) part.Rename text) (Err fault)) c.text_of-5.ensures c.in_err-rename.ensures in
    let next : Option (Name × Name) → Result Command Unread = λ rename. optional archive_tune_of part.Definition (first_of (codes "definition") rows) >>= (λ archive. Ok (command.Tune (record {
      heartbeat = c.in_ok-heartbeat.heartbeat;
      minimum = c.in_ok-minimum.minimum;
      maximum = c.in_ok-maximum.maximum;
      kind = c.in_ok-kind.kind;
      rename = rename;
      archive = archive;
    }))) in
    let whole : tune_of rows ≡ (optional (setting_of name_of) part.Rename (first_of (codes "rename") rows) >>= next) = rw (heartbeat, minimum, maximum, kind) refl in
    let told : Meets (tune_of rows) (Err fault) = subst (λ (read : Result Command Unread). Meets read (Err fault)) (sym whole) (meets_first _ next fault bad) in
    rw (p.1 ∙ ap (λ e. Err e) p.2) told

pub returns-in_err-archive : goal.returns-in_err-archive
returns-in_err-archive c =
    let p = err_from_is_err_and c.from_residual-in_err-archive.result c.from_residual-in_err-archive.ensures.1 in
    let rows = rows_of (found_of c.args.matches.now) in
    let heartbeat : optional (setting_of whole_of) part.Heartbeat (first_of (codes "heartbeat") rows) ≡ Ok c.in_ok-heartbeat.heartbeat = rw c.text_of.ensures at c.in_ok-heartbeat.ensures in
    let minimum : optional (setting_of bound_of) part.Minimum (first_of (codes "minimum") rows) ≡ Ok c.in_ok-minimum.minimum = rw c.text_of-2.ensures at c.in_ok-minimum.ensures in
    let maximum : optional (setting_of bound_of) part.Maximum (first_of (codes "maximum") rows) ≡ Ok c.in_ok-maximum.maximum = rw c.text_of-3.ensures at c.in_ok-maximum.ensures in
    let kind : optional (setting_of kind_of) part.Kind (first_of (codes "type") rows) ≡ Ok c.in_ok-kind.kind = rw c.text_of-4.ensures at c.in_ok-kind.ensures in
    let rename : optional (setting_of name_of) part.Rename (first_of (codes "rename") rows) ≡ Ok c.in_ok-rename.rename = rw c.text_of-5.ensures at c.in_ok-rename.ensures in
    let fault = c.in_err-archive.field-0.0 in
    let bad : Meets (optional archive_tune_of part.Definition (first_of (codes "definition") rows)) (Err fault) =
    subst (λ text. Meets (optional archive_tune_of part.Definition text) (Err fault)) c.text_of-6.ensures c.in_err-archive.ensures in
    let next : Option ArchiveTune → Result Command Unread = λ archive. Ok (command.Tune (record {
      heartbeat = c.in_ok-heartbeat.heartbeat;
      minimum = c.in_ok-minimum.minimum;
      maximum = c.in_ok-maximum.maximum;
      kind = c.in_ok-kind.kind;
      rename = c.in_ok-rename.rename;
      archive = archive;
    })) in
    let whole : tune_of rows ≡ (optional archive_tune_of part.Definition (first_of (codes "definition") rows) >>= next) = rw (heartbeat, minimum, maximum, kind, rename) refl in
    let told : Meets (tune_of rows) (Err fault) = subst (λ (read : Result Command Unread). Meets read (Err fault)) (sym whole) (meets_first _ next fault bad) in
    rw (p.1 ∙ ap (λ e. Err e) p.2) told

pub returns : goal.returns
returns c =
    let rows = rows_of (found_of c.args.matches.now) in
    let heartbeat : optional (setting_of whole_of) part.Heartbeat (first_of (codes "heartbeat") rows) ≡ Ok c.in_ok-heartbeat.heartbeat = rw c.text_of.ensures at c.in_ok-heartbeat.ensures in
    let minimum : optional (setting_of bound_of) part.Minimum (first_of (codes "minimum") rows) ≡ Ok c.in_ok-minimum.minimum = rw c.text_of-2.ensures at c.in_ok-minimum.ensures in
    let maximum : optional (setting_of bound_of) part.Maximum (first_of (codes "maximum") rows) ≡ Ok c.in_ok-maximum.maximum = rw c.text_of-3.ensures at c.in_ok-maximum.ensures in
    let kind : optional (setting_of kind_of) part.Kind (first_of (codes "type") rows) ≡ Ok c.in_ok-kind.kind = rw c.text_of-4.ensures at c.in_ok-kind.ensures in
    let rename : optional (setting_of name_of) part.Rename (first_of (codes "rename") rows) ≡ Ok c.in_ok-rename.rename = rw c.text_of-5.ensures at c.in_ok-rename.ensures in
    let archive : optional archive_tune_of part.Definition (first_of (codes "definition") rows) ≡ Ok c.in_ok-archive.archive = rw c.text_of-6.ensures at c.in_ok-archive.ensures in
    rw (heartbeat, minimum, maximum, kind, rename, archive) refl
