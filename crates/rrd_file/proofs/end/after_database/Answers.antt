use Rattle.rrd_file.proofs.Common.{◌∙◌, ap, sym, after_version, two_in, no_version, right_version}
use Rattle.rrd_file.proofs.end.after_database.Goals as goal

pub returns-in-Some : goal.returns-in-Some
returns-in-Some c =
    let number = c.in-Some.ensures.some ∙ c.two_in.ensures.number ∙ ap two_in c.after.ensures in
    c.after_version.ensures ∙ ap (after_version c.in-Some.version) c.after-in-Some.ensures ∙ sym (right_version c.in-Some.version c.args.bytes.now number)

pub returns-in-None : goal.returns-in-None
returns-in-None c = sym (no_version c.args.bytes.now (λ version e. c.version_of.ensures.none c.in-None.is version (e ∙ sym (c.two_in.ensures.number ∙ ap two_in c.after.ensures))))
