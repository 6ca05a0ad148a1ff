use Rattle.rrd_tool.proofs.Common.{◌≡◌, ◌∙◌, ap, sym, true, false, app_of, fault_of, subcommand_of, entered_of, refused}
use Rattle.clap.specs.declared.error.kind.ErrorKind.TheVariants.{OutOfMemory}
use Rattle.rrd_tool.proofs.arguments.parse.Goals as goal

pub returns-in-Ok : goal.returns-in-Ok
unfolding entered_of
returns-in-Ok c =
    let serves = c.requires in
    let app = app_of c.args.command in
    let parse = c.in-Ok.ensures in (
      sym serves.0 ∙ (sym (ap (fault_of app) c.as_slice.ensures) ∙ parse.kinds serves.3),
      (parse.matches serves.2).1 ∙ (ap (subcommand_of app) c.as_slice.ensures ∙ serves.1),
    )

pub returns : goal.returns
returns c =
    let serves = c.requires in
    let app = app_of c.args.command in
    let kinds = c.in-Err.ensures.kinds serves.3 in
    λ taken. refused _ c.in-Err.error kinds (λ k.
    let same : c.kind.result ≡ OutOfMemory = c.kind.ensures ∙ k in
    let bad : false ≡ true = rw same at c.if-eq.ensures in cc) (ap (fault_of app) c.as_slice.ensures ∙ (serves.0 ∙ taken))
