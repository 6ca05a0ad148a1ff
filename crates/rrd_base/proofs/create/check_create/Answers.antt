use Rattle.rrd_base.proofs.Common.{◌∙◌, ap, ◌++◌, err_from_is_err_and, first_refusal, create_verdict_within, first_checks, source_checks, archive_checks, size_checks, refused, present}
use Rattle.rrd_base.proofs.Checks.{passed}
use Rattle.rrd_base.proofs.create.check_create.Goals as goal

pub returns-in_err-check_first : goal.returns-in_err-check_first
unfolding create_verdict_within
returns-in_err-check_first c =
    let spec = c.args.spec.now in
    let p = err_from_is_err_and c.from_residual.result c.from_residual.ensures.1 in
    rw (p.1, p.2) (refused (first_checks present spec) (source_checks present spec.sources ++ archive_checks present spec.archives ++ size_checks present spec) c.in_err-check_first.field-0.0 c.in_err-check_first.ensures)

pub returns-in_err-check_sources : goal.returns-in_err-check_sources
unfolding create_verdict_within
returns-in_err-check_sources c =
    let spec = c.args.spec.now in
    let p = err_from_is_err_and c.from_residual-in_err-check_sources.result c.from_residual-in_err-check_sources.ensures.1 in
    let later = archive_checks present spec.archives ++ size_checks present spec in
    rw (p.1, p.2)
    (refused (source_checks present spec.sources) later c.in_err-check_sources.field-0.0 (c.in_err-check_sources.ensures ∙ ap (λ s. first_refusal (source_checks present s)) c.as_slice.ensures)
    ∙ passed (first_checks present spec) (source_checks present spec.sources ++ later) c.in_ok-check_first.ensures)

pub returns-in_err-check_archives : goal.returns-in_err-check_archives
unfolding create_verdict_within
returns-in_err-check_archives c =
    let spec = c.args.spec.now in
    let p = err_from_is_err_and c.from_residual-in_err-check_archives.result c.from_residual-in_err-check_archives.ensures.1 in
    let later = archive_checks present spec.archives ++ size_checks present spec in
    rw (p.1, p.2)
    (refused (archive_checks present spec.archives) (size_checks present spec) c.in_err-check_archives.field-0.0 (c.in_err-check_archives.ensures ∙ ap (λ a. first_refusal (archive_checks present a)) c.as_slice-2.ensures)
    ∙ passed (source_checks present spec.sources) later (c.in_ok-check_sources.ensures ∙ ap (λ s. first_refusal (source_checks present s)) c.as_slice.ensures)
    ∙ passed (first_checks present spec) (source_checks present spec.sources ++ later) c.in_ok-check_first.ensures)

pub returns : goal.returns
unfolding create_verdict_within
returns c =
    let spec = c.args.spec.now in
    let later = archive_checks present spec.archives ++ size_checks present spec in
    c.check_size.ensures
    ∙ passed (archive_checks present spec.archives) (size_checks present spec) (c.in_ok-check_archives.ensures ∙ ap (λ a. first_refusal (archive_checks present a)) c.as_slice-2.ensures)
    ∙ passed (source_checks present spec.sources) later (c.in_ok-check_sources.ensures ∙ ap (λ s. first_refusal (source_checks present s)) c.as_slice.ensures)
    ∙ passed (first_checks present spec) (source_checks present spec.sources ++ later) c.in_ok-check_first.ensures
