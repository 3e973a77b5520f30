use Rattle.std.proofs.Common.{◌∙◌}
use Rattle.std.proofs.lemmas.Result.{err_from_is_err_and}
use Rattle.sdd_certify.specs.Certificate.{certificate}
use Rattle.sdd_certify.specs.verifying.declared.limits.TheConstants.{MAX_REPORT_BYTES}
use Rattle.sdd_shell.proofs.Accepted.{report_not_read, report_told, report_untold}
use Rattle.sdd_app_ask.proofs.LongReports.{long_reports}
use Rattle.sdd_app_ask.proofs.certifying.report_answer.Goals as goal

pub returns-in_err-bytes : goal.returns-in_err-bytes
returns-in_err-bytes g c =
    let p = err_from_is_err_and c.from_residual.result c.from_residual.ensures.1 in
    rw (p.1, p.2)
    (report_not_read MAX_REPORT_BYTES c.args.report.now (certificate c.args.catalogue.now c.args.work.now) _ _ c.in_err-bytes.field-0.0
    c.in_err-bytes.ensures.silent c.in_err-bytes.ensures.leaves)

pub returns-in_err-certify : goal.returns-in_err-certify
returns-in_err-certify g c =
    let p = err_from_is_err_and c.from_residual-in_err-certify.result c.from_residual-in_err-certify.ensures.1 in
    rw (p.1, p.2)
    (report_untold MAX_REPORT_BYTES c.args.report.now (certificate c.args.catalogue.now c.args.work.now) _ _ _ c.in_ok-bytes.ensures.leaves)

pub returns : goal.returns
returns g c =
    let cat = c.args.catalogue.now in
    let work = c.args.work.now in
    let e = c.in_ok-bytes.ensures.ended in
    report_told MAX_REPORT_BYTES c.args.report.now c.as_slice.result.now (certificate cat work) _ _ _ e.0 c.of.result (long_reports cat work)
    (λ fs known. rw c.as_slice.ensures.value (c.in_ok-bytes.ensures.read fs known)) (rw c.as_slice.ensures.value e.1) c.in_ok-bytes.ensures.leaves
    (c.of.ensures ∙ c.in_ok-certify.ensures)
