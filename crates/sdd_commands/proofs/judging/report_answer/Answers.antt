use Rattle.sdd_commands.proofs.All.{MAX_REPORT_BYTES, err_from_is_err_and, judged_as, report_not_read, report_told, report_untold, ◌∙◌}
use Rattle.sdd_commands.proofs.FileReads.{long_reports}
use Rattle.sdd_commands.proofs.judging.report_answer.Goals as goal

pub returns-in_err-bytes : goal.returns-in_err-bytes
returns-in_err-bytes g c =
    let p = err_from_is_err_and c.from_residual.result c.from_residual.ensures.1 in
    rw (p.1, p.2)
    (report_not_read MAX_REPORT_BYTES c.args.report.now (judged_as c.args.catalogue.now c.args.work.now) _ _ c.in_err-bytes.field-0.0
    c.in_err-bytes.ensures.silent c.in_err-bytes.ensures.leaves)

pub returns-in_err-judge_report : goal.returns-in_err-judge_report
returns-in_err-judge_report g c =
    let p = err_from_is_err_and c.from_residual-in_err-judge_report.result c.from_residual-in_err-judge_report.ensures.1 in
    rw (p.1, p.2)
    (report_untold MAX_REPORT_BYTES c.args.report.now (judged_as c.args.catalogue.now c.args.work.now) _ _ _ c.in_ok-bytes.ensures.leaves)

pub returns : goal.returns
returns g c =
    let cat = c.args.catalogue.now in
    let work = c.args.work.now in
    let e = c.in_ok-bytes.ensures.ended in
    report_told MAX_REPORT_BYTES c.args.report.now c.as_slice.result.now (judged_as cat work) _ _ _ e.0 c.of.result (long_reports cat work)
    (λ fs known. rw c.as_slice.ensures.value (c.in_ok-bytes.ensures.read fs known)) (rw c.as_slice.ensures.value e.1) c.in_ok-bytes.ensures.leaves
    (c.of.ensures ∙ c.in_ok-judge_report.ensures)
