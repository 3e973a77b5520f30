use Rattle.sdd_commands.proofs.All.{MAX_REPORT_BYTES, err_from_is_err_and, judged_as, report_answers, report_first_refused, report_second_refused}
use Rattle.sdd_commands.proofs.judging.verify_answer.Goals as goal

pub returns-in_err-catalogue : goal.returns-in_err-catalogue
returns-in_err-catalogue g c =
    let p = err_from_is_err_and c.from_residual.result c.from_residual.ensures.1 in
    rw (p.1, p.2)
    (report_first_refused MAX_REPORT_BYTES c.args.catalogue.now c.args.workload.now c.args.report.now judged_as _ _ c.in_err-catalogue.field-0.0
    c.in_err-catalogue.ensures)

pub returns-in_err-work : goal.returns-in_err-work
returns-in_err-work g c =
    let p = err_from_is_err_and c.from_residual-in_err-work.result c.from_residual-in_err-work.ensures.1 in
    rw (p.1, p.2)
    (report_second_refused MAX_REPORT_BYTES c.args.catalogue.now c.args.workload.now c.args.report.now judged_as _ _ _ c.in_ok-catalogue.catalogue
    c.in_err-work.field-0.0 c.in_ok-catalogue.ensures c.in_err-work.ensures.accepts)

pub returns : goal.returns
returns g c =
    report_answers MAX_REPORT_BYTES c.args.catalogue.now c.args.workload.now c.args.report.now judged_as _ _ _ _ c.in_ok-catalogue.catalogue c.in_ok-work.work
    c.in_ok-catalogue.ensures c.in_ok-work.ensures.accepts c.report_answer.result c.report_answer.ensures
