use Rattle.std.proofs.lemmas.Result.{err_from_is_err_and}
use Rattle.sdd_robust_answer.specs.Answers.{IsRobustAnswer}
use Rattle.sdd_shell.proofs.Requests.{workload_answers, workload_first_refused, workload_second_refused}
use Rattle.sdd_shell.specs.OverWorkload.{MakesNoRun}
use Rattle.sdd_app_ask.proofs.transactions.robust_answer.Goals as goal

pub returns-in_err-catalogue : goal.returns-in_err-catalogue
returns-in_err-catalogue g c =
    let p = err_from_is_err_and c.from_residual.result c.from_residual.ensures.1 in
    rw (p.1, p.2)
    (workload_first_refused c.args.catalogue.now c.args.workload.now IsRobustAnswer MakesNoRun _ _ c.in_err-catalogue.field-0.0 c.in_err-catalogue.ensures)

pub returns-in_err-work : goal.returns-in_err-work
returns-in_err-work g c =
    let p = err_from_is_err_and c.from_residual-in_err-work.result c.from_residual-in_err-work.ensures.1 in
    rw (p.1, p.2)
    (workload_second_refused c.args.catalogue.now c.args.workload.now IsRobustAnswer MakesNoRun _ _ _ c.in_ok-catalogue.catalogue c.in_err-work.field-0.0
    c.in_ok-catalogue.ensures c.in_err-work.ensures.accepts)

pub returns : goal.returns
returns g c =
    workload_answers c.args.catalogue.now c.args.workload.now IsRobustAnswer MakesNoRun _ _ _ c.in_ok-catalogue.catalogue c.in_ok-work.work c.robust_pages.result
    c.in_ok-catalogue.ensures c.in_ok-work.ensures.accepts c.robust_pages.ensures
