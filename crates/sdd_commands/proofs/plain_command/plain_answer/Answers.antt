use Rattle.sdd_commands.proofs.All.{IsSerialText, MakesNoRun, err_from_is_err_and, workload_answers, workload_first_refused, workload_second_refused}
use Rattle.sdd_commands.proofs.plain_command.plain_answer.Goals as goal

pub returns-in_err-catalogue : goal.returns-in_err-catalogue
returns-in_err-catalogue g c =
    let p = err_from_is_err_and c.from_residual.result c.from_residual.ensures.1 in
    rw (p.1, p.2)
    (workload_first_refused c.args.catalogue.now c.args.workload.now IsSerialText MakesNoRun _ _ c.in_err-catalogue.field-0.0 c.in_err-catalogue.ensures)

pub returns-in_err-work : goal.returns-in_err-work
returns-in_err-work g c =
    let p = err_from_is_err_and c.from_residual-in_err-work.result c.from_residual-in_err-work.ensures.1 in
    rw (p.1, p.2)
    (workload_second_refused c.args.catalogue.now c.args.workload.now IsSerialText MakesNoRun _ _ _ c.in_ok-catalogue.catalogue c.in_err-work.field-0.0
    c.in_ok-catalogue.ensures c.in_err-work.ensures.accepts)

pub returns : goal.returns
returns g c =
    workload_answers c.args.catalogue.now c.args.workload.now IsSerialText MakesNoRun _ _ _ c.in_ok-catalogue.catalogue c.in_ok-work.work c.serial_pages.result
    c.in_ok-catalogue.ensures c.in_ok-work.ensures.accepts c.serial_pages.ensures
