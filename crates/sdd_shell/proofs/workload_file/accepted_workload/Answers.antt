use Rattle.sdd_shell.proofs.All.{err_from_is_err_and}
use Rattle.sdd_shell.proofs.Accepted.{workload_not_read, workload_read}
use Rattle.sdd_shell.proofs.workload_file.accepted_workload.Goals as goal

pub returns-in_err-bytes-clause-accepts : goal.returns-in_err-bytes-clause-accepts
returns-in_err-bytes-clause-accepts g c =
    let p = err_from_is_err_and c.from_residual.result c.from_residual.ensures.1 in
    rw (p.1, p.2)
    (workload_not_read c.args.catalogue.now c.args.name.now _ _ c.in_err-bytes.field-0.0 c.in_err-bytes.ensures.silent c.in_err-bytes.ensures.leaves)

pub returns-clause-accepts : goal.returns-clause-accepts
returns-clause-accepts g c =
    let e = c.in_ok-bytes.ensures.ended in
    let judged = c.read_workload_bytes.ensures in
    workload_read c.args.catalogue.now c.args.name.now c.as_slice.result.now _ _ _ e.0 c.read_workload_bytes.result
    (λ fs known. rw c.as_slice.ensures.value (c.in_ok-bytes.ensures.read fs known)) (rw c.as_slice.ensures.value e.1) c.in_ok-bytes.ensures.leaves
    judged.answered judged.errors judged.read
