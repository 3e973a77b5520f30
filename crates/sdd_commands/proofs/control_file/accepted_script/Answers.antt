use Rattle.sdd_commands.proofs.All.{err_from_is_err_and}
use Rattle.sdd_commands.proofs.FileReads.{script_not_read, script_read}
use Rattle.sdd_commands.proofs.control_file.accepted_script.Goals as goal

pub returns-in_err-bytes-clause-accepts : goal.returns-in_err-bytes-clause-accepts
returns-in_err-bytes-clause-accepts g c =
    let p = err_from_is_err_and c.from_residual.result c.from_residual.ensures.1 in
    rw (p.1, p.2) (script_not_read c.args.name.now _ _ c.in_err-bytes.field-0.0 c.in_err-bytes.ensures.silent c.in_err-bytes.ensures.leaves)

pub returns-clause-accepts : goal.returns-clause-accepts
returns-clause-accepts g c =
    let e = c.in_ok-bytes.ensures.ended in
    let judged = c.read_script_bytes.ensures in
    script_read c.args.name.now c.as_slice.result.now _ _ _ e.0 c.read_script_bytes.result
    (λ fs known. rw c.as_slice.ensures.value (c.in_ok-bytes.ensures.read fs known)) (rw c.as_slice.ensures.value e.1) c.in_ok-bytes.ensures.leaves
    judged.answered judged.errors judged.read
