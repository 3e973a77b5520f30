use Rattle.sdd_commands.proofs.All.{err_from_is_err_and}
use Rattle.sdd_commands.proofs.Scripts.{script_refused, script_told, script_untold}
use Rattle.sdd_commands.proofs.control_file.control_answer.Goals as goal

pub returns-in_err-script : goal.returns-in_err-script
returns-in_err-script g c =
    let p = err_from_is_err_and c.from_residual.result c.from_residual.ensures.1 in
    rw (p.1, p.2) (script_refused c.args.file.now _ _ c.in_err-script.field-0.0 c.in_err-script.ensures.accepts)

pub returns-in_err-text : goal.returns-in_err-text
returns-in_err-text g c =
    let p = err_from_is_err_and c.from_residual-in_err-text.result c.from_residual-in_err-text.ensures.1 in
    rw (p.1, p.2) (script_untold c.args.file.now _ _ c.in_ok-script.script c.in_ok-script.ensures.accepts)

pub returns : goal.returns
returns g c =
    script_told c.args.file.now _ _ c.in_ok-script.script c.of.result c.in_ok-script.ensures.accepts
    (rw (c.of.ensures, c.into_vec.ensures) c.in_ok-text.ensures)
