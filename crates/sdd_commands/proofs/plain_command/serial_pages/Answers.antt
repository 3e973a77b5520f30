use Rattle.sdd_commands.proofs.All.{err_from_is_err_and, ◌∙◌}
use Rattle.sdd_commands.proofs.plain_command.serial_pages.Goals as goal

pub returns-in_err-serial_text : goal.returns-in_err-serial_text
returns-in_err-serial_text c =
    let p = err_from_is_err_and c.from_residual.result c.from_residual.ensures.1 in
    rw (p.1, p.2) tt

pub returns : goal.returns
returns c = c.of.ensures ∙ c.in_ok-serial_text.ensures
