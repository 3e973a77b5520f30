use Rattle.std.proofs.lemmas.Result.{err_from_is_err_and}
use Rattle.sdd_app_ask.proofs.transactions.robust_pages.Goals as goal

pub returns-in_err-robust_work_text : goal.returns-in_err-robust_work_text
returns-in_err-robust_work_text c =
    let p = err_from_is_err_and c.from_residual.result c.from_residual.ensures.1 in
    rw (p.1, p.2) tt

pub returns : goal.returns
returns c = rw c.of.ensures c.in_ok-robust_work_text.ensures
