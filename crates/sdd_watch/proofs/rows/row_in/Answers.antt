use Rattle.sdd_watch.proofs.All.{Some, ap, ◌∙◌}
use Rattle.sdd_watch.proofs.rows.row_in.Goals as goal

pub returns-in_ok-copy-in-Some : goal.returns-in_ok-copy-in-Some
returns-in_ok-copy-in-Some c = λ xs represent change f k. ap (λ row. Some row) c.in_ok-copy-in-Some.ensures ∙ c.in-Some.ensures xs represent change f k

pub returns-in-None : goal.returns-in-None
returns-in-None c = λ xs represent change f k. c.in-None.ensures xs represent change f k
