use Rattle.sdd_exec.proofs.All.{IfOk, List, Option, Row, ap, subst, within, ◌≡◌}
use Rattle.sdd_exec.proofs.Product.{join_is_answer}
use Rattle.sdd_exec.proofs.joins.answers_of_all.Goals as goal

pub returns-in-Some : goal.returns-in-Some
returns-in-Some c =
    subst (λ (rows : Option (List Row)). IfOk c.answers.result (λ found. found ≡ rows))
    (ap (within c.args.room) (join_is_answer c.args.parts.now c.args.out.now c.args.conds.now c.in-Some.kept.items (rw c.in-Some.is at c.in_ok-kept.ensures)))
    (rw c.deref.ensures.value at c.answers.ensures)

pub returns : goal.returns
returns c =
    subst (λ (rows : Option (List Row)). IfOk c.answers-2.result (λ found. found ≡ rows)) c.in_ok-kept-2.ensures (rw c.deref-2.ensures.value at c.answers-2.ensures)
