use Rattle.sdd_exec.proofs.All.{sym, ◌∙◌, ◌≡◌}
use Rattle.sdd_exec.proofs.Planned.{made_more}
use Rattle.sdd_exec.proofs.plan.make_rows.Goals as goal

pub returns-clause-rows : goal.returns-clause-rows
returns-clause-rows c = λ q. rw c.in_ok-shared.ensures.ok (rw c.rows.ensures at (c.in_ok-found.ensures q))

pub returns-clause-made : goal.returns-clause-made
returns-clause-made c =
    rw c.in_ok-push.ensures.items
    (made_more c.args.parts.now c.args.conds.now c.args.made.now.items (record { part = c.args.part; columns = c.args.columns; rows = c.in_ok-copy.copy }) c.args.ties.now
    c.requires.made (sym c.requires.columns) (λ q. let e : c.in_ok-copy.copy.value ≡ c.in_ok-found.found = c.in_ok-copy.ensures.cases ∙ c.in_ok-shared.ensures.ok in rw e (rw c.rows.ensures at (c.in_ok-found.ensures q))))
