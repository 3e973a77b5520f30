use Rattle.sdd_watch.proofs.All.{[], handed_on}
use Rattle.sdd_watch.proofs.BeginsReport.{log_at_end}
use Rattle.sdd_watch.proofs.whole_text.carry_out_before.Goals as goal

pub carry_out-requires : goal.carry_out-requires
carry_out-requires c = let r = c.requires in (r.0, [], r.1, r.2, r.3, r.4, r.5)

pub returns-clause-log : goal.returns-clause-log
returns-clause-log c = λ g represents tells empty allowed.
    let all = c.in_ok-carry_out.ensures.log g [] represents tells empty allowed in
    (all.0, log_at_end _ _ all.0 all.1, all.2)

pub returns-in_err-carry_out-clause-limit : goal.returns-in_err-carry_out-clause-limit
returns-in_err-carry_out-clause-limit c = λ err g represents tells empty allowed.
    c.in_err-carry_out.ensures.limit
    (handed_on c.from_residual.result c.in_err-carry_out.field-0.0 c.from_residual.ensures.1 err)
    g [] represents tells empty allowed
