use Rattle.sdd_certify.proofs.All.{ap, map, rows_fit, ◌∙◌}
use Rattle.sdd_certify.proofs.NamedTxns.{named_fit}
use Rattle.sdd_certify.proofs.due.due_line.Goals as goal

pub replies_line-requires-clause-rows : goal.replies_line-requires-clause-rows
replies_line-requires-clause-rows c = rows_fit c.args.catalogue.now c.args.work.now c.requires

pub replies_line-requires-clause-txns : goal.replies_line-requires-clause-txns
replies_line-requires-clause-txns c =
    named_fit c.args.catalogue.now c.args.work.now (map (λ w. w.now) c.as_slice.result.now) c.as_slice-2.result.now c.requires
    (ap (map (λ t. t.now)) c.as_slice-2.ensures.value ∙ c.in_ok-txns.ensures)
