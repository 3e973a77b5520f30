use Rattle.sdd_verify.proofs.All.{ap, map, ◌∙◌}
use Rattle.sdd_verify.proofs.Submissions.{few_lent}
use Rattle.sdd_verify.proofs.submitted.Submitted.of.Goals as goal

pub numbers_by_name-requires : goal.numbers_by_name-requires
numbers_by_name-requires c = few_lent c.args.work.now c.as_slice.result.now c.requires (ap (map (λ t. t.now)) c.as_slice.ensures.value ∙ c.in_ok-txns.ensures)
