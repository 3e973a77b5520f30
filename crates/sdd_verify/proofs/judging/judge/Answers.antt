use Rattle.sdd_verify.proofs.All.{List, Txn, ap, map, texts_of, ◌∙◌}
use Rattle.sdd_verify.proofs.Submissions.{rows_fit, texts_fit}
use Rattle.sdd_verify.proofs.judging.judge.Goals as goal

pub pass_replies-requires-clause-rows : goal.pass_replies-requires-clause-rows
pass_replies-requires-clause-rows c = rows_fit c.args.catalogue.now c.args.work.now c.requires

pub pass_replies-requires-clause-txns : goal.pass_replies-requires-clause-txns
pass_replies-requires-clause-txns c =
    texts_fit c.args.catalogue.now c.args.work.now c.as_slice-2.result.now c.as_slice-3.result.now c.requires
    (ap (map (λ t. t.now)) c.as_slice-3.ensures.value ∙ c.in_ok-texts.ensures
    ∙ ap (λ (txns : List Txn). texts_of txns c.as_slice-2.result.now) c.in_ok-submitted.ensures)
