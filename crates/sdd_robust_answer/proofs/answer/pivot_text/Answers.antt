use Rattle.std.proofs.Common.{ap, ◌∙◌}
use Rattle.std.proofs.lemmas.Result.{IfOk-weaker}
use Rattle.sdd_robust.proofs.Workloads.{rows_fit, txns_fit}
use Rattle.sdd_robust_answer.proofs.Explained.{are_explained}
use Rattle.sdd_robust_answer.specs.Answers.{unknown_text}
use Rattle.sdd_robust_answer.specs.Answers.IsRobustAnswer.{not_robust, unknown}
use Rattle.sdd_short_runs.specs.ShortRuns.{lent_txns}
use Rattle.sdd_robust_answer.proofs.answer.pivot_text.Goals as goal

pub find_counterexample-requires-clause-rows : goal.find_counterexample-requires-clause-rows
find_counterexample-requires-clause-rows c = rw c.as_slice-rows.ensures (rows_fit c.args.catalogue.now c.args.work.now c.requires.valid)

pub find_counterexample-requires-clause-fit : goal.find_counterexample-requires-clause-fit
find_counterexample-requires-clause-fit c = rw c.as_slice-txns.ensures (txns_fit c.args.catalogue.now c.args.work.now c.requires.valid)

pub returns-in-Some : goal.returns-in-Some
returns-in-Some c =
    let short = c.in-Some.short in
    let is = rw c.in-Some.is at c.in_ok-short.ensures.found in
    IfOk-weaker c.not_robust.result _ _
    (λ text spelled. not_robust short.outer.now (lent_txns short.inner.items) (rw (c.as_slice-rows.ensures, c.as_slice-txns.ensures) at is) spelled)
    c.not_robust.ensures

pub returns-in-None : goal.returns-in-None
returns-in-None c =
    IfOk-weaker c.unknown.result _ _
    (λ text spelled. unknown c.args.pivot c.requires.pivot
    (are_explained c.args.catalogue.now c.args.work.now _ _ _ c.as_slice-rows.ensures c.as_slice-txns.ensures c.requires.members
    (rw c.in-None.is at c.in_ok-short.ensures.none)) (spelled ∙ ap (λ txns. unknown_text txns c.args.pivot) c.as_slice-txns.ensures))
    c.unknown.ensures
