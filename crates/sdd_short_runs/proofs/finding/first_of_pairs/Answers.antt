use Rattle.sdd_short_runs.proofs.All.{IsExplainedPair, MAX_TRIED, ap, arith, ◌-◌, ◌∙◌}
use Rattle.sdd_short_runs.proofs.TriedPairs.{left_more, tried_all, tried_more}
use Rattle.sdd_short_runs.proofs.finding.first_of_pairs.Goals as goal

pub members-preserved : goal.members-preserved
members-preserved c = (
  left_more c.args.all.now c.members.outer-index c.outer-item.result MAX_TRIED c.members.left _ c.in_ok-inner.inner.items (omega arith)
      c.outer-item.is c.members.invariant.0 c.in_ok-inner.ensures
      (c.saturating_sub-left.ensures ∙ ap (λ k. c.members.left - k) (c.len.ensures ∙ c.in_ok-inner.inner.ok.0)),
  tried_more (IsExplainedPair c.args.catalogue.now c.args.base.now.value c.args.txns.now) c.args.all.now c.members.outer-index c.outer-item.result MAX_TRIED
      c.members.left c.in_ok-inner.inner.items c.as_slice.result.now (omega arith) c.outer-item.is c.members.invariant.0 c.in_ok-inner.ensures
      c.as_slice.ensures.value (rw c.in-None.is at c.in_ok-short.ensures.none) c.members.invariant.1,
)

pub returns-clause-none : goal.returns-clause-none
returns-clause-none c =
    tried_all (IsExplainedPair c.args.catalogue.now c.args.base.now.value c.args.txns.now) c.args.all.now c.members.outer-index MAX_TRIED (omega arith)
    c.members.invariant.1
