use Rattle.sdd_short_runs.proofs.All.{IsExplainedPair, arith}
use Rattle.sdd_short_runs.proofs.TriedPairs.{around_all, around_more}
use Rattle.sdd_robust.proofs.Steps.{lent_at, lent_long}
use Rattle.sdd_short_runs.proofs.finding.first_around.Goals as goal

pub inner-preserved : goal.inner-preserved
inner-preserved c =
    let long = lent_long c.args.inner.now in
    around_more (IsExplainedPair c.args.catalogue.now c.args.base.now.value c.args.txns.now) c.args.outer.now c.args.inner.now c.inner.member-index
    c.member-item.result.now (omega (arith, long)) (lent_at c.args.inner.now c.inner.member-index c.member-item.result c.member-item.is)
    (rw c.in-None.is at c.in_ok-short.ensures.none) c.inner.invariant

pub returns-clause-none : goal.returns-clause-none
returns-clause-none c =
    let long = lent_long c.args.inner.now in
    around_all (IsExplainedPair c.args.catalogue.now c.args.base.now.value c.args.txns.now) c.args.outer.now c.args.inner.now c.inner.member-index
    (omega (arith, long)) c.inner.invariant
