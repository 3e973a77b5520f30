use Rattle.sdd_advise.proofs.All.{All, All-contains, All-more, both_ways, false≢true, refl, subst, take_all, ◌≢◌}
use Rattle.sdd_advise.proofs.graph.has_edge.Goals as goal

pub others-preserved : goal.others-preserved
others-preserved c =
    All-more (λ other. other ≢ c.args.edge.now) c.args.edges.now c.others.other-index _ c.others-test.true c.others.invariant
    (λ e. both_ways _ c.if-is_same.false (c.is_same.ensures.1 e))

pub returns : goal.returns
returns c = (
  (λ t. absurd (false≢true t)),
  λ m.
      absurd (All-contains (λ other. other ≢ c.args.edge.now) c.args.edges.now c.args.edge.now
      (subst (λ z. All (λ other. other ≢ c.args.edge.now) z) (take_all c.others.other-index c.args.edges.now c.others-test.false) c.others.invariant) m refl),
)
