use Rattle.sdd_advise.proofs.All.{All, All-more, Contains, refl, subst, take_all}
use Rattle.sdd_advise.proofs.cycle.has_all.Goals as goal

pub edges-preserved : goal.edges-preserved
edges-preserved c =
    All-more (Contains c.args.graph.now.edges) c.args.edges.now c.edges.edge-index _ c.edges-test.true c.edges.invariant
    (c.has.ensures.0 c.if-not-has.false)

pub returns : goal.returns
returns c = (
  (λ t. subst (All (Contains c.args.graph.now.edges)) (take_all c.edges.edge-index c.args.edges.now c.edges-test.false) c.edges.invariant),
  λ all. refl,
)
