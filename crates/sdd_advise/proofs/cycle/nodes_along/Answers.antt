use Rattle.sdd_advise.proofs.All.{sym, ◌∙◌}
use Rattle.sdd_advise.proofs.Rounds.{walk_more, walk_stops, walk_done}
use Rattle.sdd_advise.proofs.cycle.nodes_along.Goals as goal

pub edges-preserved : goal.edges-preserved
edges-preserved c =
    walk_more c.args.start c.args.edges.now c.edges.edge-index c.edges.at c.in-Some.next _ c.edges.nodes.items _ c.edges-test.true
    c.edges.invariant (sym c.other_end.ensures ∙ c.in-Some.is) c.in_ok-push-in-Some.ensures.items

pub returns-in-None : goal.returns-in-None
returns-in-None c =
    walk_stops c.args.start c.args.edges.now c.edges.edge-index c.edges.at _ c.edges.nodes.items c.edges-test.true c.edges.invariant
    (sym c.other_end.ensures ∙ c.in-None.is)

pub returns : goal.returns
returns c = walk_done c.args.start c.args.edges.now c.edges.edge-index c.edges.at c.edges.nodes.items c.edges-test.false c.edges.invariant
