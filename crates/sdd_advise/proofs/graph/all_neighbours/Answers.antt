use Rattle.sdd_advise.proofs.All.{◌∙◌}
use Rattle.sdd_advise.proofs.Laid.{laid_more}
use Rattle.sdd_advise.proofs.graph.all_neighbours.Goals as goal

pub nodes-preserved : goal.nodes-preserved
nodes-preserved c =
    laid_more c.args.edges.now c.nodes.lists.items _ c.nodes.node c.from_vec.result c.nodes.invariant (c.from_vec.ensures ∙ c.in_ok-list.ensures)
    c.in_ok-push.ensures.items
