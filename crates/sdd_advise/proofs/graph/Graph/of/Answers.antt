use Rattle.sdd_advise.proofs.All.{ap, length, map, neighbours, range_with_len, ◌*◌, ◌∙◌}
use Rattle.sdd_advise.proofs.Laid.{laid_out}
use Rattle.sdd_advise.proofs.graph.Graph.of.Goals as goal

pub invariant_of-result : goal.invariant_of-result
invariant_of-result c =
    laid_out c.args.catalogue.now (length c.args.catalogue.now.classes) (2 * c.classes-nodes.result) c.in_ok-edges.edges.items c.in_ok-neighbours.neighbours.items
    c.in_ok-edges.ensures.edges c.in_ok-edges.ensures.named c.in_ok-edges.ensures.nodes (ap (λ z. 2 * z) c.classes-nodes.ensures)
    (c.in_ok-neighbours.ensures ∙ ap (λ z. map (neighbours z) (range_with_len 0 (2 * c.classes-nodes.result))) c.deref.ensures.value)
