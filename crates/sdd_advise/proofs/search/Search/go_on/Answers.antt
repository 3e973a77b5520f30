use Rattle.sdd_advise.proofs.All.{Passes, both_ways, reached_at, refl, subst, sym, ◌+◌}
use Rattle.sdd_advise.proofs.Going.{IsGoing, edge_left, edge_taken, all_taken}
use Rattle.sdd_advise.proofs.search.Search.go_on.Goals.{then-passes+in_ok-reach, else-passes}
use Rattle.sdd_advise.proofs.search.Search.go_on.Goals as goal

pub neighbours-preserved : goal.neighbours-preserved
neighbours-preserved c =
    let edges = c.args.graph.now.edges in
    let nodes = c.args.graph.now.nodes in
    let place = c.args.place in
    let node = c.index.result.now.node in
    let first = (reached_at c.args.self.now.reached.items 0).node in
    let list = c.neighbours-neighbour-items.result.now in
    let count = c.neighbours.neighbour-index in
    let is = c.neighbours-neighbour-items.ensures.list in
    elim c.if-passes.branch [
      | then-passes+in_ok-reach w ↦
          subst (λ z. IsGoing edges (Passes c.args.without.now) nodes place node first list (count + 1) z) (sym w.self-is)
          (edge_taken edges (Passes c.args.without.now) nodes place node first list is count _ _ c.neighbours.self w.reach.new.self c.neighbours.invariant c.neighbours-test.true
          c.neighbours-neighbour-items.ensures.within refl refl (c.passes.ensures.0 w.if-passes.true)
          w.in_ok-reach.ensures.known w.in_ok-reach.ensures.places w.in_ok-reach.ensures.reached)
      | else-passes w ↦
          subst (λ z. IsGoing edges (Passes c.args.without.now) nodes place node first list (count + 1) z) (sym w.self-is)
          (edge_left edges (Passes c.args.without.now) nodes place node first list is count _ c.neighbours.self c.neighbours.invariant c.neighbours-test.true
          (λ p. both_ways _ w.if-passes.false (c.passes.ensures.1 p)))
    ]

pub returns-clause-searching : goal.returns-clause-searching
returns-clause-searching c =
    all_taken c.args.graph.now.edges (Passes c.args.without.now) c.args.graph.now.nodes c.args.place c.index.result.now.node
    (reached_at c.args.self.now.reached.items 0).node c.neighbours-neighbour-items.result.now c.neighbours-neighbour-items.ensures.list
    c.neighbours.neighbour-index c.neighbours.self c.neighbours.invariant c.neighbours-test.false
