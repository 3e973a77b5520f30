use Rattle.sdd_advise.proofs.All.{Network, ap, arith, ◌<◌, ◌∙◌}
use Rattle.sdd_advise.proofs.Laid.{laid_long, laid_at, neighbours_named, neighbours_within}
use Rattle.sdd_advise.proofs.graph.Graph.neighbours.Goals as goal

pub index-requires : goal.index-requires
index-requires c =
    let long = laid_long c.self.inside.edges.items c.self.inside.nodes c.self.inside.neighbours.items c.self.invariant in
    let same = ap (λ (z : Network). z.nodes) c.self.view_is in
    omega (arith, long, same, c.requires)

pub returns-clause-list : goal.returns-clause-list
returns-clause-list c =
    let l : c.args.node < c.self.inside.nodes = rw (← c.self.view_is) at c.requires in
    rw (← c.self.view_is)
    (c.as_slice.ensures ∙ c.index.ensures ∙ laid_at c.self.inside.edges.items c.self.inside.nodes c.args.node c.self.inside.neighbours.items _ c.self.invariant l)

pub returns-clause-named : goal.returns-clause-named
returns-clause-named c =
    let l : c.args.node < c.self.inside.nodes = rw (← c.self.view_is) at c.requires in
    neighbours_named c.self.inside.edges.items c.self.inside.nodes c.args.node c.self.inside.neighbours.items c.as_slice.result.now c.self.invariant
    (c.as_slice.ensures ∙ c.index.ensures ∙ laid_at c.self.inside.edges.items c.self.inside.nodes c.args.node c.self.inside.neighbours.items _ c.self.invariant l)

pub returns-clause-within : goal.returns-clause-within
returns-clause-within c =
    let l : c.args.node < c.self.inside.nodes = rw (← c.self.view_is) at c.requires in
    rw (← c.self.view_is)
    (neighbours_within c.self.inside.edges.items c.self.inside.nodes c.args.node c.self.inside.neighbours.items c.as_slice.result.now c.self.invariant
    (c.as_slice.ensures ∙ c.index.ensures ∙ laid_at c.self.inside.edges.items c.self.inside.nodes c.args.node c.self.inside.neighbours.items _ c.self.invariant l))
