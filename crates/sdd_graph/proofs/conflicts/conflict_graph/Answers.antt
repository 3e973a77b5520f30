use Rattle.sdd_graph.proofs.All.{All-same, IsEdgeOf, JoinsNodes, NamesClasses, ap, arith, conflict_graph, length, ◌≡◌, ◌≤◌}
use Rattle.sdd_graph.proofs.Known.{edges_known, edges_named, edges_join}
use Rattle.sdd_graph.proofs.Few.{few_edges}
use Rattle.sdd_graph.proofs.conflicts.conflict_graph.Goals as goal

pub returns-clause-known : goal.returns-clause-known
returns-clause-known c = All-same (IsEdgeOf c.args.catalogue.now) _ (conflict_graph c.args.catalogue.now) c.in_ok-edges.ensures (edges_known c.args.catalogue.now)

pub returns-clause-named : goal.returns-clause-named
returns-clause-named c =
    All-same NamesClasses _ (conflict_graph c.args.catalogue.now) c.in_ok-edges.ensures (edges_named c.args.catalogue.now c.law_is_sound.ensures.whole)

pub returns-clause-nodes : goal.returns-clause-nodes
returns-clause-nodes c =
    All-same (JoinsNodes (length c.args.catalogue.now.classes)) _ (conflict_graph c.args.catalogue.now) c.in_ok-edges.ensures (edges_join c.args.catalogue.now)

pub returns-clause-few : goal.returns-clause-few
returns-clause-few c =
    let few : length (conflict_graph c.args.catalogue.now) ≤ 1048576 = few_edges c.args.catalogue.now c.law_is_sound.ensures.whole in
    let same : length c.in_ok-edges.edges.items ≡ length (conflict_graph c.args.catalogue.now) = ap length c.in_ok-edges.ensures in
    omega arith
