use Rattle.sdd_blocks.proofs.All.{Global, Vec, inl, inr, slice_get-get_or, ℕ}
use Rattle.sdd_blocks.proofs.Results.{IfOk-both_then}
use Rattle.sdd_blocks.proofs.Labels.{no_edges_yet, edge_left_out, edge_joined, components_done}
use Rattle.sdd_blocks.proofs.components.components.Goals.{then-a-without+then-b-without, else-a-without, else-a-without-via-then-a-without+else-b-without, else-a-without-via-else-a-without}
use Rattle.sdd_blocks.proofs.components.components.Goals as goal

pub loop-edge-init : goal.loop-edge-init
loop-edge-init c =
    no_edges_yet c.args.edges.now c.args.without c.args.nodes _ c.in_ok-forest.ensures.length c.in_ok-forest.ensures.forest c.in_ok-forest.ensures.roots

pub loop-edge-preserved : goal.loop-edge-preserved
loop-edge-preserved c =
    let edges = c.args.edges.now in
    let at = c.loop-edge.edge-index in
    let here = slice_get-get_or edges at (0, 0) c.loop-edge-test.true in
    elim c.if-a-without.branch [
      | then-a-without+then-b-without w ↦
          rw w.forest-is (edge_joined edges c.args.without c.args.nodes _ _ at _ _ c.loop-edge.invariant c.requires here w.if-a-without.true w.if-b-without.true
          w.join.ensures.length w.join.ensures.forest w.join.ensures.joined)
      | else-a-without w ↦
          rw w.forest-is (edge_left_out edges c.args.without c.args.nodes _ at _ _ c.loop-edge.invariant here
          (elim w.else-a-without.branch [
            | else-a-without-via-then-a-without+else-b-without x ↦ inr x.if-b-without.false
            | else-a-without-via-else-a-without x ↦ inl x.if-a-without.false
          ]))
    ]

pub returns-clause-components : goal.returns-clause-components
returns-clause-components c =
    IfOk-both_then _ c.into_labels.ensures.below c.into_labels.ensures.labels
    (λ (found : Vec ℕ Global) p q. (components_done c.args.edges.now c.args.without c.args.nodes _
    c.loop-edge.edge-index found.items c.loop-edge.invariant c.loop-edge-test.false p q).1)
