use Rattle.sdd_protocol.proofs.All.{All, subst, sym, ◌*◌, ◌<◌, ◌∙◌}
use Rattle.sdd_protocol.proofs.MadeTable.{ends_below}
use Rattle.sdd_protocol.proofs.making.block_numbers.Goals as goal

pub blocks-requires-clause-ends : goal.blocks-requires-clause-ends
blocks-requires-clause-ends c =
    subst (λ z. All (λ p. (p.0 < 2 * c.args.classes) × (p.1 < 2 * c.args.classes)) z) (sym (c.deref.ensures.value ∙ c.in_ok-nodes.ensures))
    (ends_below c.args.classes c.args.edges.now c.requires.nodes)
