use Rattle.sdd_blocks.proofs.All.{List, [], ap, arith, range_with_len, sym, ℕ, ◌++◌, ◌∙◌, ◌∷◌, ◌≡◌}
use Rattle.sdd_blocks.proofs.Trees.{forest-singles, roots-singles, length-singles, singles-push}
use Rattle.sdd_blocks.proofs.forest.Forest.new.Goals as goal

singles : (node nodes : ℕ) (parents : List ℕ) → node ≡ nodes → parents ≡ range_with_len 0 node
    → parents ≡ range_with_len 0 nodes
singles node nodes parents n e = e ∙ ap (λ z. range_with_len 0 z) n

pub loop-node-preserved : goal.loop-node-preserved
loop-node-preserved c = c.in_ok-push.ensures.items ∙ ap (λ z. z ++ c.loop-node.node ∷ []) c.loop-node.invariant ∙ sym (singles-push c.loop-node.node)

pub returns-clause-length : goal.returns-clause-length
returns-clause-length c =
    rw (singles c.loop-node.node c.args.nodes c.loop-node.parents.items (omega arith) c.loop-node.invariant) (length-singles c.args.nodes)

pub returns-clause-forest : goal.returns-clause-forest
returns-clause-forest c =
    rw (singles c.loop-node.node c.args.nodes c.loop-node.parents.items (omega arith) c.loop-node.invariant) (forest-singles c.args.nodes)

pub returns-clause-roots : goal.returns-clause-roots
returns-clause-roots c =
    rw (singles c.loop-node.node c.args.nodes c.loop-node.parents.items (omega arith) c.loop-node.invariant) (roots-singles c.args.nodes)
