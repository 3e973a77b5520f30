use Rattle.sdd_blocks.proofs.All.{arith}
use Rattle.sdd_blocks.proofs.Trees.{joined_down, joined_up}
use Rattle.sdd_blocks.proofs.forest.Forest.join_roots.Goals as goal

pub returns-then-one-other-clause-joined : goal.returns-then-one-other-clause-joined
returns-then-one-other-clause-joined c =
    joined_down _ _ _ c.args.a c.args.b c.root-one.result c.root-other.result c.root-other.ensures.forest
    (omega (arith, c.root-one.ensures.within, c.root-one.ensures.length, c.root-other.ensures.length))
    (omega (arith, c.root-other.ensures.within, c.root-other.ensures.length))
    (c.root-other.ensures.kept _ c.root-one.ensures.top) c.root-other.ensures.top
    c.root-one.ensures.labels c.root-other.ensures.labels

pub returns-else-one-other-clause-joined : goal.returns-else-one-other-clause-joined
returns-else-one-other-clause-joined c =
    joined_up _ _ _ c.args.a c.args.b c.root-one.result c.root-other.result c.root-other.ensures.forest
    (omega (arith, c.root-one.ensures.within, c.root-one.ensures.length, c.root-other.ensures.length))
    (omega (arith, c.root-other.ensures.within, c.root-other.ensures.length))
    (c.root-other.ensures.kept _ c.root-one.ensures.top) c.root-other.ensures.top
    c.root-one.ensures.labels c.root-other.ensures.labels
