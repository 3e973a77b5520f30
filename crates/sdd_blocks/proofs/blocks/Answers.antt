use Rattle.sdd_blocks.proofs.All.{AreBlocks, AreNumbered, Global, IfOk-weaker, Vec, ap, arith, length, ℕ, ◌∙◌}
use Rattle.sdd_blocks.proofs.Classes.{blocks_from_marks, pairs_within}
use Rattle.sdd_blocks.proofs.blocks.Goals as goal

pub components-requires : goal.components-requires
components-requires c =
    rw c.deref.ensures.value
    (pairs_within c.args.edges.now c.in_ok-pairs.pairs.items c.in_ok-pairs.ensures (length c.args.edges.now) (omega arith))

pub marks-requires-clause-pairs : goal.marks-requires-clause-pairs
marks-requires-clause-pairs c =
    rw c.deref-2.ensures.value
    (pairs_within c.args.edges.now c.in_ok-pairs.pairs.items c.in_ok-pairs.ensures _ (ap length c.deref-3.ensures.value ∙ c.in_ok-labels.ensures.length))

pub returns : goal.returns
returns c =
    let components = rw c.deref.ensures.value at c.in_ok-labels.ensures.components in
    let marked = rw c.deref-2.ensures.value at (rw c.deref-3.ensures.value at c.in_ok-marks.ensures.marked) in
    IfOk-weaker c.numbers.result (λ (found : Vec ℕ Global). AreNumbered c.deref-4.result.now found.items)
    (λ (found : Vec ℕ Global). AreBlocks c.args.edges.now found.items)
    (λ (found : Vec ℕ Global) numbered.
    blocks_from_marks c.args.edges.now c.in_ok-pairs.pairs.items c.in_ok-pairs.ensures c.in_ok-labels.labels.items components c.in_ok-marks.marks.items
    c.in_ok-labels.ensures.length marked found.items (rw c.deref-4.ensures.value at numbered))
    c.numbers.ensures
