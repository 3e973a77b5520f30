use Rattle.std.proofs.Common.{arith}
use Rattle.std.proofs.lemmas.Grind.{common_steps}
use Rattle.sdd_copy.proofs.Uses.{frozen_is_held}
use Rattle.sdd_copy.proofs.space.Space.freeze.Goals as goal

pub returns-clause-contents : goal.returns-clause-contents
returns-clause-contents c = λ xs.
    frozen_is_held c.args.copies.now.value xs c.args.ts.0 c.args.uses.now
    c.loop-one.frozen.items c.loop-one.one-index c.loop-one.invariant c.loop-one-test.false

pub loop-one-preserved : goal.loop-one-preserved
loop-one-preserved c = grind (arith, common_steps)

pub returns-clause-rows : goal.returns-clause-rows
returns-clause-rows c = grind (arith, common_steps)
