use Rattle.std.proofs.Common.{arith}
use Rattle.std.proofs.lemmas.Grind.{common_steps}
use Rattle.std.proofs.Common.{◌∙◌}
use Rattle.sdd_robust.proofs.PlaceSets.{still_lacks}
use Rattle.sdd_robust.proofs.Rests.{flood_goes_on}
use Rattle.sdd_robust.proofs.conflicts.Conflicts.without_reached.Goals as goal

pub reached-preserved : goal.reached-preserved
reached-preserved c =
    let step = rw c.reached.invariant.0 at (c.in_ok-spread-in-Some.ensures.spread c.if-branch.false) in (
      c.spread.ensures.same ∙ c.reached.invariant.0,
      flood_goes_on c.args.self.now c.args.left.now c.args.ends.now c.reached.rest c.spread.new.rest c.reached.queue.items c.pop_front.new.self.items
          c.spread.new.queue.items c.in-Some.at c.reached.invariant.1 c.in-Some.ensures.items step,
      still_lacks c.reached.rest c.spread.new.rest step.fewer c.args.start c.reached.invariant.2,
    )

pub returns-in_err-push_back-clause-same : goal.returns-in_err-push_back-clause-same
returns-in_err-push_back-clause-same c = grind (arith, common_steps)

pub returns-in_err-rest-clause-same : goal.returns-in_err-rest-clause-same
returns-in_err-rest-clause-same c = grind (arith, common_steps)

pub returns-in_err-spread-in-Some-clause-same : goal.returns-in_err-spread-in-Some-clause-same
returns-in_err-spread-in-Some-clause-same c = grind (arith, common_steps)

pub returns-then-branch-clause-same : goal.returns-then-branch-clause-same
returns-then-branch-clause-same c = grind (arith, common_steps)

pub returns-in-None-clause-same : goal.returns-in-None-clause-same
returns-in-None-clause-same c = grind (arith, common_steps)

pub returns-in-None-pop_front-clause-same : goal.returns-in-None-pop_front-clause-same
returns-in-None-pop_front-clause-same c = grind (arith, common_steps)
