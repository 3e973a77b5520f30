use Rattle.sdd_lang.proofs.All.{arith, common_steps, filter_map-append}
use Rattle.sdd_lang.proofs.usage.restrictions_of.Goals.{in-Some+in_ok-push-in-Some, in-None}
use Rattle.sdd_lang.proofs.usage.restrictions_of.Goals as goal

pub loop-cond-preserved : goal.loop-cond-preserved
loop-cond-preserved c =
    elim c.match-branch-3.branch [
      | in-Some+in_ok-push-in-Some w ↦ grind (arith, common_steps, filter_map-append)
      | in-None w ↦ grind (arith, common_steps, filter_map-append)
    ]

pub returns : goal.returns
returns c = grind (arith, common_steps)
