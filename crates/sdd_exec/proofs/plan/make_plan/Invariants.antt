use Rattle.sdd_exec.proofs.All.{AreMade, AreNodes}
use Rattle.sdd_exec.proofs.plan.make_plan.Given as goal

abbrev pub invariant-loop-place : goal.invariant-loop-place
invariant-loop-place l =
    record {
      made : AreMade l.parts l.conds l.made.items;
      nodes : AreNodes l.parts l.conds l.out l.nodes.items;
    }
