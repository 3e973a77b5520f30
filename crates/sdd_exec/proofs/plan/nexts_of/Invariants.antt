use Rattle.sdd_exec.proofs.All.{AreMade, AreNexts}
use Rattle.sdd_exec.proofs.plan.nexts_of.Given as goal

abbrev pub invariant-loop-part : goal.invariant-loop-part
invariant-loop-part l =
    record {
      made : AreMade l.parts l.conds l.made.items;
      nexts : AreNexts l.parts l.conds l.taken l.nexts.items;
    }
