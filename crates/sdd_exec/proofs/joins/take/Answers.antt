use Rattle.sdd_exec.proofs.Complete.{complete_step}
use Rattle.sdd_exec.proofs.joins.take.Goals as goal

pub returns-clause-complete : goal.returns-clause-complete
returns-clause-complete c = λ few.
    rw (c.in_ok-kept.ensures few, c.in_ok-push.ensures.items, c.deref-2.ensures.value, c.deref-3.ensures.value)
    (complete_step c.args.parts.now c.args.conds.now c.args.reached.taken.items c.args.reached.kept.items c.args.part c.requires.part c.requires.complete)
