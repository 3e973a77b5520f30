-- The bound of the clock.
use Rattle.sdd_tm.proofs.All.{Kept, State, ap, bound_of, ◌∙◌}
use Rattle.sdd_tm.proofs.Queueing.{bound_is}
use Rattle.sdd_tm.proofs.txn_module.TxnModule.bound.Goals as goal

pub returns : goal.returns
returns c = λ setting log q.
    bound_is c.args.self.now setting log c.bound.result.0 (c.bound.ensures ∙ ap (λ (k : Kept State). bound_of k.value.clock) c.self.view_is) q
