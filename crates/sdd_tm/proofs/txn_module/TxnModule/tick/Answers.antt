-- Time passes on the clock alone.
use Rattle.sdd_tm.proofs.All.{Kept, State, ap, ticked, ◌∙◌}
use Rattle.sdd_tm.proofs.Calls.{tick_represents}
use Rattle.sdd_tm.proofs.Queueing.{tick_queues}
use Rattle.sdd_tm.proofs.txn_module.TxnModule.tick.Goals as goal

pub returns-clause-law : goal.returns-clause-law
returns-clause-law c =
    tick_represents c.args.self.now (record { live = c.self.inside.live; value = c.tick.new.self }) c.args.n
    (ap (λ st. record { live = c.self.inside.live; value = st }) c.tick.ensures
    ∙ ap (λ (k : Kept State). record k { value = record k.value { clock = ticked k.value.clock c.args.n } })
    c.self.view_is)

pub returns-clause-queues : goal.returns-clause-queues
returns-clause-queues c =
    tick_queues c.args.self.now (record { live = c.self.inside.live; value = c.tick.new.self }) c.args.n
    (ap (λ st. record { live = c.self.inside.live; value = st }) c.tick.ensures
    ∙ ap (λ (k : Kept State). record k { value = record k.value { clock = ticked k.value.clock c.args.n } })
    c.self.view_is)
