-- Classes are put in force, and push the clock.
use Rattle.sdd_tm.proofs.All.{Era, Kept, State, ap, pushed, ◌∙◌}
use Rattle.sdd_tm.proofs.Calls.{redeclared_represents}
use Rattle.sdd_tm.proofs.Queueing.{redeclared_queues}
use Rattle.sdd_tm.proofs.txn_module.TxnModule.redeclare.Goals as goal

pub returns-clause-law : goal.returns-clause-law
returns-clause-law c =
    let era : Era = record { catalogue = c.args.catalogue.now; table = c.args.table.now } in
    let t = c.args.t.0 in
    let live = c.self.inside.live in
    redeclared_represents c.args.self.now (record { live = live; value = c.redeclare.new.self }) era t
    (ap (λ st. record { live = live; value = st }) c.redeclare.ensures
    ∙ ap (λ (k : Kept State). record k { value = record k.value { era = era; clock = pushed k.value.clock t } })
    c.self.view_is)

pub returns-clause-queues : goal.returns-clause-queues
returns-clause-queues c =
    let era : Era = record { catalogue = c.args.catalogue.now; table = c.args.table.now } in
    let t = c.args.t.0 in
    let live = c.self.inside.live in
    redeclared_queues c.args.self.now (record { live = live; value = c.redeclare.new.self }) era t
    (ap (λ st. record { live = live; value = st }) c.redeclare.ensures
    ∙ ap (λ (k : Kept State). record k { value = record k.value { era = era; clock = pushed k.value.clock t } })
    c.self.view_is)
