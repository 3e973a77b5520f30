-- A transaction is taken, and nothing else is done.
use Rattle.sdd_tm.proofs.All.{Kept, Notes, State, Submit, [], ap, arith, refl, state_given, true, ◌++◌, ◌∙◌, ◌∷◌}
use Rattle.sdd_tm.proofs.Queueing.{class_queued, queues_alone}
use Rattle.sdd_tm.proofs.txn_module.TxnModule.queue_in_class.Goals as goal

pub returns-clause-law : goal.returns-clause-law
returns-clause-law c =
    let r = c.requires.queues in
    let number = c.args.number in
    let txn = c.args.txn.now in
    let old = c.args.self.now in
    let class = class_queued old r.0 r.2 txn c.args.class.0 r.3 r.5 in
    let taken = c.in_ok-submit.ensures.state ∙ ap (λ (k : Kept State). state_given c.args.class.0 number.0 txn k.value) c.self.view_is
    ∙ ap (λ k. state_given k number.0 txn old.value) class in
    let begun = c.in_ok-record.ensures ∙ ap (λ (n : Notes). record n { recs = n.recs ++ Submit number ∷ [] })
    c.draft-draft.ensures in
    queues_alone number txn old (record { live = true; value = c.submit.new.self }) c.record.new.self
    c.finish.result.recs c.finish.result.out (omega arith) refl taken begun c.finish.ensures.recs c.finish.ensures.out
