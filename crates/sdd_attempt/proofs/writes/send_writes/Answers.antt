use Rattle.sdd_attempt.proofs.All.{write_of}
use Rattle.sdd_attempt.proofs.Noting.{sent_to}
use Rattle.sdd_attempt.proofs.writes.send_writes.Goals as goal

pub loop-number-preserved : goal.loop-number-preserved
loop-number-preserved c =
    sent_to (write_of c.args.catalogue.now c.args.attempt.class.0 c.args.attempt.ts.0 c.args.attempt.txn.0
    c.args.changes.now) c.loop-number.number c.args.draft.now c.loop-number.draft c.send_write.new.draft
    c.loop-number.auto.number c.loop-number.invariant c.in_ok-send_write.ensures
