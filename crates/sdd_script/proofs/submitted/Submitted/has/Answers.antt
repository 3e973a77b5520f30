use Rattle.sdd_script.proofs.All.{TxnNo, ap, arith, list_any, sym, ◌==◌, ◌∙◌}
use Rattle.sdd_script.proofs.Submissions.{none_later}
use Rattle.sdd_script.proofs.submitted.Submitted.has.Goals as goal

pub returns-then-self-txn : goal.returns-then-self-txn
returns-then-self-txn c =
    sym (none_later c.self.inside.most c.args.txn.0 c.self.inside.numbers.items c.self.invariant (omega (arith, c.if-self-txn.true)))
    ∙ ap (list_any (λ (t : TxnNo). t.0 == c.args.txn.0)) c.self.view_is
