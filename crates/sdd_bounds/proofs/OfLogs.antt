-- What is proved of histories, of permitted logs.
use Rattle.sdd_bounds.proofs.All.{AreErasOf, AreFewRejectedOfClasses, Committed, Eras, Input, IsCommitted, IsPermitted, IsSoundCatalogue, Log, cases_Bool, commit_after, false, history, inl, inr, is_rejected, keeps_rejections, keeps_rejects, keeps_starts, ◌≡◌}
use Rattle.sdd_bounds.proofs.ClassRejections.{few_of_class, reject_at}
use Rattle.sdd_bounds.proofs.ReadsProcessedOnce.{never_rejected}

pub few_rejected_of_classes : (g : Input) (log : Log) (eras : Eras) → IsSoundCatalogue g.catalogue → IsPermitted g log → AreErasOf g log eras
    → AreFewRejectedOfClasses (history log)
few_rejected_of_classes g log eras sound h are =
    few_of_class g.catalogue eras g.txns (history log) (keeps_starts g log eras sound h are) (keeps_rejections g log eras sound h are)
    (keeps_rejects g log eras sound h are) (commit_after g log sound h)
    (λ t ct rejected. never_rejected g log t sound h ct (reject_at (history log) t.start.txn t.start.number rejected))

pub committed_not_rejected : (g : Input) (log : Log) (t : Committed) → IsSoundCatalogue g.catalogue → IsPermitted g log → IsCommitted (history log) t
    → is_rejected (history log) t.start.txn t.start.number ≡ false
committed_not_rejected g log t sound h ct =
    elim (cases_Bool (is_rejected (history log) t.start.txn t.start.number)) [
      | inl rejected ↦ absurd (never_rejected g log t sound h ct (reject_at (history log) t.start.txn t.start.number rejected))
      | inr not_rejected ↦ not_rejected
    ]
