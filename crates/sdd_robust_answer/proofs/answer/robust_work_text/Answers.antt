use Rattle.std.proofs.lemmas.Result.{IfOk-weaker}
use Rattle.sdd_robust_answer.specs.Answers.IsRobustAnswer.{robust}
use Rattle.sdd_robust_answer.proofs.answer.robust_work_text.Goals as goal

pub pivot_text-requires-clause-pivot : goal.pivot_text-requires-clause-pivot
pivot_text-requires-clause-pivot c = rw c.in-Some.is at c.in_ok-find_pivot.ensures.pivot

pub returns-in-None : goal.returns-in-None
returns-in-None c =
    IfOk-weaker c.robust.result _ _ (λ text spelled. robust (rw c.in-None.is at c.in_ok-find_pivot.ensures.robust) spelled) c.robust.ensures
