use Rattle.sdd_short_runs.proofs.All.{All, Database, IsExplainedPair, IsShortCounterexample, Kept, ap, lent_txns, subst, tried_pairs}
use Rattle.std.specs.Prelude.{IfNone, IfOk, IfSome}
use Rattle.sdd_short_runs.proofs.finding.find_counterexample.Goals as goal

pub returns-clause-found : goal.returns-clause-found
returns-clause-found c =
    subst (λ db. IfOk c.first_over.result (λ found. IfSome found (λ s. IsShortCounterexample c.args.catalogue.now c.args.txns.now db s.outer.now (lent_txns s.inner.items))))
    (ap (λ (kept : Kept Database). kept.value) c.in_ok-base.ensures) c.first_over.ensures.found

pub returns-clause-none : goal.returns-clause-none
returns-clause-none c =
    subst (λ db. IfOk c.first_over.result (λ found. IfNone found (All (IsExplainedPair c.args.catalogue.now db c.args.txns.now) (tried_pairs c.args.all.now))))
    (ap (λ (kept : Kept Database). kept.value) c.in_ok-base.ensures) c.first_over.ensures.none
