use Rattle.sdd_short_runs.proofs.All.{FitsTxn, lent_txns}
use Rattle.sdd_short_runs.proofs.Kept.{inner_fit}
use Rattle.sdd_short_runs.proofs.finding.first_of.Goals as goal

pub is_counterexample-requires-clause-inner : goal.is_counterexample-requires-clause-inner
is_counterexample-requires-clause-inner c =
    inner_fit (FitsTxn c.args.catalogue.now) c.args.txns.now c.in-Some.short.outer.now (lent_txns c.in-Some.short.inner.items)
    (rw c.in-Some.is at c.in_ok-short.ensures) c.requires.fit

pub returns-then-branch : goal.returns-then-branch
returns-then-branch c =
    c.in_ok-is_counterexample-in-Some.ensures.found c.if-branch.true c.args.txns.now (rw c.in-Some.is at c.in_ok-short.ensures)
