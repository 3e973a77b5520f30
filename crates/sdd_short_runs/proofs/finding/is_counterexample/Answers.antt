use Rattle.sdd_short_runs.proofs.All.{lent_txns}
use Rattle.sdd_short_runs.proofs.Counterexamples.{none_explains}
use Rattle.sdd_short_runs.proofs.Replies.{never_commits, of_effects}
use Rattle.sdd_short_runs.proofs.finding.is_counterexample.Goals as goal

pub returns-in_ok-none-in-Some-clause-found : goal.returns-in_ok-none-in-Some-clause-found
returns-in_ok-none-in-Some-clause-found c = λ is work of.
    let committed = rw c.in-Some.is at c.in_ok-effects.ensures.effects in
    none_explains c.args.catalogue.now c.args.base.now.value c.args.short.now.outer.now (lent_txns c.args.short.now.inner.items) c.in-Some.effects.items
    committed.are committed.commit work of (rw c.as_slice.ensures.value at (c.in_ok-none-in-Some.ensures.none is))

pub returns-in_ok-none-in-Some-clause-explained : goal.returns-in_ok-none-in-Some-clause-explained
returns-in_ok-none-in-Some-clause-explained c = λ is ok.
    let committed = rw c.in-Some.is at c.in_ok-effects.ensures.effects in
    of_effects c.args.catalogue.now c.args.base.now.value c.args.short.now.outer.now (lent_txns c.args.short.now.inner.items) c.in-Some.effects.items
    committed.are (rw c.as_slice.ensures.value at (c.in_ok-none-in-Some.ensures.order is))

pub returns-in-None-clause-explained : goal.returns-in-None-clause-explained
returns-in-None-clause-explained c = λ is ok. never_commits (rw c.in-None.is at c.in_ok-effects.ensures.none) ok
