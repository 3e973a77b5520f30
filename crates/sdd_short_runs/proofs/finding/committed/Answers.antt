use Rattle.sdd_short_runs.proofs.All.{ap, effects_in_turn, lent_txns, sym, ◌∙◌}
use Rattle.sdd_short_runs.proofs.Counterexamples.{are_committed, not_committed}
use Rattle.sdd_short_runs.proofs.finding.committed.Goals as goal

pub returns-clause-effects : goal.returns-clause-effects
returns-clause-effects c =
    are_committed c.args.catalogue.now c.args.base.now.value c.args.short.now.outer.now (lent_txns c.args.short.now.inner.items) c.in_ok-outer.outer
    c.in_ok-effects.effects.items _ c.in_ok-outer.ensures
    (c.in_ok-effects.ensures ∙ ap (λ t. effects_in_turn c.args.catalogue.now c.args.base.now.value (lent_txns t)) c.as_slice.ensures.value) c.in_ok-push.ensures.items
    (sym (rw c.as_slice-2.ensures.value at c.if-not-all_commit.ensures))

pub returns-then-not-all_commit-clause-none : goal.returns-then-not-all_commit-clause-none
returns-then-not-all_commit-clause-none c =
    not_committed c.args.catalogue.now c.args.base.now.value c.args.short.now.outer.now (lent_txns c.args.short.now.inner.items) c.in_ok-outer.outer
    c.in_ok-effects.effects.items c.in_ok-outer.ensures
    (c.in_ok-effects.ensures ∙ ap (λ t. effects_in_turn c.args.catalogue.now c.args.base.now.value (lent_txns t)) c.as_slice.ensures.value)
    (sym (rw c.as_slice-2.ensures.value at c.if-not-all_commit.ensures))
