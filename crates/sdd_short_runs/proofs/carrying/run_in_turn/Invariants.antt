use Rattle.sdd_short_runs.proofs.All.{after_effects, drop, effects_in_turn, lent_txns, ◌++◌, ◌≡◌}
use Rattle.sdd_short_runs.proofs.carrying.run_in_turn.Given as goal

-- the effects so far, with those of the transactions that are left
abbrev pub invariant-txns : goal.invariant-txns
invariant-txns l =
    l.effects.items ++ effects_in_turn l.catalogue (after_effects l.catalogue l.base.value l.effects.items) (lent_txns (drop l.txn-index l.txns))
    ≡ effects_in_turn l.catalogue l.base.value (lent_txns l.txns)
