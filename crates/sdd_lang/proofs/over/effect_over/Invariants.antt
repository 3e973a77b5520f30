use Rattle.sdd_lang.proofs.All.{drop, effect_after, effect_over, ◌*◌, ◌≡◌, ◌≤◌}
use Rattle.sdd_lang.proofs.over.effect_over.Given as goal

-- few uses so far; to go on with the statements that are left is to take all from the start
abbrev pub invariant-statements : goal.invariant-statements
invariant-statements g l =
    (l.run.before ≤ 6 * l.statement-index)
    × (effect_after l.catalogue (g.S.Source.found l.source) (g.S.Source.chosen l.source) l.run (drop l.statement-index l.statement-items)
    ≡ effect_over l.catalogue (g.S.Source.found l.source) (g.S.Source.chosen l.source) l.txn)
