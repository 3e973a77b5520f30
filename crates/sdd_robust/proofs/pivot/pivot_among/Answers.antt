use Rattle.sdd_robust.proofs.ByRelation.{none_missed}
use Rattle.sdd_robust.proofs.pivot.pivot_among.Goals as goal

pub returns-then-not-misses_one-clause-none : goal.returns-then-not-misses_one-clause-none
returns-then-not-misses_one-clause-none c =
    none_missed c.args.all.now c.args.pivot.now.accesses (rw c.requires.changes at (rw c.as_slice.ensures at c.if-not-misses_one.ensures))
