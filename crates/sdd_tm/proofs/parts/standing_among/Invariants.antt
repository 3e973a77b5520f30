-- The classes before the place at hand don't have the transaction.
use Rattle.sdd_tm.proofs.All.{ClassState, map, standing_among, ◌≡◌}
use Rattle.sdd_tm.proofs.Among.{standing_from}
use Rattle.sdd_tm.proofs.parts.standing_among.Given as goal

abbrev pub invariant-loop-run : goal.invariant-loop-run
invariant-loop-run l = standing_among (map (λ (k : ClassState). k.line) l.runs) l.number.0 ≡ standing_from l.runs l.run-index l.number.0
