use Rattle.sdd_protocol.proofs.All.{cond_of, map, numbers_to, ◌-◌, ◌≡◌}
use Rattle.sdd_protocol.proofs.undeclared_attempt.conditions_on.Given as goal

-- the conditions on the classes so far
abbrev pub invariant-loop-class : goal.invariant-loop-class
invariant-loop-class l = l.conds.items ≡ map (λ c. cond_of c l.own.0 l.frags) (numbers_to (l.class - 1))
