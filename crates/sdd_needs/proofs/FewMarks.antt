-- A log within the limits has few marks.
use Rattle.sdd_needs.proofs.All.{IsWithin, Log, MAX_RUN_EVENTS, [], arith, marks, nat_tests, ◌∷◌, ◌≤◌}

pub marks_few : (log : Log) → IsWithin log → marks log ≤ MAX_RUN_EVENTS
marks_few [] h = omega arith
marks_few (e ∷ log) h = grind (arith, nat_tests, marks, (marks_few log h.1))
