-- What is left of the classes is still to be reported.
use Rattle.sdd_watch.proofs.All.{drop, flat_map, questions_in, ◌++◌, ◌≡◌}
use Rattle.sdd_watch.proofs.states.open_questions.Given as goal

abbrev pub invariant-loop-run : goal.invariant-loop-run
invariant-loop-run l = l.questions.items ++ flat_map questions_in (drop l.run-index l.runs) ≡ flat_map questions_in l.runs
