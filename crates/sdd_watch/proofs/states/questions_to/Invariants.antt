-- The questions so far are those of the ASKs so far.
use Rattle.sdd_watch.proofs.All.{map, question_by, ◌≡◌}
use Rattle.sdd_watch.proofs.states.questions_to.Given as goal

abbrev pub invariant-asks : goal.invariant-asks
invariant-asks l = record {
  can : goal.iterator-asks.can_next l.asked-iterator;
  ends : goal.iterator-asks.is_finite l.asked-iterator;
  questions : l.questions.items ≡ map (question_by l.class.0) (map (λ a. a.now) l.yielded);
}
