-- The pipes of the data modules before the one at hand are there.
use Rattle.sdd_moments.proofs.All.{Input, [], map, numbers_to, watched_pipes, ◌-◌, ◌≡◌}
use Rattle.sdd_moments.proofs.watched_pipe.first_pipes.Given as goal

abbrev pub invariant-loop-number : goal.invariant-loop-number
invariant-loop-number l = (g : Input) → l.catalogue ≡ g.catalogue → l.pipes.items ≡ map (watched_pipes g []) (numbers_to (l.number - 1))
