-- The pipes of the classes before the one at hand are there.
use Rattle.sdd_moments.proofs.All.{Input, [], map, watched_pipe, ◌≡◌}
use Rattle.sdd_moments.proofs.PipesBegun.{first_classes}
use Rattle.sdd_moments.proofs.watched_pipe.first_pipes_at.Given as goal

abbrev pub invariant-loop-class : goal.invariant-loop-class
invariant-loop-class l = (g : Input) → l.catalogue ≡ g.catalogue → l.pipes.items ≡ map (watched_pipe g []) (first_classes l.dm.0 l.class)
