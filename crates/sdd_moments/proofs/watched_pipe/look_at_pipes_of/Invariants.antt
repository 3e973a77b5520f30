-- The pipes before the place at hand are looked at, and the others stand as they stood.
use Rattle.sdd_moments.proofs.All.{Calm, D, Input, IsBetween, IsSiteOf, Log, arrived, dm_no, map, pipes_at_module, watched_pipe, ℕ, ◌≡◌}
use Rattle.sdd_moments.proofs.PipesVisited.{AsTheyStood, PipesSoFar}
use Rattle.sdd_moments.proofs.watched_pipe.look_at_pipes_of.Given as goal

abbrev pub invariant-loop-pipe : goal.invariant-loop-pipe
invariant-loop-pipe l = record {
  rest : AsTheyStood l.pipe-index l.fn.pipes l.pipes;
  so_far : (g : Input) (old new : Log) (d : ℕ) → Calm l.world g new → IsBetween g old new → l.arrived ≡ arrived g old new → IsSiteOf g (D (dm_no d))
      → l.fn.pipes ≡ map (watched_pipe g old) (pipes_at_module g d) → PipesSoFar g old new d l.pipe-index l.pipes l.fn.parts l.parts;
}
