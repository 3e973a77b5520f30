use Rattle.sdd_pipe.proofs.All.{empty_digest, replicate, ◌≡◌}
use Rattle.sdd_pipe.proofs.pipes.Pipes.new.Given as goal

abbrev pub invariant-loop : goal.invariant-loop
invariant-loop l = l.pipes.items ≡ replicate l.counter empty_digest
