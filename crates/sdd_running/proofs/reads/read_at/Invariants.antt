use Rattle.sdd_running.proofs.All.{filter, is_read_at, take, ◌≡◌}
use Rattle.sdd_running.proofs.reads.read_at.Given as goal

abbrev pub invariant-loop-frag : goal.invariant-loop-frag
invariant-loop-frag l = l.found.items ≡ filter (λ f. is_read_at l.catalogue l.class.0 l.dm.0 f.0) (take l.frag-index l.frags)
