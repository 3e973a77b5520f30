use Rattle.sdd_graph.proofs.All.{filter, is_some, numbers_to, reads_at, ◌-◌, ◌≡◌}
use Rattle.sdd_graph.proofs.class_uses.reads_of.Given as goal

-- the fragments so far that are read
abbrev pub invariant-loop-f : goal.invariant-loop-f
invariant-loop-f l = l.reads.items ≡ filter (λ f. is_some (reads_at l.catalogue l.class.0 f)) (numbers_to (l.f - 1))
