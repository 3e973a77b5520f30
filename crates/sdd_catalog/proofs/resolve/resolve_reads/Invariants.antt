use Rattle.sdd_catalog.proofs.All.{fragment_names, map, read_of, take, ◌≡◌}
use Rattle.sdd_catalog.proofs.resolve.resolve_reads.Given as goal

-- what is resolved are the parts so far
abbrev pub invariant-loop-read : goal.invariant-loop-read
invariant-loop-read l = l.resolved.items ≡ map (read_of (fragment_names l.parts.fragments)) (take l.read-index l.reads)
