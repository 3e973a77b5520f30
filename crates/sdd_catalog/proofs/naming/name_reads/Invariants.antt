use Rattle.sdd_catalog.proofs.All.{map, read_part, take, ◌≡◌}
use Rattle.sdd_catalog.proofs.naming.name_reads.Given as goal

-- the parts so far are the items so far, named
abbrev pub invariant-loop-read : goal.invariant-loop-read
invariant-loop-read l = l.parts.items ≡ map (read_part (map (λ f. f.name) l.fragments)) (take l.read-index l.reads)
