use Rattle.sdd_catalog.proofs.All.{frag_no, fragment_names, map, number_of, take, ◌≡◌}
use Rattle.sdd_catalog.proofs.resolve.resolve_writes.Given as goal

-- what is resolved are the parts so far
abbrev pub invariant-loop-name : goal.invariant-loop-name
invariant-loop-name l = l.resolved.items ≡ map (λ name. frag_no (number_of name (fragment_names l.parts.fragments))) (take l.name-index l.writes)
