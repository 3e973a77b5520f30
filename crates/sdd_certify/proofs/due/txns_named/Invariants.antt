use Rattle.sdd_certify.proofs.All.{map, take, txns_named, ◌≡◌}
use Rattle.sdd_certify.proofs.due.txns_named.Given as goal

-- the transactions of the names so far
abbrev pub invariant-names : goal.invariant-names
invariant-names l = map (λ t. t.now) l.found.items ≡ txns_named l.work.txns (map (λ w. w.now) (take l.name-index l.names))
