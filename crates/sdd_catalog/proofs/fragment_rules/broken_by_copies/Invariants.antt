use Rattle.sdd_catalog.proofs.All.{copy_rules, drop, found_from, found_in, head_of, take, ◌≡◌}
use Rattle.sdd_catalog.proofs.fragment_rules.broken_by_copies.Given as goal

-- nothing is found so far
abbrev pub invariant-loop-index : goal.invariant-loop-index
invariant-loop-index l =
    head_of (found_in (copy_rules l.dms) l.copies) ≡ head_of (found_from (copy_rules l.dms) (take l.index l.copies) (drop l.index l.copies))
