use Rattle.sdd_catalog.proofs.All.{drop, found_from, found_in, head_of, read_rules, take, ◌≡◌}
use Rattle.sdd_catalog.proofs.class_rules.broken_by_reads.Given as goal

-- nothing is found so far
abbrev pub invariant-loop-index : goal.invariant-loop-index
invariant-loop-index l =
    head_of (found_in (read_rules l.parts) l.reads) ≡ head_of (found_from (read_rules l.parts) (take l.index l.reads) (drop l.index l.reads))
