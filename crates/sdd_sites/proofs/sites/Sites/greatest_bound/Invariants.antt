use Rattle.sdd_sites.proofs.All.{AllRepresent, Input, Log, bound_at, fold, greatest_bound, map, max, range_with_len, ◌+◌, ◌-◌, ◌≡◌}
use Rattle.sdd_sites.proofs.sites.Sites.greatest_bound.Given as goal

abbrev pub invariant-loop-number : goal.invariant-loop-number
invariant-loop-number l = (g : Input) (log : Log) → l.catalogue.tms ≡ g.catalogue.tms → AllRepresent l.self g log
    → fold max l.greatest (map (bound_at g log) (range_with_len l.number (l.catalogue.tms + 1 - l.number))) ≡ greatest_bound g log
