use Rattle.sdd_links.proofs.All.{groups, take, ◌≡◌}
use Rattle.sdd_links.proofs.groups.Groups.of.Given as goal

abbrev pub invariant-loop-key : goal.invariant-loop-key
invariant-loop-key l = l.made ≡ groups (take l.key-index l.pairs) l.count
