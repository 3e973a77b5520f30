use Rattle.sdd_net.proofs.All.{map, placed, take, ◌≡◌}
use Rattle.sdd_net.proofs.placed_link.place_all.Given as goal

abbrev pub invariant-loop-from : goal.invariant-loop-from
invariant-loop-from l = l.all.items ≡ map (placed l.tms l.dms) (take l.from-index l.links)
