use Rattle.sdd_moments.proofs.All.{drop, filter_map, purposed_above, ◌++◌, ◌≡◌}
use Rattle.sdd_moments.proofs.waiting.Waiting.note_all.Given as goal

-- what is added and what is left to add is all of it
abbrev pub invariant-packets : goal.invariant-packets
invariant-packets l =
    l.self ++ filter_map (purposed_above l.sent) (drop l.packet-index l.packets) ≡ l.fn.self ++ filter_map (purposed_above l.sent) l.packets
