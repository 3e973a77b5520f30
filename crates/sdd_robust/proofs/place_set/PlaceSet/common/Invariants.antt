use Rattle.std.proofs.Common.{◌≡◌}
use Rattle.sdd_robust.proofs.WordPlaces.{common_below}
use Rattle.sdd_robust.proofs.place_set.PlaceSet.common.Given as goal

-- what both have by the words so far is found
abbrev pub invariant-words : goal.invariant-words
invariant-words l = l.found.items ≡ common_below l.self l.others l.at
