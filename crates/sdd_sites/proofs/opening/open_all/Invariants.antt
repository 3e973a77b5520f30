use Rattle.sdd_sites.proofs.All.{AllByRecursion, FitsMsg, map, spelled, take, ◌≡◌}
use Rattle.sdd_sites.proofs.opening.open_all.Given as goal

-- so far the messages are those of the spellings so far
abbrev pub invariant-spellings : goal.invariant-spellings
invariant-spellings l = record { spelled : take l.spelling-index l.spelling-items ≡ map spelled l.messages.items; fit : AllByRecursion FitsMsg l.messages.items }
