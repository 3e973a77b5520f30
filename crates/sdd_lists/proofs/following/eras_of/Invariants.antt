use Rattle.sdd_lists.proofs.All.{drop, eras, numbered, ◌++◌, ◌≡◌}
use Rattle.sdd_lists.proofs.Steps.{IsExtendedBy}
use Rattle.sdd_lists.proofs.following.eras_of.Given as goal

-- those before the last, and what comes of the last with the lists that are left
abbrev pub invariant-lists : goal.invariant-lists
invariant-lists l = record {
  follows : IsExtendedBy l.catalogue l.last (drop l.classes-index l.lists);
  all : l.before.items ++ eras l.last (numbered l.catalogue (drop l.classes-index l.lists)) ≡ eras l.catalogue (numbered l.catalogue l.lists);
}
