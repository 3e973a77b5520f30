use Rattle.sdd_lists.proofs.All.{drop, numbered, whole, ◌≡◌}
use Rattle.sdd_lists.proofs.Steps.{IsExtendedBy}
use Rattle.sdd_lists.proofs.following.whole_of.Given as goal

-- what comes of the catalogue with the lists that are left
abbrev pub invariant-lists : goal.invariant-lists
invariant-lists l = record {
  follows : IsExtendedBy l.catalogue l.all (drop l.classes-index l.lists);
  all : whole l.all (numbered l.catalogue (drop l.classes-index l.lists)) ≡ whole l.catalogue (numbered l.catalogue l.lists);
}
