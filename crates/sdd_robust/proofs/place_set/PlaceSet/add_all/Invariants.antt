use Rattle.sdd_robust.proofs.PlaceSets.{AreAdded}
use Rattle.sdd_robust.proofs.place_set.PlaceSet.add_all.Given as goal

abbrev pub invariant-words : goal.invariant-words
invariant-words l = AreAdded l.initial.self-inside.words.items l.others l.self-inside.words.items l.at
