use Rattle.sdd_robust.proofs.PlaceSets.{AreTaken}
use Rattle.sdd_robust.proofs.place_set.PlaceSet.take.Given as goal

abbrev pub invariant-words : goal.invariant-words
invariant-words l = AreTaken l.initial.self-inside.words.items l.others l.self-inside.words.items l.initial.queue.items l.queue.items l.at
