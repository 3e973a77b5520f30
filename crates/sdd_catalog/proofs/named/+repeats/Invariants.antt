use Rattle.sdd_catalog.proofs.All.{length}
use Rattle.sdd_catalog.proofs.named.+repeats.Given as goal

abbrev pub decreases-repeats : goal.decreases-repeats
decreases-repeats g l = length l.items.now
