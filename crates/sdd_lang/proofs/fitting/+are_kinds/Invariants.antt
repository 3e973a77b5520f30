use Rattle.sdd_lang.proofs.All.{length}
use Rattle.sdd_lang.proofs.fitting.+are_kinds.Given as goal

-- one value fewer
abbrev pub decreases-are_kinds : goal.decreases-are_kinds
decreases-are_kinds l = length l.values.now
