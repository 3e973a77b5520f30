use Rattle.sdd_dm.proofs.Ranks.{lowest_is_next}
use Rattle.sdd_dm.proofs.law.law_lowest_rank_is_next.Goals as goal

pub returns : goal.returns
returns g = lowest_is_next
