use Rattle.sdd_dm.proofs.LowestClass.{lowest_is_named}
use Rattle.sdd_dm.proofs.law.law_lowest_class_is_named.Goals as goal

pub returns : goal.returns
returns g = lowest_is_named
