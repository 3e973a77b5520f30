use Rattle.sdd_advise.proofs.Right.{good_advice_is_right}
use Rattle.sdd_advise.proofs.law.law_good_advice_is_right.Goals as goal

pub returns : goal.returns
returns c = good_advice_is_right c.args.catalogue.now
