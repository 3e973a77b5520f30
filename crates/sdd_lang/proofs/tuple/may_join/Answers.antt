use Rattle.sdd_lang.proofs.All.{◌∙◌}
use Rattle.sdd_lang.proofs.Joining.{each_lets_join}
use Rattle.sdd_lang.proofs.tuple.may_join.Goals as goal

pub returns : goal.returns
returns c = c.each_lets_join.ensures ∙ each_lets_join c.args.conds.now c.args.part c.args.row.now
