use Rattle.sdd_advise.proofs.Diagonals.{advices_say_the_table}
use Rattle.sdd_advise.proofs.law.law_advices_say_the_table.Goals as goal

pub returns : goal.returns
returns c = advices_say_the_table c.args.catalogue.now
