use Rattle.sdd_laws.proofs.Values.{some_value, one_value}
use Rattle.sdd_laws.proofs.contents_law.law_one_value.Goals as goal

pub returns-clause-some : goal.returns-clause-some
returns-clause-some c = some_value c.args.catalogue.now

pub returns-clause-one : goal.returns-clause-one
returns-clause-one c = one_value c.args.catalogue.now
