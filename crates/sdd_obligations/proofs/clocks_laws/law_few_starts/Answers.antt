use Rattle.sdd_obligations.proofs.Counting.{class_few, site_few}
use Rattle.sdd_obligations.proofs.clocks_laws.law_few_starts.Goals as goal

pub returns-clause-of_class : goal.returns-clause-of_class
returns-clause-of_class g = class_few

pub returns-clause-of_site : goal.returns-clause-of_site
returns-clause-of_site g = site_few
