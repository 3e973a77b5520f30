use Rattle.sdd_net.proofs.InOrder.{in_order, whole}
use Rattle.sdd_net.proofs.law.law_in_order.Goals as goal

pub returns-clause-in_order : goal.returns-clause-in_order
returns-clause-in_order g c = in_order

pub returns-clause-whole : goal.returns-clause-whole
returns-clause-whole g c = whole
