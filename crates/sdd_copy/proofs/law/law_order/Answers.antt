use Rattle.sdd_copy.proofs.Order.{order_tells_nothing}
use Rattle.sdd_copy.proofs.law.law_order.Goals as goal

pub returns : goal.returns
returns c = order_tells_nothing
