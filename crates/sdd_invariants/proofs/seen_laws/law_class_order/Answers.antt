use Rattle.sdd_invariants.proofs.ClassOrder.{around_head}
use Rattle.sdd_invariants.proofs.seen_laws.law_class_order.Goals as goal

pub returns : goal.returns
returns g = around_head
