use Rattle.sdd_exec.proofs.joins.take_untied.Goals as goal

pub returns : goal.returns
returns c = rw (c.deref.ensures.value, c.in_ok-places.ensures, c.rows.ensures, c.count.ensures) at c.extend_each.ensures
