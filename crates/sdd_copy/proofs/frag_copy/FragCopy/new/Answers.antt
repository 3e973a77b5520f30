use Rattle.sdd_copy.proofs.Initial.{one_initial}
use Rattle.sdd_copy.proofs.frag_copy.FragCopy.new.Goals as goal

pub loop-row-preserved : goal.loop-row-preserved
loop-row-preserved c = λ f.
    one_initial f c.args.key c.in-Some.row.now c.next.new.self.iter.rest.now c.loop-row.row-iterator.iter.rest.now
    c.loop-row.items c.add_initial.new.self _ c.in-Some.ensures.steps (c.in_ok-add_initial.ensures f) (c.loop-row.invariant f)
