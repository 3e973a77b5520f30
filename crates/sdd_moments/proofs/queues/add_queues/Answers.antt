use Rattle.sdd_moments.proofs.All.{Line, [], ap, map, mapped_end, queue_in, queue_of, ◌++◌, ◌∙◌, ◌∷◌}
use Rattle.sdd_moments.proofs.Loops.{mapped_more}
use Rattle.sdd_moments.proofs.queues.add_queues.Goals as goal

pub loop-class-preserved : goal.loop-class-preserved
loop-class-preserved c =
    mapped_more queue_in c.args.classes.now c.class-item.result c.loop-class.queues.items c.push.new.self.items
    (c.args.queues.now.items ++ map queue_in c.args.classes.now) c.loop-class.class-index c.loop-class-test.true c.class-item.is
    (c.in_ok-push.ensures.items ∙ ap (λ q. c.loop-class.queues.items ++ q ∷ [])
    (c.in_ok-queue.ensures ∙ ap (λ (k : Line). queue_of k.class k.queue) c.line.ensures))
    c.loop-class.invariant

pub returns : goal.returns
returns c =
    mapped_end queue_in c.args.classes.now c.loop-class.queues.items (c.args.queues.now.items ++ map queue_in c.args.classes.now)
    c.loop-class.class-index c.loop-class-test.false c.loop-class.invariant
