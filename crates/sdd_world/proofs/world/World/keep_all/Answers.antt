use Rattle.sdd_world.proofs.Keeping.{all_put, placed, put_one, same_again, sender_of}
use Rattle.sdd_world.proofs.world.World.keep_all.Goals as goal

pub put-requires-clause-placed : goal.put-requires-clause-placed
put-requires-clause-placed c =
    let i = c.loop-msg.invariant.some in placed i.0 i.1 c.loop-msg.self.spool c.args.at c.args.at i.2.here i.2.others

pub put-requires-clause-sender : goal.put-requires-clause-sender
put-requires-clause-sender c = let i = c.loop-msg.invariant.some in sender_of i.0 c.args.from c.args.at c.loop-msg.self.spool i.2.linked i.2.senders

pub loop-msg-preserved : goal.loop-msg-preserved
loop-msg-preserved c =
    let i = c.loop-msg.invariant in
    let e = c.in_ok-put.ensures in
    record {
      same = same_again c.args.self.now c.loop-msg.self c.put.new.self i.same;
      some = (
        i.some.0,
        i.some.1,
        put_one i.some.0 i.some.1 c.loop-msg.self.spool c.put.new.self c.args.from c.args.at
            c.loop-msg.queue.items c.pop_front.new.self.items c.in-Some.msg c.in-Some.ensures.items i.some.2 e.mailbox e.others,
      );
      so_far = λ given log k. put_one given log c.loop-msg.self.spool c.put.new.self c.args.from c.args.at
          c.loop-msg.queue.items c.pop_front.new.self.items c.in-Some.msg c.in-Some.ensures.items (i.so_far given log k) e.mailbox e.others;
    }

pub returns-clause-kept : goal.returns-clause-kept
returns-clause-kept c = λ given log k.
    all_put given log
    c.loop-msg.self.spool c.args.from c.args.at c.loop-msg.queue.items
    (c.loop-msg.invariant.so_far given log k) c.loop-msg.queue.len c.loop-msg.queue.ok.0
    c.in_default.ensures.cases.0
