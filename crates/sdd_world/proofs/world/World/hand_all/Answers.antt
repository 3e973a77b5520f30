use Rattle.sdd_world.proofs.All.{HandedOn, Handing, from_one, handed_on, no_items, position_of, subst}
use Rattle.sdd_world.proofs.Delivering.{handed_further, handed_none, handed_whole, one_first, one_takes}
use Rattle.sdd_world.proofs.world.World.hand_all.Goals as goal

pub loop-msg-init : goal.loop-msg-init
loop-msg-init c =
    let r = c.requires in
    record {
      some = (
        r.0,
        r.1,
        r.2,
        subst (λ q. Handing c.args.self.now r.0 r.1 c.args.to (from_one c.args.from q))
            (handed_whole c.args.messages c.from_vec-queue.result.items c.into_vec.ensures
            c.from_vec-queue.ensures.items) r.3,
      );
      so_far = λ given log l h. handed_none c.args.self.now given log c.args.from c.args.to c.args.messages
          c.from_vec-queue.result.items (handed_whole c.args.messages c.from_vec-queue.result.items
          c.into_vec.ensures c.from_vec-queue.ensures.items) h;
    }

pub hand-requires : goal.hand-requires
hand-requires c =
    let i = c.loop-msg.invariant.some in (
      i.0,
      i.1,
      from_one c.args.from c.loop-msg.queue.items,
      c.pop_front.new.self.items,
      i.3,
      one_first i.0 c.args.from c.args.to c.loop-msg.queue.items c.pop_front.new.self.items c.in-Some.msg c.in-Some.ensures.items i.2,
    )

pub loop-msg-preserved : goal.loop-msg-preserved
loop-msg-preserved c =
    let i = c.loop-msg.invariant.some in
    let q = c.loop-msg.queue.items in
    let rest = c.pop_front.new.self.items in
    let d = c.in_ok-hand.ensures.ok i.0 i.1 (from_one c.args.from q) (from_one c.args.from rest) rest i.3
    (one_first i.0 c.args.from
    c.args.to q rest c.in-Some.msg c.in-Some.ensures.items i.2)
    (one_takes c.args.from q
    rest c.in-Some.msg c.in-Some.ensures.items) in
    record {
      some = (i.0, d.more, i.2, d.handing);
      so_far = λ given log l h.
          let k = c.loop-msg.invariant.so_far given log l h in
          handed_further
          c.hand.new.self given c.args.to (from_one c.args.from rest) (position_of given log)
          (position_of given k.more) c.args.self.now.spool c.loop-msg.self.spool k.position_is k.spool_is
          (c.in_ok-hand.ensures.ok given k.more (from_one c.args.from q) (from_one c.args.from rest) rest
          k.handing (one_first
          given c.args.from c.args.to q rest c.in-Some.msg c.in-Some.ensures.items l)
          (one_takes c.args.from
          q rest c.in-Some.msg c.in-Some.ensures.items));
    }

pub returns-in_err-hand-clause-limit : goal.returns-in_err-hand-clause-limit
returns-in_err-hand-clause-limit c = λ e given log l h.
    let k = c.loop-msg.invariant.so_far given log l h in
    c.in_err-hand.ensures.limit (handed_on c.from_residual.result c.in_err-hand.field-0.0
    c.from_residual.ensures.1 e) given k.more (from_one c.args.from c.loop-msg.queue.items)
    c.pop_front.new.self.items k.handing
    (one_first given c.args.from
    c.args.to c.loop-msg.queue.items c.pop_front.new.self.items c.in-Some.msg c.in-Some.ensures.items l)

pub returns-clause-ok : goal.returns-clause-ok
returns-clause-ok c = λ given log l h.
    subst (λ q. HandedOn c.loop-msg.self given c.args.to (from_one c.args.from q) (position_of given log) c.args.self.now.spool)
    (no_items c.loop-msg.queue.items c.loop-msg.queue.len c.loop-msg.queue.ok.0 c.in_default.ensures.cases.0) (c.loop-msg.invariant.so_far given log l h)
