use Rattle.sdd_world.proofs.All.{handed_on, kept_from, mailbox_at, refl, ◌∙◌}
use Rattle.sdd_world.proofs.Keeping.{placed}
use Rattle.sdd_world.proofs.Rising.{boxed, first_kept, less_kept, none_left, rising_on, taken_out}
use Rattle.sdd_world.proofs.world.World.hand_kept.Goals as goal

pub take-requires-clause-placed : goal.take-requires-clause-placed
take-requires-clause-placed c = let i = c.loop-from.invariant.some in placed i.0 i.1 c.loop-from.self.spool c.args.at c.args.at i.3.here i.2.spooled

pub hand-requires : goal.hand-requires
hand-requires c =
    let i = c.loop-from.invariant.some in
    let e = c.in-Some.ensures in
    let t = taken_out
    c.loop-from.self (record c.loop-from.self { spool = c.take.new.self }) i.0 i.1 c.args.at
    c.in-Some.from c.in-Some.msg i.2 i.3 e.message.0 e.others refl in (
      i.0,
      i.1,
      kept_from (mailbox_at c.loop-from.self.spool c.args.at),
      kept_from (mailbox_at c.take.new.self c.args.at) c.in-Some.from,
      t.0,
      first_kept i.0 c.loop-from.self.spool c.take.new.self c.args.at c.in-Some.from c.in-Some.msg i.3 e.message.0 e.message.1,
    )

pub loop-from-smaller : goal.loop-from-smaller
loop-from-smaller c =
    let i = c.loop-from.invariant.some in
    let e = c.in-Some.ensures in
    let t = taken_out
    c.loop-from.self (record c.loop-from.self { spool = c.take.new.self }) i.0 i.1 c.args.at
    c.in-Some.from c.in-Some.msg i.2 i.3 e.message.0 e.others refl in
    let d = c.in_ok-hand.ensures.ok i.0 i.1 (kept_from (mailbox_at c.loop-from.self.spool c.args.at))
    (kept_from (mailbox_at c.take.new.self c.args.at)) (kept_from (mailbox_at c.take.new.self c.args.at) c.in-Some.from) t.0
    (first_kept i.0
    c.loop-from.self.spool c.take.new.self c.args.at c.in-Some.from c.in-Some.msg i.3 e.message.0
    e.message.1) (less_kept
    c.loop-from.self.spool c.take.new.self c.args.at c.in-Some.from c.in-Some.msg e.message.0) in
    boxed c.loop-from.self.spool c.take.new.self c.hand.new.self.spool c.args.at d.spool_is e.message.0.fewer

pub loop-from-preserved : goal.loop-from-preserved
loop-from-preserved c =
    let i = c.loop-from.invariant.some in
    let e = c.in-Some.ensures in
    record {
      some = (let r = rising_on
          c.loop-from.self c.take.new.self c.hand.new.self i.0 i.1 c.args.at c.in-Some.from c.in-Some.msg i.2
          i.3 e.message.0 e.message.1 e.others c.in_ok-hand.ensures.ok in (i.0, r.0, r.1, r.2));
      so_far = λ given log h k.
          (let j = c.loop-from.invariant.so_far given log h k in
          let r = rising_on
          c.loop-from.self c.take.new.self c.hand.new.self given j.0 c.args.at c.in-Some.from
          c.in-Some.msg j.1 j.2 e.message.0 e.message.1 e.others c.in_ok-hand.ensures.ok in
          (r.0, r.1, r.2, r.3 ∙ j.3));
    }

pub returns-in_err-hand-clause-limit : goal.returns-in_err-hand-clause-limit
returns-in_err-hand-clause-limit c = λ x given log h k.
    let j = c.loop-from.invariant.so_far given log h k in
    let e = c.in-Some.ensures in
    let t = taken_out
    c.loop-from.self (record c.loop-from.self { spool = c.take.new.self }) given j.0 c.args.at
    c.in-Some.from c.in-Some.msg j.1 j.2 e.message.0 e.others refl in
    c.in_err-hand.ensures.limit (handed_on c.from_residual.result c.in_err-hand.field-0.0
    c.from_residual.ensures.1 x) given j.0 (kept_from (mailbox_at c.loop-from.self.spool c.args.at))
    (kept_from (mailbox_at c.take.new.self c.args.at) c.in-Some.from) t.0
    (first_kept given
    c.loop-from.self.spool c.take.new.self c.args.at c.in-Some.from c.in-Some.msg j.2 e.message.0
    e.message.1)

pub returns-clause-ok : goal.returns-clause-ok
returns-clause-ok c = λ given log h k.
    let j = c.loop-from.invariant.so_far given log h k in
    let e = c.in_default.ensures in
    none_left c.loop-from.self
    c.take.new.self given log j.0 c.args.at j.1 j.2 j.3 e.message.0 e.message.1 e.others
