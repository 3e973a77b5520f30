use Rattle.sdd_dm.proofs.All.{arith, refl, set_is_update, sym, update_past}
use Rattle.sdd_dm.proofs.slots.set_waiting.Goals as goal

pub returns-then-at-len : goal.returns-then-at-len
returns-then-at-len c = set_is_update (λ w. c.args.waiting) c.args.waits.now.items c.args.waits.now.items c.args.class.0 c.index_mut.result.now c.args.waiting
    c.index_mut.ensures.value refl refl

pub returns-else-at-len : goal.returns-else-at-len
returns-else-at-len c = sym (update_past c.args.class.0 (λ w. c.args.waiting) c.args.waits.now.items (omega (arith, c.len.ensures, c.if-at-len.false)))
