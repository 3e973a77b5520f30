use Rattle.sdd_dm.proofs.All.{arith, reduced_at, refl, set_is_update, sym, update_past}
use Rattle.sdd_dm.proofs.slots.reduce_space.Goals as goal

pub returns-in_ok-reduce_slot : goal.returns-in_ok-reduce_slot
returns-in_ok-reduce_slot c =
    set_is_update (reduced_at c.args.ts.0 c.args.use_no c.args.column c.args.values.now) c.args.spaces.now.items c.args.spaces.now.items
    c.args.class.0 c.index_mut.result.now c.reduce_slot.new.slot c.index_mut.ensures.value c.in_ok-reduce_slot.ensures refl

pub returns-else-at-len : goal.returns-else-at-len
returns-else-at-len c =
    sym (update_past c.args.class.0 (reduced_at c.args.ts.0 c.args.use_no c.args.column c.args.values.now) c.args.spaces.now.items
    (omega (arith, c.len.ensures, c.if-at-len.false)))
