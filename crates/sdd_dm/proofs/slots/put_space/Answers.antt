use Rattle.sdd_dm.proofs.All.{arith, refl, set_is_update, sym, update_past}
use Rattle.sdd_dm.proofs.slots.put_space.Goals as goal

pub returns-then-at-len-clause-new : goal.returns-then-at-len-clause-new
returns-then-at-len-clause-new c = sym (update_past c.args.class.0 (λ f. c.args.space) c.args.spaces.now.items (omega (arith, c.len.ensures)))

pub returns-clause-new : goal.returns-clause-new
returns-clause-new c = set_is_update (λ f. c.args.space) c.args.spaces.now.items _ c.args.class.0 c.index_mut.result.now c.replace.new.dest
    c.index_mut.ensures.value c.replace.ensures.after refl
