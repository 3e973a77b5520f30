use Rattle.sdd_copy.proofs.All.{arith, on_ok_weaker, option_map, written}
use Rattle.sdd_copy.proofs.Represented.{held_past, map_changed}
use Rattle.sdd_copy.proofs.copies.write_to.Goals as goal

pub returns-then-at-len-clause-held : goal.returns-then-at-len-clause-held
returns-then-at-len-clause-held c = held_past c.args.copies.now.items (c.args.ts.0, c.args.change) (omega (arith, c.len.ensures, c.if-at-len.true))

pub returns-clause-held : goal.returns-clause-held
returns-clause-held c =
    on_ok_weaker c.write_one.result
    (map_changed (λ k. option_map (λ k. k.value) k) (option_map (λ items. written items (c.args.ts.0, c.args.change)))
    c.args.copies.now.items c.args.change.frag.0 c.index_mut.result.now c.write_one.new.copy c.index_mut.ensures.value)
    c.write_one.ensures.held
