use Rattle.std.proofs.Common.{arith}
use Rattle.std.proofs.lemmas.Grind.{common_steps}
use Rattle.sdd_plain.proofs.All.{ap, deref_pair, filter, iter_end, map, may_join, ◌∙◌}
use Rattle.sdd_plain.proofs.Near.{part_rows}
use Rattle.sdd_plain.proofs.rows.Rows.part.Goals as goal

pub returns : goal.returns
returns c =
    let all = (iter_end deref_pair _ c.rows.yielded _ _ _ _ c.into_iter-row-iterator.ensures.into_iter_gives c.rows.yielded_by c.in-None.is c.next.ensures.steps).0 in
    c.rows.invariant
    ∙ ap (λ es. filter (may_join c.args.conds.now c.args.part) (map (λ e. e.1) es)) all
    ∙ part_rows c.args.rel.0 c.args.part c.args.conds.now c.args.self.now _ c.in_ok-items.ensures

pub rows-preserved : goal.rows-preserved
rows-preserved c = grind (arith, common_steps)

pub rows-preserved-in-Continue-branch-2 : goal.rows-preserved-in-Continue-branch-2
rows-preserved-in-Continue-branch-2 c = grind (arith, common_steps)
