use Rattle.std.proofs.Common.{arith}
use Rattle.std.proofs.lemmas.Grind.{common_steps}
use Rattle.sdd_plain.proofs.All.{[], ap, as_of, deref_pair, entries_of, filter, iter_end, map, meets_all, ◌∙◌, ◌∷◌}
use Rattle.sdd_plain.proofs.Near.{matching_rows}
use Rattle.sdd_plain.proofs.rows.Rows.find_matching.Goals as goal

pub returns : goal.returns
returns c =
    let all = (iter_end deref_pair _ c.rows.yielded _ _ _ _ c.into_iter-item-iterator.ensures.into_iter_gives c.rows.yielded_by c.in-None.is c.next.ensures.steps).0 in
    ap (entries_of c.args.rel.0) c.from_vec.ensures
    ∙ c.rows.invariant
    ∙ ap (λ es. map (as_of c.args.rel.0) (filter (λ e. meets_all c.args.conds.now (e.1 ∷ [])) es)) all
    ∙ matching_rows c.args.rel.0 c.args.conds.now c.args.self.now _ c.in_ok-items.ensures

pub rows-preserved : goal.rows-preserved
rows-preserved c = grind (arith, common_steps)

pub rows-preserved-in_ok-push : goal.rows-preserved-in_ok-push
rows-preserved-in_ok-push c = grind (arith, common_steps)
