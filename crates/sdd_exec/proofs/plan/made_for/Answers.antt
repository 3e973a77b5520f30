use Rattle.sdd_exec.proofs.All.{Has, Has-get_or, subst, sym, ◌≡◌}
use Rattle.sdd_exec.proofs.Planned.{made_serves}
use Rattle.sdd_exec.proofs.plan.made_for.Goals as goal

pub returns-then-is_of : goal.returns-then-is_of
returns-then-is_of c =
    λ ties alike q.
    let e : c.in_ok-rows.rows.value ≡ c.one-item.result.rows.value = c.in_ok-rows.ensures.cases in
    rw e
    (made_serves c.args.parts.now c.args.conds.now c.args.made.now c.one-item.result c.args.part c.args.columns.now ties q c.requires
    (subst (Has c.args.made.now) (sym c.one-item.is) (Has-get_or c.args.made.now c.loop-one.one-index c.one-item.result c.loop-one-test.true))
    (c.is_of.ensures c.if-is_of.true) alike)
