use Rattle.sdd_copy.proofs.All.{ap, arith, known_use, length, sym, with_items_is, ◌∙◌, ◌≡◌}
use Rattle.sdd_copy.proofs.Uses.{over_more, reduced_all, with_uses}
use Rattle.sdd_copy.proofs.space.Space.reduce.Goals as goal

pub loop-one-preserved : goal.loop-one-preserved
loop-one-preserved c =
    let reduces = known_use c.args.use_no c.args.column c.in_ok-known.known.keys in
    over_more reduces c.deref_mut-one-items.result.now c.loop-one.one-items c.loop-one.one-index c.one-item.result
    c.reduce_use.new.one c.loop-one-test.true c.loop-one.invariant c.one-item.is (c.reduce_use.ensures ∙ ap reduces (sym c.one-item.is))

pub returns-clause-ok : goal.returns-clause-ok
returns-clause-ok c =
    let whole : length c.loop-one.one-items ≡ c.self.inside.uses.len = omega (arith, c.loop-one.auto.one-items, c.deref_mut-one-items.ensures.len) in
    ap (with_uses c.self.inside.ts.0) (with_items_is c.self.inside.uses c.loop-one.one-items whole)
    ∙ reduced_all c.args.use_no c.args.column c.loop-one.one-index c.args.values.now c.in_ok-known.known.keys
    c.loop-one.one-items c.deref_mut-one-items.result.now c.self.inside.ts.0 c.args.self.now
    c.in_ok-known.ensures c.loop-one.invariant c.loop-one-test.false
    (c.deref_mut-one-items.ensures.value ∙ ap (λ v. v.uses) c.self.view_is) (ap (λ v. v.ts) c.self.view_is)
